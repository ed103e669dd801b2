-- A test before a first block guides the verifier: it goes on to the block, with the name that the test declares, or
-- elsewhere as it was before the test.
use Rattle.std.proofs.Common.{◌≡◌, ℕ, ◌+◌, ◌<◌, ◌≤◌, Bool, true, false, List, [], ◌++◌, length, Option, Some, None, Ok, refl, subst, sym, ap, ◌∙◌, arith, append_assoc, length-append}
use Rattle.std.proofs.lemmas.List.{append-nil}
use Rattle.bb_schema.specs.Schema.{Schema}
use Rattle.bb_schema.specs.Fits as schemas
use Rattle.bb_code.specs.Code.{Code}
use Rattle.bb_code.specs.declared.frame.Kind.{Kind}
use Rattle.bb_code.specs.declared.op.Op.{Op}
use Rattle.bb_compile_buffer.specs.declared.buffer.Buffer.{Buffer}
use Rattle.bb_compile.specs.declared.exits.Exits.{Exits}
use Rattle.bb_verify_effect.specs.declared.frame.Frame.{Frame}
use Rattle.bb_verify_effect.specs.declared.part.Part.{Part}
use Rattle.bb_verify.specs.Places.{frame_at, on_due, target_due}
use Rattle.bb_theorem_accepted.proofs.buffers.BufferLemmas.{Grown, Has, count_of}
use Rattle.bb_theorem_accepted.proofs.blocks.AimLemmas.{all_aimed, same_aimed}
use Rattle.bb_theorem_accepted.proofs.blocks.GuardLemmas.{Guard}
use Rattle.bb_theorem_accepted.proofs.kinds.KnowLemmas.{Knows, Finds}
use Rattle.bb_theorem_accepted.proofs.kinds.LabelLemmas.{listed, labels_of, label_at, found_past}
use Rattle.bb_theorem_accepted.proofs.kinds.MoveLemmas.{Moves, moves_same, moves_on}
use Rattle.bb_theorem_accepted.proofs.walks.WalkLemmas.{Walks, At}
use Rattle.bb_theorem_accepted.proofs.walks.TraceLemmas.{Traced, traced_walk, traced_here}
use Rattle.bb_theorem_accepted.proofs.walks.JoinLemmas.{here, kinds_here, HasFrame, Sound}
use Rattle.bb_theorem_accepted.proofs.blocks.BlockLemmas.{Lays as LaysBlock, same_labels}
use Rattle.bb_theorem_accepted.proofs.walks.GoesLemmas.{After, plain_here, plain_sound}

module _ (schema : Schema) (sf : schemas.Fits schema) (part : Part) (code : Code) where
  abbrev IsSound : Buffer → Type 0
  IsSound t = Sound schema sf part code t

  abbrev WalksHere : ℕ → List Op → (next out : Option Frame) → Type 0
  WalksHere place listed next out = Walks schema part code place listed next out

  abbrev AfterHere : Bool → ℕ → List Op → Option Frame → Buffer → Type 0
  AfterHere ended place listed next t = After schema sf part code ended place listed next t

  abbrev Fitting : Frame → List Kind → Type 0
  Fitting f ks = HasFrame schema sf part code f ks

  -- from one frame before a test to another after it, and to the first elsewhere
  abbrev pub Led : (s u : Buffer) (exits : Exits) (gd : Guard s u exits) (grown : Grown s gd.behind) (f own : Frame) → Type 0
  Led s u exits gd grown f own =
      (at : ℕ) (rest listed : List Op) (next out : Option Frame) → listed ≡ gd.named.ops ++ rest → frame_at (At schema part code (length s.ops)) next ≡ Ok f
      → ((p : ℕ) → length s.ops < p → p < length u.ops → At schema part code p ≡ None) → length gd.tested.ops ≤ at → at < length code.ops → length u.ops < length code.ops
      → on_due schema (Some own) (At schema part code (length u.ops)) ≡ Ok tt → target_due schema (Some f) (At schema part code at) ≡ Ok tt → WalksHere (length u.ops) rest (Some own) out
      → WalksHere (length s.ops) (grown.ops ++ (all_aimed gd.es at ++ listed)) next out

  pub record Guides (s u : Buffer) (exits : Exits) (gd : Guard s u exits) : Type 0 where
    pub grown : Grown s gd.behind
    pub scope : gd.tested.scope ≡ s.scope
    pub locals : gd.tested.locals ≡ s.locals
    pub moves : Moves schema sf gd.tested u
    pub leads : IsSound s → s.locals ≤ code.locals → u.locals ≤ code.locals → (f : Frame) → Fitting f s.scope.kinds → (own : Frame) × Fitting own u.scope.kinds × Led s u exits gd grown f own

  module _ (s u : Buffer) (exits : Exits) (gd : Guard s u exits) where
    pub tested_count : length gd.tested.ops ≡ length gd.behind.ops + length gd.es
    tested_count = ap length gd.ops ∙ length-append gd.behind.ops gd.es

    pub put_count : length u.ops ≡ length gd.behind.ops + length gd.es + length gd.named.ops
    put_count = let one = tested_count in let two = count_of gd.tested u gd.named in omega (arith, one, two)

    pub in_labels : labels_of u ≡ labels_of s
    in_labels = same_labels s u (gd.labels ∙ gd.adds.labels) (gd.last ∙ gd.adds.last)

    pub ahead : length s.ops < length u.ops
    ahead = let one = count_of s gd.behind gd.adds.grown in let two = put_count in let some = gd.some in omega (arith, one, two, some)

    module _ (m : Guides s u exits gd) (sound : IsSound s) where
      pub in_moves : Moves schema sf s gd.tested
      in_moves = moves_same schema sf s gd.tested m.scope m.locals

      pub in_sound : IsSound u
      in_sound = plain_sound schema sf part code s u sound (gd.labels ∙ gd.adds.labels) (gd.last ∙ gd.adds.last) ahead ((moves_on schema sf s gd.tested u in_moves m.moves).tidy sound.tidy)

      in_here : here u ≡ None
      in_here = plain_here schema sf part code s u sound in_labels ahead

      pub in_fits : (f : Frame) → Fitting f u.scope.kinds → Fitting f (kinds_here (here u) u.scope.kinds)
      in_fits f has = subst (λ k. Fitting f (kinds_here k u.scope.kinds)) (sym in_here) has

      -- no label stands in the test
      pub in_marks : (v : Buffer) → LaysBlock u v → (p : ℕ) → length s.ops < p → p < length u.ops → label_at (labels_of v) p ≡ None
      in_marks v block p low high =
          let behind = count_of u v block.grown in
          block.marks p (omega (arith, high)) (omega (arith, high, behind))
          ∙ (ap (λ ls. label_at ls p) in_labels ∙ found_past (λ ks. ks) None 0 (labels_of s) (length s.ops + 1) p sound.rises (omega (arith, low)))

  -- so does all that comes after it
  pub led_after : (s u : Buffer) (exits : Exits) (gd : Guard s u exits) (grown : Grown s gd.behind) (f own : Frame) → Led s u exits gd grown f own → (at : ℕ) (rest listed : List Op) (next : Option Frame) (now : Bool) (t : Buffer)
      → listed ≡ gd.named.ops ++ rest → frame_at (At schema part code (length s.ops)) next ≡ Ok f
      → ((p : ℕ) → length s.ops < p → p < length u.ops → At schema part code p ≡ None) → length gd.tested.ops ≤ at → at < length code.ops → length u.ops < length code.ops
      → on_due schema (Some own) (At schema part code (length u.ops)) ≡ Ok tt → target_due schema (Some f) (At schema part code at) ≡ Ok tt → AfterHere now (length u.ops) rest (Some own) t
      → AfterHere now (length s.ops) (grown.ops ++ (all_aimed gd.es at ++ listed)) next t
  led_after s u exits gd grown f own led at rest listed next true t is found none low high lt on target behind = led at rest listed next None is found none low high lt on target behind
  led_after s u exits gd grown f own led at rest listed next false t is found none low high lt on target behind = (behind.0, behind.1, led at rest listed next behind.0 is found none low high lt on target behind.2)

  -- the verifier comes to the first block, where it comes to the test
  pub led_traced : (s u : Buffer) (exits : Exits) (gd : Guard s u exits) (grown : Grown s gd.behind) (f own : Frame) → Led s u exits gd grown f own → (frames : List Frame) (t : Buffer) → Has code t → (at : ℕ) (block more : List Op) (next : Option Frame)
      → t.ops ≡ s.ops ++ (grown.ops ++ (all_aimed gd.es at ++ ((gd.named.ops ++ block) ++ more))) → frame_at (At schema part code (length s.ops)) next ≡ Ok f
      → ((p : ℕ) → length s.ops < p → p < length u.ops → At schema part code p ≡ None) → length gd.tested.ops ≤ at → at < length code.ops → length u.ops < length code.ops
      → on_due schema (Some own) (At schema part code (length u.ops)) ≡ Ok tt → target_due schema (Some f) (At schema part code at) ≡ Ok tt → Traced schema part code frames (length s.ops) next
      → Traced schema part code frames (length u.ops) (Some own)
  led_traced s u exits gd grown f own led frames t has at block more next is found none low high lt on target traced =
      let listed = grown.ops ++ (all_aimed gd.es at ++ gd.named.ops) in
      let walks : WalksHere (length s.ops) listed next (Some own) = led at [] gd.named.ops next (Some own) (sym (append-nil gd.named.ops)) found none low high lt on target refl in
      let put = put_count s u exits gd in
      let behind = count_of s gd.behind grown in
      let tests : length (all_aimed gd.es at) ≡ length gd.es = sym (same_aimed gd.es at) in
      let named : length (all_aimed gd.es at ++ gd.named.ops) ≡ length (all_aimed gd.es at) + length gd.named.ops = length-append (all_aimed gd.es at) gd.named.ops in
      let whole : length listed ≡ length grown.ops + length (all_aimed gd.es at ++ gd.named.ops) = length-append grown.ops (all_aimed gd.es at ++ gd.named.ops) in
      subst (λ n. Traced schema part code frames n (Some own)) (let e : length s.ops + length listed ≡ length u.ops = omega (arith, put, behind, tests, named, whole) in e)
      (traced_walk schema part code frames t has (length s.ops) s.ops listed (block ++ more) next (Some own) refl (is ∙ ap (λ l. s.ops ++ l) (regroup grown.ops (all_aimed gd.es at) gd.named.ops block more)) walks traced)
    where
      regroup : (m aims n g r : List Op) → m ++ (aims ++ ((n ++ g) ++ r)) ≡ (m ++ (aims ++ n)) ++ (g ++ r)
      regroup m aims n g r =
          ap (λ l. m ++ (aims ++ l)) (append_assoc n g r) ∙ (ap (λ l. m ++ l) (sym (append_assoc aims n (g ++ r))) ∙ sym (append_assoc m (aims ++ n) (g ++ r)))

  -- the frame that is found where a test begins is the one of its walk
  pub known_so : (frames : List Frame) (s : Buffer) (next : Option Frame) (f : Frame) → length s.ops < length code.ops → frame_at (At schema part code (length s.ops)) next ≡ Ok f → Fitting f s.scope.kinds → Traced schema part code frames (length s.ops) next
      → Finds schema sf frames (length s.ops) s.scope.kinds
  known_so frames s next f lt here has traced g at =
      let same : f ≡ g = (let e : Some f ≡ Some g = sym (traced_here schema part code frames (length s.ops) next f lt here traced) ∙ at in cc) in
      subst (λ (x : Frame). Knows schema sf x.locals s.scope.kinds) same has.2
