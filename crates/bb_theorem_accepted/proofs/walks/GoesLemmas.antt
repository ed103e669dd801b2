-- What a statement lays out leads the verifier to what stands after it; statements without blocks do.
use Rattle.std.proofs.Common.{◌≡◌, inl, ℕ, ◌+◌, ◌<◌, ◌≤◌, Bool, true, false, List, length, Option, Some, None, Ok, refl, subst, sym, ap, ◌∙◌, arith}
use Rattle.std.specs.Prelude.{option_map, is_ok}
use Rattle.bb_schema.specs.Schema.{Schema}
use Rattle.bb_schema.specs.Fits as schemas
use Rattle.bb_code.specs.Code.{Code}
use Rattle.bb_code.specs.declared.op.Op.{Op}
use Rattle.bb_compile_buffer.specs.declared.buffer.Buffer.{Buffer}
use Rattle.bb_verify_effect.specs.declared.frame.Frame.{Frame}
use Rattle.bb_verify_effect.specs.Part.{ends_done}
use Rattle.bb_verify_effect.specs.declared.part.Part.{Part}
use Rattle.bb_verify.specs.Places.{frame_at, on_due}
use Rattle.bb_theorem_accepted.proofs.buffers.BufferLemmas.{Grown, count_of}
use Rattle.bb_theorem_accepted.proofs.straight.PatternLemmas.{AreSmall}
use Rattle.bb_theorem_accepted.proofs.straight.StoreLemmas.{Does, After as DoesAfter}
use Rattle.bb_theorem_accepted.proofs.kinds.KnowLemmas.{knows_sequences}
use Rattle.bb_theorem_accepted.proofs.kinds.LabelLemmas.{listed, labels_of, label_at, found_past, Rises, rises_weaker, HasLast, AllLabels, frame_by}
use Rattle.bb_theorem_accepted.proofs.kinds.MoveLemmas.{Tidy, Moves}
use Rattle.bb_theorem_accepted.proofs.walks.WalkLemmas.{Walks, leads_walk, runs_walk, At}
use Rattle.bb_theorem_accepted.proofs.walks.TraceLemmas.{Traced}
use Rattle.bb_theorem_accepted.proofs.walks.JoinLemmas.{here, kinds_here, HasFrame, AreGood, Sound, Agrees, Joins, Arrives, arrive, joins_own, known_there, knows_there}
use Rattle.bb_theorem_accepted.proofs.blocks.BlockLemmas.{same_labels}

module _ (schema : Schema) (sf : schemas.Fits schema) (part : Part) (code : Code) where
  abbrev IsSound : Buffer → Type 0
  IsSound t = Sound schema sf part code t

  abbrev AgreesHere : Buffer → Type 0
  AgreesHere t = Agrees schema sf part code t

  abbrev JoinsHere : Buffer → Type 0
  JoinsHere t = Joins schema sf part code t

  abbrev ArrivesHere : Option Frame → Buffer → Type 0
  ArrivesHere out t = Arrives schema sf part code out t

  abbrev WalksHere : ℕ → List Op → (next out : Option Frame) → Type 0
  WalksHere place listed next out = Walks schema part code place listed next out

  -- after what is laid out: nothing follows, or the next statement
  abbrev pub After : (ended : Bool) → (place : ℕ) → List Op → Option Frame → Buffer → Type 0
  After true place listed next t = WalksHere place listed next None
  After false place listed next t = (out : Option Frame) × ArrivesHere out t × WalksHere place listed next out

  -- S is what it tells of the frames that the verifier finds
  pub record Goes (s t : Buffer) (now : Bool) (S : List Frame → Type 0) : Type 0 where
    pub grown : Grown s t
    pub moves : Moves schema sf s t
    pub sound : IsSound t
    pub unlabelled : now ≡ true → here t ≡ None
    -- a part that ends so does not end by itself
    pub right : now ≡ true → is_ok (ends_done part) ≡ false
    pub more : (now ≡ false → JoinsHere t) → JoinsHere s × ((next : Option Frame) → ArrivesHere next s → After now (length s.ops) grown.ops next t × ((frames : List Frame) → Traced schema part code frames (length s.ops) next → S frames))

  -- ---- a buffer after which no label was put

  pub plain_here : (s t : Buffer) → IsSound s → labels_of t ≡ labels_of s → length s.ops < length t.ops → here t ≡ None
  plain_here s t sound labels lt = ap (λ ls. label_at ls (length t.ops)) labels ∙ found_past (λ ks. ks) None 0 (labels_of s) (length s.ops + 1) (length t.ops) sound.rises (omega (arith, lt))

  pub plain_sound : (s t : Buffer) → IsSound s → t.labels ≡ s.labels → t.last ≡ s.last → length s.ops < length t.ops → Tidy schema sf t → IsSound t
  plain_sound s t sound labels last lt tidy =
      let same = same_labels s t labels last in
      record {
        tidy = tidy;
        rises = subst (λ ls. Rises 0 ls (length t.ops + 1)) (sym same) (rises_weaker 0 (labels_of s) (length s.ops + 1) (length t.ops + 1) (omega (arith, lt)) sound.rises);
        last = subst (λ l. HasLast l t.last) (sym labels) (subst (HasLast s.labels) (sym last) sound.last);
        good = subst (AllLabels (AreGood schema sf part code)) (sym same) sound.good;
        strong = λ ks at. absurd (let no : None ≡ Some ks = sym (plain_here s t sound same lt) ∙ at in cc);
      }

  -- no frame is declared after a buffer's end before the next label
  undeclared : (s t : Buffer) → IsSound s → AgreesHere t → ((p : ℕ) → p < length t.ops → length s.ops < p → label_at (labels_of t) p ≡ label_at (labels_of s) p) → (p : ℕ) → length s.ops < p → p < length t.ops → At schema part code p ≡ None
  undeclared s t sound agrees marks p low high =
      agrees.frames p high ∙ ap (option_map (frame_by code.locals)) (marks p high low ∙ found_past (λ ks. ks) None 0 (labels_of s) (length s.ops + 1) p sound.rises (omega (arith, low)))

  module _ (small : AreSmall schema sf part code) where
    -- ---- statements without blocks

    pub action_goes : (ended : Bool) (s t : Buffer) → Does schema sf part code small ended s t → IsSound s → AgreesHere t → Goes s t ended (λ frames. Unit {0})
    action_goes ended s t d sound agrees =
        let labels : t.labels ≡ s.labels = ap (λ (x : Buffer). x.labels) d.same in
        let last : t.last ≡ s.last = ap (λ (x : Buffer). x.last) d.same in
        let same = same_labels s t labels last in
        let count = count_of s t d.grown in
        let some = d.some in
        let lt : length s.ops < length t.ops = omega (arith, count, some) in
        let after = plain_sound s t sound labels last lt (d.moves.tidy sound.tidy) in
        record {
          grown = d.grown;
          moves = d.moves;
          sound = after;
          unlabelled = λ e. plain_here s t sound same lt;
          right = d.right;
          more = λ joins. (
            joins_own schema sf part code s sound (let le = agrees.within in omega (arith, lt, le)) (agrees.frames (length s.ops) lt ∙ ap (λ ls. option_map (frame_by code.locals) (label_at ls (length s.ops))) same),
            λ next arrives. (walk ended refl after joins next (arrive schema sf part code s next sound (let l = d.locals in let le = agrees.locals in omega (arith, l, le)) (agrees.frames (length s.ops) lt ∙ ap (λ ls. option_map (frame_by code.locals) (label_at ls (length s.ops))) same) arrives), λ frames traced. tt),
          );
        }
      where
        count : length t.ops ≡ length s.ops + length d.grown.ops
        count = count_of s t d.grown

        labels_same : labels_of t ≡ labels_of s
        labels_same = same_labels s t (ap (λ (x : Buffer). x.labels) d.same) (ap (λ (x : Buffer). x.last) d.same)

        none : (i : ℕ) → length s.ops < i → i < length s.ops + length d.grown.ops → At schema part code i ≡ None
        none i low high = let e = count in undeclared s t sound agrees (λ p high low. ap (λ ls. label_at ls p) labels_same) i low (omega (arith, high, e))

        few : s.locals ≤ code.locals
        few = let l = d.locals in let le = agrees.locals in omega (arith, l, le)

        walk : (e : Bool) → ended ≡ e → IsSound t → (e ≡ false → JoinsHere t) → (next : Option Frame) → (f : Frame) × (frame_at (At schema part code (length s.ops)) next ≡ Ok f) × HasFrame schema sf part code f s.scope.kinds
            → After e (length s.ops) d.grown.ops next t
        walk true is after joins next there =
            let f = there.0 in
            let has = there.2 in
            let runs = subst (λ b. DoesAfter schema sf part code small b t d.grown.ops f) is (d.leads agrees.locals f (has.0, (has.1, known_there schema sf part code s f sound few has, knows_sequences schema sf f.locals s.scope.kinds has.2))) in
            let e = count in
            let le = agrees.within in
            runs_walk schema part code d.grown.ops (length s.ops) f next there.1 none (omega (arith, e, le)) runs
        walk false is after joins next there =
            let f = there.0 in
            let has = there.2 in
            let led = subst (λ b. DoesAfter schema sf part code small b t d.grown.ops f) is (d.leads agrees.locals f (has.0, (has.1, known_there schema sf part code s f sound few has, knows_sequences schema sf f.locals s.scope.kinds has.2))) in
            let g = led.0 in
            let own = knows_there schema sf part code t g after led.1.0 led.1.1.0 led.1.1.1 led.1.1.2 in
            let e = count in
            let some = d.some in
            let lt : length s.ops < length t.ops = omega (arith, e, some) in
            let comes : HasFrame schema sf part code g (kinds_here (here t) t.scope.kinds) = subst (λ o. HasFrame schema sf part code g (kinds_here o t.scope.kinds)) (sym (plain_here s t sound labels_same lt)) own in
            let join = joins refl in
            let below = join.below in (
              Some g,
              inl (g, refl, comes),
              leads_walk schema part code d.grown.ops (length s.ops) f g next some there.1 none (omega (arith, e, below)) (subst (λ n. on_due schema (Some g) (At schema part code n) ≡ Ok tt) e (join.on g comes)) led.2,
            )
