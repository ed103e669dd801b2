-- What the verifier finds at a place of compiled code: a declared frame where a label stands, and else what the op
-- before leaves.
use Rattle.std.proofs.Common.{◌≡◌, ◌⊎◌, inl, inr, ℕ, zero, suc, ◌+◌, ◌<◌, ◌≤◌, true, false, List, [], length, map, Option, Some, None, Ok, refl, subst, sym, ap, ◌∙◌, arith}
use Rattle.std.specs.Prelude.{option_map}
use Rattle.std.specs.List.{range_with_len}
use Rattle.std.proofs.lemmas.List.{length-map}
use Rattle.bb_schema.specs.Schema.{Schema}
use Rattle.bb_schema.specs.Fits as schemas
use Rattle.bb_code.specs.Code.{Code}
use Rattle.bb_code.specs.declared.frame.Kind.{Kind}
use Rattle.bb_verify_effect.specs.Kinds.{frame_weakens}
use Rattle.bb_compile_scope.specs.LocalKinds.{is_free, kind_at}
use Rattle.bb_compile_buffer.specs.declared.buffer.Buffer.{Buffer}
use Rattle.bb_verify_effect.specs.declared.frame.Frame.{Frame}
use Rattle.bb_verify_effect.specs.declared.part.Part.{Part}
use Rattle.bb_verify.specs.Places.{frame_at, fits_declared, on_due, target_due}
use Rattle.bb_theorem_accepted.proofs.kinds.UnderLemmas.{AreKnown}
use Rattle.bb_theorem_accepted.proofs.buffers.BufferLemmas.{Grown, Has, has_before, count_of}
use Rattle.bb_theorem_accepted.proofs.kinds.KnowLemmas.{IsKept, IsHeld, Knows, HasSequences, known_from, knows_from, knows_weakens}
use Rattle.bb_theorem_accepted.proofs.kinds.LabelLemmas.{labels_of, label_at, Rises, HasLast, AllLabels, found_all, frame_by}
use Rattle.bb_theorem_accepted.proofs.kinds.ValueLemmas.{IsFit}
use Rattle.bb_theorem_accepted.proofs.kinds.MoveLemmas.{Tidy}
use Rattle.bb_theorem_accepted.proofs.walks.WalkLemmas.{At}

-- the kinds of the label where the next op comes, if there is one
abbrev pub here : Buffer → Option (List Kind)
here t = label_at (labels_of t) (length t.ops)

abbrev pub kinds_here : Option (List Kind) → List Kind → List Kind
kinds_here None ks = ks
kinds_here (Some ls) ks = ls

pub at_range : (ks : List Kind) (n m i : ℕ) → i < m → kind_at (map (kind_at ks) (range_with_len n m)) i ≡ kind_at ks (n + i)
at_range ks n zero i lt = absurd (omega (arith, lt))
at_range ks n (suc m) zero lt = ap (kind_at ks) (let e : n ≡ n + 0 = omega arith in e)
at_range ks n (suc m) (suc i) lt = at_range ks (n + 1) m i (omega (arith, lt)) ∙ ap (kind_at ks) (let e : n + 1 + i ≡ n + suc i = omega arith in e)

range_count : (n m : ℕ) → length (range_with_len n m) ≡ m
range_count n zero = refl
range_count n (suc m) = ap suc (range_count (n + 1) m)

module _ (s : Schema) (sf : schemas.Fits s) (part : Part) (code : Code) where
  abbrev Declared : ℕ → Option Frame
  Declared place = At s part code place

  abbrev Frame₁ : List Kind → Frame
  Frame₁ ks = frame_by code.locals ks

  -- an empty stack, and locals of these kinds
  abbrev pub HasFrame : Frame → List Kind → Type 0
  HasFrame f ks = (f.stack ≡ []) × (length f.locals ≡ code.locals) × Knows s sf f.locals ks

  abbrev pub AreGood : List Kind → Type 0
  AreGood ks = (i : ℕ) → is_free (kind_at ks i) ≡ false → IsFit s sf (kind_at ks i)

  -- where these kinds are known, those are
  abbrev pub Weaker : List Kind → List Kind → Type 0
  Weaker ks ls = (i : ℕ) → is_free (kind_at ls i) ≡ false → (k : Kind) → IsHeld s sf k (kind_at ks i) → IsKept s sf k (kind_at ls i)

  pub frame_weaker : (f : Frame) (ks ls : List Kind) → Weaker ks ls → HasFrame f ks → HasFrame f ls
  frame_weaker f ks ls weaker has = (has.0, has.1, λ i taken. weaker i taken (kind_at f.locals i) (has.2 i))

  -- a buffer with its labels, where nothing is wrong with them
  pub record Sound (t : Buffer) : Type 0 where
    pub tidy : Tidy s sf t
    pub rises : Rises 0 (labels_of t) (length t.ops + 1)
    pub last : HasLast t.labels t.last
    pub good : AllLabels AreGood (labels_of t)
    pub strong : (ks : List Kind) → here t ≡ Some ks → Weaker ks t.scope.kinds

  -- the code is what a buffer has, and has its labels before its end
  pub record Agrees (t : Buffer) : Type 0 where
    pub has : Has code t
    pub within : length t.ops ≤ length code.ops
    pub locals : t.locals ≤ code.locals
    pub frames : (p : ℕ) → p < length t.ops → Declared p ≡ option_map Frame₁ (label_at (labels_of t) p)

  -- the frames that may come to the end of a buffer: those that the op before leaves, and those of ops that go there
  pub record Joins (t : Buffer) : Type 0 where
    pub below : length t.ops < length code.ops
    pub on : (g : Frame) → HasFrame g (kinds_here (here t) t.scope.kinds) → on_due s (Some g) (Declared (length t.ops)) ≡ Ok tt
    pub target : (ks : List Kind) → here t ≡ Some ks → (g : Frame) → HasFrame g ks → target_due s (Some g) (Declared (length t.ops)) ≡ Ok tt

  -- what the op before leaves: a frame, or nothing where a label stands
  abbrev pub Arrives : Option Frame → Buffer → Type 0
  Arrives out t = ((g : Frame) × (out ≡ Some g) × HasFrame g (kinds_here (here t) t.scope.kinds)) ⊎ ((out ≡ None) × (ks : List Kind) × (here t ≡ Some ks))

  -- ---- one label

  pub label_good : (t : Buffer) → Sound t → (p : ℕ) (ks : List Kind) → label_at (labels_of t) p ≡ Some ks → AreGood ks
  label_good t sound p ks at = found_all AreGood None (labels_of t) p ks sound.good (λ ms e. absurd cc) at

  pub label_fits : (f : Frame) (ks : List Kind) → AreGood ks → HasFrame f ks → frame_weakens s f (Frame₁ ks) ≡ true
  label_fits f ks good has = knows_weakens s sf f code.locals ks has.1 has.0 (λ i taken. (good i taken).1) has.2

  pub strong_frame : (t : Buffer) → Sound t → (g : Frame) → HasFrame g (kinds_here (here t) t.scope.kinds) → HasFrame g t.scope.kinds
  strong_frame t sound g has = by_label (here t) refl has
    where
      by_label : (o : Option (List Kind)) → here t ≡ o → HasFrame g (kinds_here o t.scope.kinds) → HasFrame g t.scope.kinds
      by_label None at has = has
      by_label (Some ks) at has = frame_weaker g ks t.scope.kinds (sound.strong ks at) has

  -- where a label stands, its own frame is declared
  pub declared_good : (t : Buffer) → Sound t → t.locals ≤ code.locals → (ks : List Kind) → here t ≡ Some ks → HasFrame (Frame₁ ks) t.scope.kinds
  declared_good t sound le ks at = (
    refl,
    length-map (range_with_len 0 code.locals) (kind_at ks) ∙ range_count 0 code.locals,
    λ i taken.
        let low = sound.tidy.low i taken in
        let own : kind_at (Frame₁ ks).locals i ≡ kind_at ks i = at_range ks 0 code.locals i (omega (arith, low, le)) ∙ ap (kind_at ks) (let e : 0 + i ≡ i = omega arith in e) in
        sound.strong ks at i taken (kind_at (Frame₁ ks).locals i) (λ free. subst (λ k. IsKept s sf k (kind_at ks i)) (sym own) (label_good t sound (length t.ops) ks at i free).1),
  )

  -- what stands where the next op comes
  pub arrive : (t : Buffer) (next : Option Frame) → Sound t → t.locals ≤ code.locals → Declared (length t.ops) ≡ option_map Frame₁ (here t) → Arrives next t → (f : Frame) × (frame_at (Declared (length t.ops)) next ≡ Ok f) × HasFrame f t.scope.kinds
  arrive t next sound le declared arrives = by_label (here t) refl declared arrives
    where
      by_label : (o : Option (List Kind)) → here t ≡ o → Declared (length t.ops) ≡ option_map Frame₁ o
          → (((g : Frame) × (next ≡ Some g) × HasFrame g (kinds_here o t.scope.kinds)) ⊎ ((next ≡ None) × (ks : List Kind) × (o ≡ Some ks))) → (f : Frame) × (frame_at (Declared (length t.ops)) next ≡ Ok f) × HasFrame f t.scope.kinds
      by_label None at declared (inl (g, is, has)) = (g, rw (declared, is) refl, has)
      by_label None at declared (inr (is, ks, never)) = absurd cc
      by_label (Some ks) at declared arrives = (Frame₁ ks, rw declared refl, declared_good t sound le ks at)

  -- where no label comes later at the place, the frame that is declared there is that of the label
  pub joins_own : (t : Buffer) → Sound t → length t.ops < length code.ops → Declared (length t.ops) ≡ option_map Frame₁ (here t) → Joins t
  unfolding fits_declared
  joins_own t sound below declared = record { below = below; on = λ g has. by_on g (here t) refl declared has; target = λ ks at g has. by_target g ks at has }
    where
      by_on : (g : Frame) (o : Option (List Kind)) → here t ≡ o → Declared (length t.ops) ≡ option_map Frame₁ o → HasFrame g (kinds_here o t.scope.kinds) → on_due s (Some g) (Declared (length t.ops)) ≡ Ok tt
      by_on g None at declared has = rw declared refl
      by_on g (Some ks) at declared has = rw (declared, label_fits g ks (label_good t sound (length t.ops) ks at) has) refl

      by_target : (g : Frame) (ks : List Kind) → here t ≡ Some ks → HasFrame g ks → target_due s (Some g) (Declared (length t.ops)) ≡ Ok tt
      by_target g ks at has = rw (declared, at, label_fits g ks (label_good t sound (length t.ops) ks at) has) refl

  -- a buffer after which a label stands with kinds that are known there
  pub joins_weaker : (v t : Buffer) → Sound v → length v.ops ≡ length t.ops → here t ≡ Some t.scope.kinds → ((g : Frame) → HasFrame g v.scope.kinds → HasFrame g t.scope.kinds) → Joins t → Joins v
  joins_weaker v t sound place at weaker joins = record {
    below = subst (λ n. n < length code.ops) (sym place) joins.below;
    on = λ g has. subst (λ n. on_due s (Some g) (Declared n) ≡ Ok tt) (sym place) (joins.on g (subst (λ o. HasFrame g (kinds_here o t.scope.kinds)) (sym at) (weaker g (strong_frame v sound g has))));
    target = λ ks own g has. subst (λ n. target_due s (Some g) (Declared n) ≡ Ok tt) (sym place) (joins.target t.scope.kinds at g (weaker g (frame_weaker g ks v.scope.kinds (sound.strong ks own) has)));
  }

  pub arrives_weaker : (out : Option Frame) (v t : Buffer) → Sound v → here t ≡ Some t.scope.kinds → ((g : Frame) → HasFrame g v.scope.kinds → HasFrame g t.scope.kinds) → Arrives out v → Arrives out t
  arrives_weaker out v t sound at weaker (inl (g, is, has)) = inl (g, is, subst (λ o. HasFrame g (kinds_here o t.scope.kinds)) (sym at) (weaker g (strong_frame v sound g has)))
  arrives_weaker out v t sound at weaker (inr (is, ks, own)) = inr (is, t.scope.kinds, at)

  -- a buffer with the same labels, and kinds that are known there
  pub joins_same : (v t : Buffer) → length v.ops ≡ length t.ops → labels_of t ≡ labels_of v → ((g : Frame) → HasFrame g v.scope.kinds → HasFrame g t.scope.kinds) → Joins t → Joins v
  joins_same v t place labels weaker joins = record {
    below = subst (λ n. n < length code.ops) (sym place) joins.below;
    on = λ g has. subst (λ n. on_due s (Some g) (Declared n) ≡ Ok tt) (sym place) (joins.on g (subst (λ o. HasFrame g (kinds_here o t.scope.kinds)) (sym same) (by_label g (here v) has)));
    target = λ ks own g has. subst (λ n. target_due s (Some g) (Declared n) ≡ Ok tt) (sym place) (joins.target ks (same ∙ own) g has);
  }
    where
      same : here t ≡ here v
      same = ap (λ ls. label_at ls (length t.ops)) labels ∙ ap (label_at (labels_of v)) (sym place)

      by_label : (g : Frame) (o : Option (List Kind)) → HasFrame g (kinds_here o v.scope.kinds) → HasFrame g (kinds_here o t.scope.kinds)
      by_label g None has = weaker g has
      by_label g (Some ks) has = has

  pub arrives_same : (out : Option Frame) (v t : Buffer) → length v.ops ≡ length t.ops → labels_of t ≡ labels_of v → ((g : Frame) → HasFrame g v.scope.kinds → HasFrame g t.scope.kinds) → Arrives out v → Arrives out t
  arrives_same out v t place labels weaker (inl (g, is, has)) = inl (g, is, subst (λ o. HasFrame g (kinds_here o t.scope.kinds)) (sym same) (by_label (here v) has))
    where
      same : here t ≡ here v
      same = ap (λ ls. label_at ls (length t.ops)) labels ∙ ap (label_at (labels_of v)) (sym place)

      by_label : (o : Option (List Kind)) → HasFrame g (kinds_here o v.scope.kinds) → HasFrame g (kinds_here o t.scope.kinds)
      by_label None has = weaker g has
      by_label (Some ks) has = has
  arrives_same out v t place labels weaker (inr (is, ks, own)) = inr (is, ks, (ap (λ ls. label_at ls (length t.ops)) labels ∙ ap (label_at (labels_of v)) (sym place)) ∙ own)

  -- ---- a code that agrees with a buffer agrees with what it was before

  pub agrees_before : (v t : Buffer) → Grown v t → v.locals ≤ t.locals → ((p : ℕ) → p < length v.ops → label_at (labels_of t) p ≡ label_at (labels_of v) p) → Agrees t → Agrees v
  agrees_before v t g locals marks agrees =
      let count = count_of v t g in
      let le = agrees.within in
      let few = agrees.locals in
      record {
        has = has_before code v t g agrees.has;
        within = omega (arith, count, le);
        locals = omega (arith, locals, few);
        frames = λ p lt. agrees.frames p (omega (arith, count, lt)) ∙ ap (option_map Frame₁) (marks p lt);
      }

  -- ---- all locals and those of names

  pub known_there : (t : Buffer) (f : Frame) → Sound t → t.locals ≤ code.locals → HasFrame f t.scope.kinds → AreKnown s sf f.locals t.scope.kinds t.scope.names
  known_there t f sound le has =
      known_from s sf f.locals t.scope.kinds t.scope.names sound.tidy.taken (λ i taken. let low = sound.tidy.low i taken in let count = has.1 in omega (arith, low, le, count)) has.2

  pub knows_there : (t : Buffer) (f : Frame) → Sound t → f.stack ≡ [] → length f.locals ≡ code.locals → AreKnown s sf f.locals t.scope.kinds t.scope.names → HasSequences s sf f.locals t.scope.kinds → HasFrame f t.scope.kinds
  knows_there t f sound none count known sequences = (none, count, knows_from s sf f.locals t.scope.kinds t.scope.names sound.tidy.named sequences known)
