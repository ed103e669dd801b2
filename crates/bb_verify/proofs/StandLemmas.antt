-- The frames that ops leave may stand where they lead.
use Rattle.std.proofs.Common.{◌≡◌, ◌⊎◌, inl, inr, ℕ, zero, suc, ◌+◌, ◌<◌, ◌≤◌, true, List, [], ◌∷◌, length, set, Option, Some, None, Result, Ok, refl, sym, ap, subst, ◌∙◌, arith, add-one}
use Rattle.std.specs.Prelude.{nat_le, slice_get, option_and_then, replicate}
use Rattle.std.proofs.lemmas.Bool.Decides.{nat_tests}
use Rattle.std.proofs.lemmas.List.{length-set, length-replicate}
use Rattle.std.proofs.lemmas.Option.{slice_get_within}
use Rattle.bb_basis.specs.Results.{◌>>=◌}
use Rattle.bb_basis.proofs.ResultLemmas.{guard_ok}
use Rattle.bb_schema.specs.Schema.{Schema}
use Rattle.bb_code.specs.Code.{Code}
use Rattle.bb_code.specs.declared.frame.FrameEntry.{FrameEntry}
use Rattle.bb_code.specs.declared.op.Op.{Op}
use Rattle.bb_verify_effect.specs.Edges.{Edges}
use Rattle.bb_code.specs.declared.flaw.Flaw.{Flaw}
use Rattle.bb_code.specs.declared.flaw.Flaw.TheVariants as flaws
use Rattle.bb_verify_effect.specs.declared.frame.Frame.{Frame}
use Rattle.bb_verify_effect.specs.declared.part.Part.{Part}
use Rattle.bb_verify_effect.specs.Kinds.{frame_weakens}
use Rattle.bb_verify_effect.specs.Effect.{effect}
use Rattle.bb_verify_effect.specs.Frame.{frame_of}
use Rattle.bb_verify.specs.Places.{with_frames, declared_frames, declared_at, declared_for, entry_frame, frame_at, fits_declared, on_due, target_due, has_next}
use Rattle.bb_verify.specs.Facts.{StandsAt, Leaves}
use Rattle.bb_verify_effect.proofs.Laws.{test_ok}
use Rattle.bb_verify.proofs.WalkLemmas.{Visited, Chain, Walked}

-- ---- declared frames

frames_keep_length : (all : List (Option Frame)) (es : List FrameEntry) → length (with_frames all es) ≡ length all
unfolding with_frames
frames_keep_length all [] = refl
frames_keep_length all (e ∷ es) = frames_keep_length (set all e.place (Some (frame_of e.frame))) es ∙ length-set all e.place (Some (frame_of e.frame))

declared_long : (code : Code) → length (declared_frames code) ≡ length code.ops
unfolding declared_frames
declared_long code = frames_keep_length (replicate (length code.ops) None) code.frames ∙ length-replicate (length code.ops) None

pub is_declared : (o : Option (Option Frame)) (d : Frame) → option_and_then (λ f. f) o ≡ Some d → o ≡ Some (Some d)
is_declared None d h = absurd cc
is_declared (Some o) d h = ap (λ x. Some x) h

pub declared_within : (code : Code) (place : ℕ) (d : Frame) → declared_at (declared_frames code) place ≡ Some d → place < length code.ops
declared_within code place d h =
    let within : place < length (declared_frames code) = slice_get_within (declared_frames code) place (Some d) (is_declared (slice_get (declared_frames code) place) d h) in
    let long : length (declared_frames code) ≡ length code.ops = declared_long code in
    omega (arith, within, long)

-- ---- a frame stands where it was tested

fitted : (s : Schema) (g d : Frame) → fits_declared s g d ≡ Ok tt → frame_weakens s g d ≡ true
unfolding fits_declared
fitted s g d h = (test_ok (frame_weakens s g d) flaws.Frame (Ok tt) tt h).0

came : (s : Schema) (d : Option Frame) (g f : Frame) → frame_at d (Some g) ≡ Ok f → on_due s (Some g) d ≡ Ok tt → (g ≡ f) ⊎ (frame_weakens s g f ≡ true)
came s None g f at due = inl (let e : g ≡ f = cc in e)
came s (Some d) g f at due = inr (subst (λ (x : Frame). frame_weakens s g x ≡ true) (let e : d ≡ f = cc in e) (fitted s g d due))

went_on : (count place : ℕ) (g : Frame) → has_next count place (Some g) ≡ Ok tt → place < count
went_on count place g h = let e = guard_ok (nat_le count place) flaws.End (Ok tt) tt h in let test = e.0 in grind (arith, nat_tests)

stands_later : (s : Schema) (h : Frame) (fs : List Frame) (p n : ℕ) (g : Frame) → n ≡ suc p → StandsAt s fs p g → StandsAt s (h ∷ fs) n g
stands_later s h fs p n g is at = (at.0, ap (slice_get (h ∷ fs)) is ∙ at.1, at.2)

first_stands : (s : Schema) (part : Part) (code : Code) (declared : List (Option Frame)) (place : ℕ) (g : Frame) (fs : List Frame) → 1 ≤ length fs → Chain s part code declared place (Some g) fs
    → on_due s (Some g) (declared_at declared place) ≡ Ok tt → StandsAt s fs 0 g
first_stands s part code declared place g [] some chain due = absurd (omega (arith, some))
first_stands s part code declared place g (f ∷ fs) some chain due = (f, refl, came s (declared_at declared place) g f chain.0.frame due)

-- ---- what an op leaves, in frames from a place on

record Left (s : Schema) (part : Part) (code : Code) (declared : List (Option Frame)) (frames : List Frame) (i : ℕ) (op : Op) (f : Frame) : Type 0 where
  edges : Edges
  does : effect s part code op f ≡ Ok edges
  on : (g : Frame) → edges.on ≡ Some g → StandsAt s frames (i + 1) g
  target : target_due s edges.target (declared_for declared op) ≡ Ok tt

first_on : (s : Schema) (part : Part) (code : Code) (declared : List (Option Frame)) (place : ℕ) (next : Option Frame) (h : Frame) (fs : List Frame) (v : Visited s part code declared place next h)
    → place + suc (length fs) ≡ length code.ops → Chain s part code declared (place + 1) v.edges.on fs → (g : Frame) → v.edges.on ≡ Some g → StandsAt s (h ∷ fs) (0 + 1) g
first_on s part code declared place next h fs v long chain g is =
    let more : place + 1 < length code.ops = went_on (length code.ops) (place + 1) g (subst (λ (o : Option Frame). has_next (length code.ops) (place + 1) o ≡ Ok tt) is v.more) in
    let due : on_due s (Some g) (declared_at declared (place + 1)) ≡ Ok tt = subst (λ (o : Option Frame). on_due s o (declared_at declared (place + 1)) ≡ Ok tt) is v.on in
    let others : Chain s part code declared (place + 1) (Some g) fs = subst (λ (o : Option Frame). Chain s part code declared (place + 1) o fs) is chain in
    stands_later s h fs 0 (0 + 1) g (add-one 0) (first_stands s part code declared (place + 1) g fs (omega (arith, more, long)) others due)

chain_leaves : (s : Schema) (part : Part) (code : Code) (declared : List (Option Frame)) (frames : List Frame) (place : ℕ) (next : Option Frame) (i : ℕ) (op : Op) (f : Frame)
    → place + length frames ≡ length code.ops → Chain s part code declared place next frames → slice_get frames i ≡ Some f → slice_get code.ops (place + i) ≡ Some op
    → Left s part code declared frames i op f
chain_leaves s part code declared [] place next i op f long chain at here = absurd cc
chain_leaves s part code declared (h ∷ fs) place next zero op f long chain at here =
    let v = chain.0 in
    let same : h ≡ f = cc in
    let stood : slice_get code.ops place ≡ Some op = ap (slice_get code.ops) (omega arith) ∙ here in
    let both : (let o : Option Op = Some v.op in o) ≡ Some op = sym v.here ∙ stood in
    let own : v.op ≡ op = cc in
    let first : Left s part code declared (h ∷ fs) 0 v.op h = record {
      edges = v.edges;
      does = v.does;
      on = first_on s part code declared place next h fs v long chain.1;
      target = v.target;
    } in
    subst (λ (o : Op). Left s part code declared (h ∷ fs) 0 o f) own (subst (λ (x : Frame). Left s part code declared (h ∷ fs) 0 v.op x) same first)
chain_leaves s part code declared (h ∷ fs) place next (suc i) op f long chain at here =
    let rest = chain_leaves s part code declared fs (place + 1) chain.0.edges.on i op f (omega (arith, long)) chain.1 at (ap (slice_get code.ops) (omega arith) ∙ here) in
    record { edges = rest.edges; does = rest.does; on = λ g is. stands_later s h fs (i + 1) (suc i + 1) g (omega arith) (rest.on g is); target = rest.target }

-- ---- the frames that are declared are those of their places

declared_is : (declared next : Option Frame) (h d : Frame) → frame_at declared next ≡ Ok h → declared ≡ Some d → h ≡ d
declared_is None next h d at is = absurd cc
declared_is (Some k) next h d at is = let one : k ≡ h = cc in let two : k ≡ d = cc in sym one ∙ two

chain_declares : (s : Schema) (part : Part) (code : Code) (declared : List (Option Frame)) (frames : List Frame) (place : ℕ) (next : Option Frame) (i : ℕ) (d : Frame)
    → Chain s part code declared place next frames → i < length frames → declared_at declared (place + i) ≡ Some d → slice_get frames i ≡ Some d
chain_declares s part code declared [] place next i d chain lt is = absurd (omega (arith, lt))
chain_declares s part code declared (h ∷ fs) place next zero d chain lt is =
    ap (λ x. Some x) (declared_is (declared_at declared place) next h d chain.0.frame (ap (declared_at declared) (omega arith) ∙ is))
chain_declares s part code declared (h ∷ fs) place next (suc i) d chain lt is =
    chain_declares s part code declared fs (place + 1) chain.0.edges.on i d chain.1 (omega (arith, lt)) (ap (declared_at declared) (omega arith) ∙ is)

-- ---- all places

module _ (s : Schema) (part : Part) (code : Code) (frames : List Frame) (w : Walked s part code frames) where
  pub entry_stands : 1 ≤ length code.ops → StandsAt s frames 0 (entry_frame part code.locals)
  entry_stands some = let long = w.long in first_stands s part code (declared_frames code) 0 (entry_frame part code.locals) frames (omega (arith, some, long)) w.chain w.entry

  target_stands : (g : Frame) (to : ℕ) (o : Option Frame) → declared_at (declared_frames code) to ≡ o → target_due s (Some g) o ≡ Ok tt → StandsAt s frames to g
  target_stands g to None is due = absurd cc
  target_stands g to (Some d) is due =
      let inside : to < length code.ops = declared_within code to d is in
      let long = w.long in
      let at : slice_get frames to ≡ Some d = chain_declares s part code (declared_frames code) frames 0 (Some (entry_frame part code.locals)) to d w.chain (omega (arith, inside, long)) (ap (declared_at (declared_frames code)) (omega arith) ∙ is) in
      (d, at, inr (fitted s g d due))

  pub op_leaves : (place : ℕ) (op : Op) (f : Frame) → slice_get code.ops place ≡ Some op → slice_get frames place ≡ Some f → Leaves s part code frames place op f
  op_leaves place op f here at =
      let long = w.long in
      let left = chain_leaves s part code (declared_frames code) frames 0 (Some (entry_frame part code.locals)) place op f (omega (arith, long)) w.chain at (ap (slice_get code.ops) (omega arith) ∙ here) in
      record {
        edges = (left.edges.on, left.edges.target);
        are = ap (λ (r : Result Edges Flaw). r >>= λ e. Ok (e.on, e.target)) left.does;
        on = left.on;
        target = λ g to is goes.
            target_stands g to (declared_at (declared_frames code) to) refl
            (subst (λ (o : Option ℕ). target_due s (Some g) (option_and_then (declared_at (declared_frames code)) o) ≡ Ok tt) goes
            (subst (λ (o : Option Frame). target_due s o (declared_for (declared_frames code) op) ≡ Ok tt) is left.target));
      }
