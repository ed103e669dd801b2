-- The pass over the places gives a frame for each of them, and each was tested with the one before.
use Rattle.std.proofs.Common.{◌≡◌, ℕ, zero, suc, ◌+◌, ◌<◌, ◌≤◌, List, [], ◌∷◌, ◌++◌, length, get_or, Option, Some, Ok, refl, sym, ap, subst, ◌∙◌, arith}
use Rattle.std.specs.Prelude.{slice_get}
use Rattle.std.specs.List.{range_with_len}
use Rattle.std.proofs.lemmas.List.{append-nil, append_assoc}
use Rattle.std.proofs.lemmas.Option.{slice_get-get_or}
use Rattle.bb_basis.specs.Results.{map_err, try_fold}
use Rattle.bb_basis.proofs.ResultLemmas.{bind_ok, same_ok}
use Rattle.bb_schema.specs.Schema.{Schema}
use Rattle.bb_code.specs.Code.{Code, places}
use Rattle.bb_code.specs.declared.op.Op.{Op}
use Rattle.bb_code.specs.declared.op.Op.TheVariants as ops
use Rattle.bb_verify_effect.specs.Edges.{Edges}
use Rattle.bb_verify_effect.specs.declared.frame.Frame.{Frame}
use Rattle.bb_verify_effect.specs.declared.part.Part.{Part}
use Rattle.bb_code.specs.Flaws.{fault_at}
use Rattle.bb_verify_effect.specs.Effect.{effect}
use Rattle.bb_verify.specs.Places.{Walk, declared_at, declared_for, declared_frames, entry_frame, frame_at, has_next, on_due, target_due, one_more, visit_op, visit, first_walk, frames_of}
use Rattle.bb_verify_effect.proofs.Laws.{no_fault}

-- ---- one place

-- what was tested of a place with this frame, where the op before left a frame for it or none
pub record Visited (s : Schema) (part : Part) (code : Code) (declared : List (Option Frame)) (place : ℕ) (next : Option Frame) (f : Frame) : Type 0 where
  pub op : Op
  pub edges : Edges
  pub here : slice_get code.ops place ≡ Some op
  pub frame : frame_at (declared_at declared place) next ≡ Ok f
  pub does : effect s part code op f ≡ Ok edges
  pub more : has_next (length code.ops) (place + 1) edges.on ≡ Ok tt
  pub on : on_due s edges.on (declared_at declared (place + 1)) ≡ Ok tt
  pub target : target_due s edges.target (declared_for declared op) ≡ Ok tt

-- a visit left this walk
pub record Visits (s : Schema) (part : Part) (code : Code) (declared : List (Option Frame)) (place : ℕ) (w t : Walk) : Type 0 where
  pub frame : Frame
  pub visited : Visited s part code declared place w.next frame
  pub is : t ≡ one_more frame visited.edges.on w

op_visits : (s : Schema) (part : Part) (code : Code) (declared : List (Option Frame)) (place : ℕ) (op : Op) (w t : Walk) → slice_get code.ops place ≡ Some op → visit_op s part code declared place op w ≡ Ok t
    → Visits s part code declared place w t
unfolding visit_op
op_visits s part code declared place op w t is h =
    let one = bind_ok (frame_at (declared_at declared place) w.next) _ t h in
    let two = bind_ok (effect s part code op one.0) _ t one.2 in
    let three = bind_ok (has_next (length code.ops) (place + 1) two.0.on) _ t two.2 in
    let four = bind_ok (on_due s two.0.on (declared_at declared (place + 1))) _ t three.2 in
    let five = bind_ok (target_due s two.0.target (declared_for declared op)) _ t four.2 in
    record {
      frame = one.0;
      visited = record { op = op; edges = two.0; here = is; frame = one.1; does = two.1; more = three.1; on = four.1; target = five.1 };
      is = sym (same_ok (one_more one.0 two.0.on w) t five.2);
    }

place_visits : (s : Schema) (part : Part) (code : Code) (declared : List (Option Frame)) (place : ℕ) (w t : Walk) → place < length code.ops → visit s part code declared w place ≡ Ok t → Visits s part code declared place w t
unfolding visit
place_visits s part code declared place w t lt h =
    let is : slice_get code.ops place ≡ Some (get_or code.ops place ops.Pop) = slice_get-get_or code.ops place ops.Pop lt in
    let here : map_err (fault_at place) (visit_op s part code declared place (get_or code.ops place ops.Pop) w) ≡ Ok t = rw (is, visit) at h in
    op_visits s part code declared place (get_or code.ops place ops.Pop) w t is (no_fault (fault_at place) (visit_op s part code declared place (get_or code.ops place ops.Pop) w) t here)

-- ---- one place after another

-- frames of places from this one on, where the op before left a frame for it or none
abbrev pub Chain : Schema → Part → Code → List (Option Frame) → (place : ℕ) (next : Option Frame) → List Frame → Type 0
Chain s part code declared place next [] = Unit {0}
Chain s part code declared place next (f ∷ fs) =
    (v : Visited s part code declared place next f) × Chain s part code declared (place + 1) v.edges.on fs

-- a walk over so many places put frames to those so far
pub record Walks (s : Schema) (part : Part) (code : Code) (declared : List (Option Frame)) (place count : ℕ) (w t : Walk) : Type 0 where
  pub made : List Frame
  pub are : t.frames ≡ w.frames ++ made
  pub long : length made ≡ count
  pub chain : Chain s part code declared place w.next made

regrown : {X : Type 0} (all xs : List X) (x : X) (ys : List X) → all ≡ (xs ++ x ∷ []) ++ ys → all ≡ xs ++ x ∷ ys
regrown all xs x ys is = is ∙ append_assoc xs (x ∷ []) ys

walk_walks : (s : Schema) (part : Part) (code : Code) (declared : List (Option Frame)) (a n : ℕ) (w t : Walk) → a + n ≤ length code.ops → try_fold (visit s part code declared) w (range_with_len a n) ≡ Ok t
    → Walks s part code declared a n w t
unfolding try_fold
walk_walks s part code declared a zero w t le h =
    record { made = []; are = ap (λ v. v.frames) (sym (same_ok w t h)) ∙ sym (append-nil w.frames); long = refl; chain = tt }
walk_walks s part code declared a (suc n) w t le h =
    let one = bind_ok (visit s part code declared w a) _ t h in
    let first = place_visits s part code declared a w one.0 (omega (arith, le)) one.1 in
    let after : Walk = one_more first.frame first.visited.edges.on w in
    let later : try_fold (visit s part code declared) after (range_with_len (a + 1) n) ≡ Ok t = subst (λ (x : Walk). try_fold (visit s part code declared) x (range_with_len (a + 1) n) ≡ Ok t) first.is one.2 in
    let others = walk_walks s part code declared (a + 1) n after t (omega (arith, le)) later in
    record {
      made = first.frame ∷ others.made;
      are = regrown t.frames w.frames first.frame others.made others.are;
      long = ap suc others.long;
      chain = (first.visited, others.chain);
    }

-- ---- all places

-- the frames of all places of a code
pub record Walked (s : Schema) (part : Part) (code : Code) (frames : List Frame) : Type 0 where
  pub entry : on_due s (Some (entry_frame part code.locals)) (declared_at (declared_frames code) 0) ≡ Ok tt
  pub long : length frames ≡ length code.ops
  pub chain : Chain s part code (declared_frames code) 0 (Some (entry_frame part code.locals)) frames

pub walked : (s : Schema) (part : Part) (code : Code) (frames : List Frame) → frames_of s part code ≡ Ok frames → Walked s part code frames
unfolding frames_of
walked s part code frames h =
    let one = bind_ok (map_err (fault_at 0) (on_due s (first_walk part code).next (declared_at (declared_frames code) 0))) _ frames h in
    let two = bind_ok (try_fold (visit s part code (declared_frames code)) (first_walk part code) (places code)) _ frames one.2 in
    let walks = walk_walks s part code (declared_frames code) 0 (length code.ops) (first_walk part code) two.0 (omega arith) two.1 in
    let same : walks.made ≡ frames = sym walks.are ∙ same_ok two.0.frames frames two.2 in
    record {
      entry = no_fault (fault_at 0) (on_due s (first_walk part code).next (declared_at (declared_frames code) 0)) tt one.1;
      long = ap (λ l. length l) (sym same) ∙ walks.long;
      chain = subst (Chain s part code (declared_frames code) 0 (Some (entry_frame part code.locals))) same walks.chain;
    }

pub frames_long : (s : Schema) (part : Part) (code : Code) (frames : List Frame) → frames_of s part code ≡ Ok frames → length frames ≡ length code.ops
frames_long s part code frames h = (walked s part code frames h).long
