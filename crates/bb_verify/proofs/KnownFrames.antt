-- Each entry of the stack of each frame of an accepted code is known.
use Rattle.std.proofs.Common.{◌≡◌, ℕ, ◌+◌, Bool, true, false, cond, List, [], ◌∷◌, length, set, reverse, Option, Some, None, Ok, refl, subst}
use Rattle.std.specs.Prelude.{All, slice_get, replicate}
use Rattle.std.proofs.lemmas.List.Elements.{All-nil, All-cons, All-head, All-tail, All-set, All-replicate, All-drop, All-map, All-weaker, All-get_or}
use Rattle.std.proofs.lemmas.List.Sorted.{All-permutation, IsPermutation-reverse}
use Rattle.std.proofs.lemmas.Option.{slice_get_within, get_or_from_slice_get}
use Rattle.bb_basis.proofs.ResultLemmas.{bind_ok}
use Rattle.bb_schema.specs.Schema.{Schema}
use Rattle.bb_code.specs.Code.{Code}
use Rattle.bb_code.specs.declared.frame.FrameEntry.{FrameEntry}
use Rattle.bb_code.specs.declared.frame.Kind.{Kind}
use Rattle.bb_code.specs.declared.frame.Kind.TheVariants.{Any, Ref, Old}
use Rattle.bb_schema.specs.Ownership.{strikes}
use Rattle.bb_verify_effect.specs.declared.frame.Frame.{Frame}
use Rattle.bb_verify_effect.specs.declared.part.Part.{Part}
use Rattle.bb_code.specs.Each.{each}
use Rattle.bb_verify.specs.Tables.{known_kind, known_entry, known_frame, tables}
use Rattle.bb_verify_effect.specs.Effect.{after_delete}
use Rattle.bb_verify_effect.specs.Frame.{frame_of}
use Rattle.bb_verify_effect.specs.Kinds.{struck}
use Rattle.bb_verify.specs.Places.{with_frames, declared_frames, declared_at, entry_frame, frame_at}
use Rattle.bb_verify_effect.proofs.Laws.{each_all}
use Rattle.bb_verify.proofs.TableLemmas.{tables_ok}
use Rattle.bb_verify.proofs.WalkLemmas.{Chain, Walked}
use Rattle.bb_verify.proofs.StandLemmas.{is_declared}
use Rattle.bb_verify.proofs.FrameRule.{IsKnown, IsKept, OnEdge, effect_keeps}

all_at : {X : Type 0} (P : X → Type 0) (xs : List X) (i : ℕ) (x : X) → All P xs → slice_get xs i ≡ Some x → P x
all_at P xs i x all is = subst P (get_or_from_slice_get xs i x x is) (All-get_or P xs i x (slice_get_within xs i x is) all)

-- ---- an op leaves known entries where it meets them

-- each entry of the stack is known
abbrev AreKnown : Frame → Type 0
AreKnown f = All IsKnown f.stack

either_known : (b : Bool) (c : ℕ) → IsKnown (cond b (Old c) (Ref c))
either_known true c = refl
either_known false c = refl

struck_known : (s : Schema) (deleted : ℕ) (k : Kind) → IsKnown k → IsKnown (struck s deleted k)
unfolding struck
struck_known s deleted (Ref c) is = either_known (strikes s deleted c) c
struck_known s deleted _ is = is

known_kept : IsKept AreKnown
unfolding after_delete
known_kept = record {
  drops = λ n f known. All-drop IsKnown n f.stack known;
  pushes = λ k f is known. All-cons IsKnown k f.stack is known;
  stores = λ l k f known. known;
  strikes = λ s class f known. All-map IsKnown (struck s class) f.stack (All-weaker IsKnown (λ k. IsKnown (struck s class k)) (struck_known s class) f.stack known);
}

edge_known : (o : Option Frame) (g : Frame) → OnEdge AreKnown o → o ≡ Some g → AreKnown g
edge_known None g known is = absurd cc
edge_known (Some f) g known is = subst AreKnown (let e : f ≡ g = cc in e) known

-- ---- declared frames

entry_known : (s : Schema) (k : Kind) → known_entry s k ≡ Ok tt → IsKnown k
entry_known s Any h = absurd cc
entry_known s _ h = refl

-- the frame of an entry is known
abbrev IsKnownAt : FrameEntry → Type 0
IsKnownAt e = AreKnown (frame_of e.frame)

frame_known : (s : Schema) (e : FrameEntry) → known_frame s e ≡ Ok tt → IsKnownAt e
unfolding known_frame
frame_known s e h =
    let one = bind_ok (each (known_kind s) e.frame.locals) _ tt h in
    let all = All-weaker (λ k. known_entry s k ≡ Ok tt) IsKnown (entry_known s) e.frame.stack (each_all (known_entry s) e.frame.stack one.2) in
    All-permutation IsKnown e.frame.stack (reverse e.frame.stack) (IsPermutation-reverse e.frame.stack) all

-- a frame is known, where one is declared
abbrev Declares : Option Frame → Type 0
Declares o = (d : Frame) → o ≡ Some d → AreKnown d

put_known : (all : List (Option Frame)) (es : List FrameEntry) → All Declares all → All IsKnownAt es → All Declares (with_frames all es)
unfolding with_frames
put_known all [] before known = before
put_known all (e ∷ es) before known =
    let one : Declares (Some (frame_of e.frame)) = λ d is. subst AreKnown (let same : frame_of e.frame ≡ d = cc in same) (All-head IsKnownAt e es known) in
    put_known (set all e.place (Some (frame_of e.frame))) es (All-set Declares all e.place (Some (frame_of e.frame)) one before) (All-tail IsKnownAt e es known)

entries_known : (s : Schema) (part : Part) (code : Code) → tables s part code ≡ Ok tt → All IsKnownAt code.frames
entries_known s part code h =
    All-weaker (λ e. known_frame s e ≡ Ok tt) IsKnownAt (frame_known s) code.frames (each_all (known_frame s) code.frames (tables_ok s part code h).frames)

declared_known : (s : Schema) (part : Part) (code : Code) → tables s part code ≡ Ok tt → (place : ℕ) → Declares (declared_at (declared_frames code) place)
unfolding declared_frames
declared_known s part code h place d is =
    let none : Declares None = λ k e. absurd cc in
    let start : All Declares (replicate (length code.ops) None) = All-replicate Declares (length code.ops) None none in
    let all : All Declares (declared_frames code) = put_known (replicate (length code.ops) None) code.frames start (entries_known s part code h) in
    all_at Declares (declared_frames code) place (Some d) all (is_declared (slice_get (declared_frames code) place) d is) d refl

-- ---- all frames

came_known : (declared next : Option Frame) (f : Frame) → Declares declared → Declares next → frame_at declared next ≡ Ok f → AreKnown f
came_known (Some d) next f known before at = subst AreKnown (let same : d ≡ f = cc in same) (known d refl)
came_known None (Some g) f known before at = subst AreKnown (let same : g ≡ f = cc in same) (before g refl)
came_known None None f known before at = absurd cc

chain_known : (s : Schema) (part : Part) (code : Code) (declared : List (Option Frame)) → ((place : ℕ) → Declares (declared_at declared place)) → (frames : List Frame) (place : ℕ) (next : Option Frame)
    → Declares next → Chain s part code declared place next frames → All AreKnown frames
chain_known s part code declared known [] place next before chain = All-nil AreKnown
chain_known s part code declared known (f ∷ fs) place next before chain =
    let first : AreKnown f = came_known (declared_at declared place) next f (known place) before chain.0.frame in
    let after : Declares chain.0.edges.on = λ g. edge_known chain.0.edges.on g (effect_keeps AreKnown known_kept s part code f first chain.0.edges chain.0.op chain.0.does).0 in
    All-cons AreKnown f fs first (chain_known s part code declared known fs (place + 1) chain.0.edges.on after chain.1)

pub frames_known : (s : Schema) (part : Part) (code : Code) (frames : List Frame) → tables s part code ≡ Ok tt → Walked s part code frames → (place : ℕ) (f : Frame) → slice_get frames place ≡ Some f → AreKnown f
frames_known s part code frames h w place f is =
    let entry : Declares (Some (entry_frame part code.locals)) = λ g same. subst AreKnown (let e : entry_frame part code.locals ≡ g = cc in e) (All-nil IsKnown) in
    all_at AreKnown frames place f (chain_known s part code (declared_frames code) (declared_known s part code h) frames 0 (Some (entry_frame part code.locals)) entry w.chain) is
