-- The frames of all places of a code (of this project).
use Rattle.std.specs.Prelude.{ℕ, ◌+◌, ◌-◌, nat_le, List, [], ◌∷◌, ◌++◌, length, replicate, set, slice_get}
use Rattle.std.specs.Prelude.{Option, Some, None, option_and_then, Result, Ok, Err, if◌then◌else◌}
use Rattle.bb_basis.specs.Results.{◌>>=◌, ok_or, map_err, try_fold}
use Rattle.bb_schema.specs.Schema.{Schema}
use Rattle.bb_code.specs.Code.{Code, places}
use Rattle.bb_code.specs.declared.frame.FrameEntry.{FrameEntry}
use Rattle.bb_code.specs.declared.frame.Kind.TheVariants.{Any}
use Rattle.bb_code.specs.declared.op.Op.{Op}
use Rattle.bb_code.specs.declared.flaw.Flaw.{Flaw}
use Rattle.bb_code.specs.declared.flaw.Flaw.TheVariants as flaws
use Rattle.bb_code.specs.declared.flaw.VerifyFault.{VerifyFault}
use Rattle.bb_verify_effect.specs.declared.frame.Frame.{Frame}
use Rattle.bb_verify_effect.specs.declared.part.Part.{Part}
use Rattle.bb_code.specs.Flaws.{fault_at}
use Rattle.bb_verify_effect.specs.Part.{units_of}
use Rattle.bb_verify_effect.specs.Frame.{frame_of}
use Rattle.bb_verify_effect.specs.Kinds.{frame_weakens}
use Rattle.bb_verify_effect.specs.Effect.{effect}
use Rattle.bb_verify.specs.nesting.Jumps.{target_of}

-- ---- declared frames

-- the list of all places, with declared frames set at their places
unfoldable pub with_frames : List (Option Frame) → List FrameEntry → List (Option Frame)
with_frames all [] = all
with_frames all (e ∷ es) = with_frames (set all e.place (Some (frame_of e.frame))) es

-- for each place of a code, the frame that is declared there
unfoldable pub declared_frames : Code → List (Option Frame)
declared_frames code = with_frames (replicate (length code.ops) None) code.frames

-- the frame that is declared for a place; `declared` is the list of all places
abbrev pub declared_at : List (Option Frame) → ℕ → Option Frame
declared_at declared place = option_and_then (λ f. f) (slice_get declared place)

-- the frame before the first op: the part's units in the first locals; nothing is known of the others
abbrev pub entry_frame : Part → ℕ → Frame
entry_frame part locals = record {
  locals = units_of part ++ replicate (locals - length (units_of part)) Any;
  stack = [];
}

-- ---- one place

-- the frame of a place: the declared one, or else the frame after the op before
abbrev pub frame_at : (declared next : Option Frame) → Result Frame Flaw
frame_at (Some f) next = Ok f
frame_at None next = ok_or next flaws.Frame

-- the frame after an op is allowed where this one is declared
unfoldable pub fits_declared : Schema → (left declared : Frame) → Result (Unit {0}) Flaw
fits_declared s left declared = if frame_weakens s left declared then Ok tt else Err flaws.Frame

-- the edge to the next place, for which a frame may be declared
abbrev pub on_due : Schema → (left declared : Option Frame) → Result (Unit {0}) Flaw
on_due s (Some left) (Some declared) = fits_declared s left declared
on_due s _ _ = Ok tt

-- the edge to the target of an op, for which a frame has to be declared
abbrev pub target_due : Schema → (left declared : Option Frame) → Result (Unit {0}) Flaw
target_due s (Some left) (Some declared) = fits_declared s left declared
target_due s (Some left) None = Err flaws.Frame
target_due s None declared = Ok tt

-- a code of `count` ops has the place at which execution continues
abbrev pub has_next : (count place : ℕ) → Option Frame → Result (Unit {0}) Flaw
has_next count place (Some left) = if nat_le count place then Err flaws.End else Ok tt
has_next count place None = Ok tt

-- the frame that is declared for the target of an op
abbrev pub declared_for : List (Option Frame) → Op → Option Frame
declared_for declared op = option_and_then (declared_at declared) (target_of op)

-- a walk over the places: the frames of the places so far, and the frame after the last op at the next place
pub record Walk : Type 0 where
  pub frames : List Frame
  pub next : Option Frame

-- the walk with another place: its frame, and the frame after its op at the next place
abbrev pub one_more : Frame → Option Frame → Walk → Walk
one_more f next walk = record { frames = walk.frames ++ f ∷ []; next = next }

-- an op at a place
unfoldable pub visit_op : Schema → Part → Code → List (Option Frame) → ℕ → Op → Walk → Result Walk Flaw
visit_op s part code declared place op walk = do
  f ← frame_at (declared_at declared place) walk.next
  edges ← effect s part code op f
  _ ← has_next (length code.ops) (place + 1) edges.on
  _ ← on_due s edges.on (declared_at declared (place + 1))
  _ ← target_due s edges.target (declared_for declared op)
  Ok (one_more f edges.on walk)

-- the op at a place
unfoldable pub visit : Schema → Part → Code → List (Option Frame) → Walk → ℕ → Result Walk VerifyFault
visit s part code declared walk place =
    elim (slice_get code.ops place)
    [ None ↦ Ok walk | Some op ↦ map_err (fault_at place) (visit_op s part code declared place op walk) ]

-- ---- all places

-- the walk before the first place
abbrev pub first_walk : Part → Code → Walk
first_walk part code = record { frames = []; next = Some (entry_frame part code.locals) }

-- the frames of all places
unfoldable pub frames_of : Schema → Part → Code → Result (List Frame) VerifyFault
frames_of s part code = do
  _ ← map_err (fault_at 0) (on_due s (first_walk part code).next (declared_at (declared_frames code) 0))
  walk ← try_fold (visit s part code (declared_frames code)) (first_walk part code) (places code)
  Ok walk.frames
