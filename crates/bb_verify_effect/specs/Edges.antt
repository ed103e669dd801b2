-- The frames after an op (of this project).
use Rattle.std.specs.Prelude.{Bool, true, false, Option, None, Some}
use Rattle.bb_verify_effect.specs.declared.frame.Frame.{Frame}

-- the frames after an op, for each op that may follow it
pub record Edges : Type 0 where
  -- at the next op, if execution may continue there
  pub on : Option Frame
  -- at the target, if the op may jump there
  pub target : Option Frame

-- the frames after an op: the changed frame, if execution may continue with the next op, and the frame at the target
abbrev pub edges_of : Frame → Option Frame → Bool → Edges
edges_of f target true = record { on = Some f; target = target }
edges_of f target false = record { on = None; target = target }
