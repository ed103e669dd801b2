-- The pass over the places as a walk.
use Rattle.std.specs.Prelude.{Bool, true, false, Option, None, Some}
use Rattle.bb_verify_effect.specs.declared.frame.Frame.{Frame}
use Rattle.bb_verify.specs.declared.pass.Pass.{Pass}
use Rattle.bb_verify.specs.Places.{Walk}

-- the frame after an op at the next place, if execution may continue there
abbrev pub left_by : Bool → Frame → Option Frame
left_by false f = None
left_by true f = Some f

-- a pass as a walk
abbrev pub walk_of : Pass → Walk
walk_of p = record { frames = p.frames; next = left_by p.goes_on p.frame }
