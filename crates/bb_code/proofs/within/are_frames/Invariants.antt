use Rattle.std.proofs.Common.{ℕ, ◌<◌, slice_index_or}
use Rattle.bb_code.specs.declared.frame.FrameEntry.{FrameEntry}
use Rattle.bb_code.specs.Code.{IsFrame}
use Rattle.bb_code.proofs.within.are_frames.Given as goal

-- the frames so far may stand in a code
abbrev pub invariant-loop-frame : goal.invariant-loop-frame
invariant-loop-frame l = (k : ℕ) (d : FrameEntry) → k < l.frame-index → IsFrame l.locals (slice_index_or l.frames k d)
