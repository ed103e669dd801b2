use Rattle.std.proofs.Common.{◌≡◌, drop}
use Rattle.bb_code.specs.Each.{each}
use Rattle.bb_verify.specs.Tables.{known_frame}
use Rattle.bb_verify.proofs.tables.known_frames.Given as goal

abbrev pub invariant-loop-frame : goal.invariant-loop-frame
invariant-loop-frame l = each (known_frame l.schema) (drop l.frame-index l.frames) ≡ each (known_frame l.schema) l.frames
