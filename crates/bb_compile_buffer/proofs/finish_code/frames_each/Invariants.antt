use Rattle.std.proofs.Common.{◌≡◌, ◌++◌, map, drop}
use Rattle.bb_compile_buffer.specs.Finish.{frame_of}
use Rattle.bb_compile_buffer.proofs.finish_code.frames_each.Given as goal

-- the frames that are made, and those that are still to be
abbrev pub invariant-loop-label : goal.invariant-loop-label
invariant-loop-label l = l.frames.items ++ map (frame_of l.locals) (drop l.label-index l.labels) ≡ map (frame_of l.locals) l.labels
