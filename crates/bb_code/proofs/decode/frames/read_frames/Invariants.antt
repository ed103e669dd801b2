use Rattle.std.proofs.Common.{◌≡◌, ◌-◌}
use Rattle.bb_code.specs.declared.parts.TheConstants.{FRAME_LIMIT}
use Rattle.bb_code.specs.Fields.{repeated, list_at, frame_at}
use Rattle.bb_code.proofs.Turns.{with_front}
use Rattle.bb_code.proofs.decode.frames.read_frames.Given as goal

-- what was read and what is still to be read are the whole
abbrev pub invariant-loop : goal.invariant-loop
invariant-loop l = with_front l.frames.items (repeated (frame_at l.locals) (l.count - l.counter) l.rest) ≡ list_at 0 FRAME_LIMIT (frame_at l.locals) l.bytes
