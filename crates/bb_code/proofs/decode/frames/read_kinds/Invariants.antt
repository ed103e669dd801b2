use Rattle.std.proofs.Common.{◌≡◌, ◌-◌}
use Rattle.bb_code.specs.Fields.{kind_at, repeated}
use Rattle.bb_code.proofs.Turns.{with_front}
use Rattle.bb_code.proofs.decode.frames.read_kinds.Given as goal

-- what was read and what is still to be read are the whole
abbrev pub invariant-loop : goal.invariant-loop
invariant-loop l = with_front l.kinds (repeated kind_at (l.count - l.counter) l.rest) ≡ repeated kind_at l.count l.bytes
