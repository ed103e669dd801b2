use Rattle.std.proofs.Common.{◌≡◌, ◌-◌}
use Rattle.bb_code.specs.Fields.{repeated}
use Rattle.bb_code.proofs.Turns.{with_front}
use Rattle.bb_code.proofs.decode.fields.read_each.Given as goal

-- what was read and what is still to be read are the whole
abbrev pub invariant-loop : goal.invariant-loop
invariant-loop g l = with_front l.items.items (repeated g.F.Field.at (l.count - l.counter) l.rest) ≡ repeated g.F.Field.at l.count l.bytes
