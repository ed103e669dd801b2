use Rattle.std.proofs.Common.{◌≡◌, map, drop, take}
use Rattle.bb_pattern.specs.Values.{kind_of_operand}
use Rattle.bb_machine.specs.Reading.{operands_due}
use Rattle.bb_basis.proofs.IntoMapLemmas.{joined}
use Rattle.bb_machine.proofs.reading.operands_due.Given as goal

abbrev pub invariant-loop-i : goal.invariant-loop-i
invariant-loop-i l =
    (joined l.operands.items (operands_due (drop l.i l.kinds) (drop l.i l.values)) ≡ operands_due l.kinds l.values)
    × (map kind_of_operand l.operands.items ≡ take l.i l.kinds)
