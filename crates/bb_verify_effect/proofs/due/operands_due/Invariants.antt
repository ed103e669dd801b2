use Rattle.std.proofs.Common.{◌≡◌, drop}
use Rattle.bb_verify_effect.specs.Due.{operands_due}
use Rattle.bb_verify_effect.proofs.due.operands_due.Given as goal

abbrev pub invariant-loop-i : goal.invariant-loop-i
invariant-loop-i l = operands_due (drop l.i l.operands) (drop l.i l.kinds) ≡ operands_due l.operands l.kinds
