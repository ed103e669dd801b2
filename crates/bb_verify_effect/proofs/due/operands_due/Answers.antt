use Rattle.std.proofs.lemmas.Result.{err_from_is_err_and}
use Rattle.bb_verify_effect.proofs.OperandLemmas.{operands_next, operands_error, operands_end}
use Rattle.bb_verify_effect.proofs.due.operands_due.Goals as goal

pub returns-in_err-operand_due : goal.returns-in_err-operand_due
returns-in_err-operand_due c =
    let p = err_from_is_err_and c.from_residual.result c.from_residual.ensures.1 in
    rw (p.1, p.2) (operands_error c.args.operands.now c.args.kinds.now c.loop-i.i _ _ c.in_err-operand_due.field-0.0 _ c.loop-i-test.true c.requires c.in_err-operand_due.ensures c.loop-i.invariant)

pub loop-i-preserved : goal.loop-i-preserved
loop-i-preserved c = operands_next c.args.operands.now c.args.kinds.now c.loop-i.i _ _ c.in_ok-operand_due.field-0 _ c.loop-i-test.true c.requires c.in_ok-operand_due.ensures c.loop-i.invariant

pub returns : goal.returns
returns c = operands_end c.args.operands.now c.args.kinds.now c.loop-i.i _ c.loop-i-test.false c.loop-i.invariant
