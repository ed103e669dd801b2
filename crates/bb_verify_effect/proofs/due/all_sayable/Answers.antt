use Rattle.std.proofs.lemmas.Result.{err_from_is_err_and}
use Rattle.bb_verify_effect.specs.Due.{sayable}
use Rattle.bb_code.proofs.Laws.{each_next, each_error, each_end}
use Rattle.bb_verify_effect.proofs.due.all_sayable.Goals as goal

pub returns-in_err-sayable : goal.returns-in_err-sayable
returns-in_err-sayable c =
    let p = err_from_is_err_and c.from_residual.result c.from_residual.ensures.1 in
    rw (p.1, p.2) (each_error sayable c.args.kinds.now c.loop-kind.kind-index _ c.in_err-sayable.field-0.0 _ c.loop-kind-test.true c.in_err-sayable.ensures c.loop-kind.invariant)

pub loop-kind-preserved : goal.loop-kind-preserved
loop-kind-preserved c = each_next sayable c.args.kinds.now c.loop-kind.kind-index _ c.in_ok-sayable.field-0 _ c.loop-kind-test.true c.in_ok-sayable.ensures c.loop-kind.invariant

pub returns : goal.returns
returns c = each_end sayable c.args.kinds.now c.loop-kind.kind-index _ c.loop-kind-test.false c.loop-kind.invariant
