use Rattle.std.proofs.lemmas.Result.{err_from_is_err_and}
use Rattle.bb_verify.specs.nesting.Loops.{nests}
use Rattle.bb_code.proofs.Laws.{each_next, each_error, each_end}
use Rattle.bb_verify.proofs.nesting.loop_nesting.nests_with_all.Goals as goal

pub returns-in_err-nests : goal.returns-in_err-nests
returns-in_err-nests c =
    let p = err_from_is_err_and c.from_residual.result c.from_residual.ensures.1 in
    rw (p.1, p.2) (each_error (nests c.args.code.now c.args.l) c.args.loops.now c.loop-outer.outer-index _ c.in_err-nests.field-0.0 _ c.loop-outer-test.true (c.in_err-nests.ensures) c.loop-outer.invariant)

pub loop-outer-preserved : goal.loop-outer-preserved
loop-outer-preserved c = each_next (nests c.args.code.now c.args.l) c.args.loops.now c.loop-outer.outer-index _ c.in_ok-nests.field-0 _ c.loop-outer-test.true (c.in_ok-nests.ensures) c.loop-outer.invariant

pub returns : goal.returns
returns c = each_end (nests c.args.code.now c.args.l) c.args.loops.now c.loop-outer.outer-index _ c.loop-outer-test.false c.loop-outer.invariant
