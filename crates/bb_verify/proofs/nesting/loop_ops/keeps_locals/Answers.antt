use Rattle.std.proofs.lemmas.Result.{err_from_is_err_and}
use Rattle.bb_verify.specs.nesting.Loops.{keeps_local}
use Rattle.bb_code.proofs.Laws.{each_next, each_error, each_end}
use Rattle.bb_verify.proofs.nesting.loop_ops.keeps_locals.Goals as goal

pub returns-in_err-keeps_local : goal.returns-in_err-keeps_local
returns-in_err-keeps_local c =
    let p = err_from_is_err_and c.from_residual.result c.from_residual.ensures.1 in
    rw (p.1, p.2) (each_error (keeps_local c.args.code.now c.args.place c.args.local) c.args.loops.now c.loop-l.l-index _ c.in_err-keeps_local.field-0.0 _ c.loop-l-test.true (c.in_err-keeps_local.ensures) c.loop-l.invariant)

pub loop-l-preserved : goal.loop-l-preserved
loop-l-preserved c = each_next (keeps_local c.args.code.now c.args.place c.args.local) c.args.loops.now c.loop-l.l-index _ c.in_ok-keeps_local.field-0 _ c.loop-l-test.true (c.in_ok-keeps_local.ensures) c.loop-l.invariant

pub returns : goal.returns
returns c = each_end (keeps_local c.args.code.now c.args.place c.args.local) c.args.loops.now c.loop-l.l-index _ c.loop-l-test.false c.loop-l.invariant
