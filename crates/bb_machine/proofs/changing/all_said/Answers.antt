use Rattle.std.proofs.Common.{◌+◌, drop}
use Rattle.std.proofs.lemmas.Result.{err_from_is_err_and}
use Rattle.bb_basis.proofs.IntoMapLemmas.{into_map_error, into_map_next, into_map_end, next_one, length_drop_all}
use Rattle.bb_machine.specs.Changing.{said_due}
use Rattle.bb_machine.specs.declared.halt.Halt.TheVariants.{Memory}
use Rattle.bb_machine.proofs.SaidLemmas.{said_with}
use Rattle.bb_machine.proofs.changing.all_said.Goals as goal

pub returns-in_err-said_due-clause-gives : goal.returns-in_err-said_due-clause-gives
returns-in_err-said_due-clause-gives c =
    let p = err_from_is_err_and c.from_residual.result c.from_residual.ensures.1 in
    rw (p.1, p.2) (into_map_error Memory (said_due c.args.board.now) c.loop-value.said.items (drop c.loop-value.value-index c.args.values.now) _ c.value-item.result c.in_err-said_due.field-0.0 _ (next_one c.args.values.now c.loop-value.value-index c.value-item.result c.loop-value-test.true c.value-item.is) c.in_err-said_due.ensures.gives c.loop-value.invariant.0)

pub loop-value-preserved : goal.loop-value-preserved
loop-value-preserved c = (
  rw c.in_ok-push.ensures.items (into_map_next (said_due c.args.board.now) c.loop-value.said.items (drop c.loop-value.value-index c.args.values.now) (drop (c.loop-value.value-index + 1) c.args.values.now) c.value-item.result c.in_ok-said_due.field-0 _ (next_one c.args.values.now c.loop-value.value-index c.value-item.result c.loop-value-test.true c.value-item.is) c.in_ok-said_due.ensures.gives c.loop-value.invariant.0),
  rw c.in_ok-push.ensures.items (said_with c.args.board.now c.loop-value.said.items c.in_ok-said_due.field-0 c.loop-value.invariant.1 c.in_ok-said_due.ensures.said),
)

pub returns-clause-gives : goal.returns-clause-gives
returns-clause-gives c = into_map_end (said_due c.args.board.now) c.loop-value.said.items (drop c.loop-value.value-index c.args.values.now) _ (length_drop_all c.args.values.now c.loop-value.value-index c.loop-value-test.false) c.loop-value.invariant.0
