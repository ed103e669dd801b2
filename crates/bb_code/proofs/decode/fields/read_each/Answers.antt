use Rattle.std.proofs.Common.{ℕ, List}
use Rattle.std.proofs.lemmas.Result.{err_from_is_err_and}
use Rattle.bb_code.specs.Fields.{repeated}
use Rattle.bb_code.proofs.Turns.{repeated_next, repeated_failed, is_done}
use Rattle.bb_code.proofs.decode.fields.read_each.Goals as goal

pub returns-in_err-item : goal.returns-in_err-item
returns-in_err-item g c =
    let p = err_from_is_err_and c.from_residual-in_err-item.result c.from_residual-in_err-item.ensures.1 in
    rw (p.1, p.2) (repeated_failed _ (List ℕ) g.F.Field.at c.loop.items.items c.args.count c.loop.counter c.loop.rest.now _ (repeated g.F.Field.at c.args.count c.args.bytes.now) c.loop-test.true c.in_err-item.ensures c.loop.invariant)

pub loop-preserved : goal.loop-preserved
loop-preserved g c =
    rw c.in_ok-push.ensures.items (repeated_next _ (List ℕ) g.F.Field.at c.loop.items.items c.args.count c.loop.counter c.loop.rest.now c.in_ok-item.item c.in_ok-item.after.now (repeated g.F.Field.at c.args.count c.args.bytes.now) c.loop-test.true c.in_ok-item.ensures c.loop.invariant)

pub returns : goal.returns
returns g c = rw c.from.ensures (is_done _ (List ℕ) g.F.Field.at c.loop.items.items c.args.count c.loop.counter c.loop.rest.now (repeated g.F.Field.at c.args.count c.args.bytes.now) c.loop-test.false c.loop.invariant)
