use Rattle.std.proofs.Common.{ℕ, List}
use Rattle.std.proofs.lemmas.Result.{err_from_is_err_and}
use Rattle.bb_code.specs.declared.frame.Kind.{Kind}
use Rattle.bb_code.specs.Fields.{kind_at, repeated}
use Rattle.bb_code.proofs.Turns.{repeated_next, repeated_failed, is_done}
use Rattle.bb_code.proofs.decode.frames.read_kinds.Goals as goal

pub returns-in_err-kind : goal.returns-in_err-kind
returns-in_err-kind c =
    let p = err_from_is_err_and c.from_residual.result c.from_residual.ensures.1 in
    rw (p.1, p.2) (repeated_failed Kind (List ℕ) kind_at c.loop.kinds c.args.count c.loop.counter c.loop.rest.now _ (repeated kind_at c.args.count c.args.bytes.now) c.loop-test.true c.in_err-kind.ensures c.loop.invariant)

pub loop-preserved : goal.loop-preserved
loop-preserved c =
    rw c.in_ok-push.ensures.ok (repeated_next Kind (List ℕ) kind_at c.loop.kinds c.args.count c.loop.counter c.loop.rest.now c.in_ok-kind.kind c.in_ok-kind.after.now (repeated kind_at c.args.count c.args.bytes.now) c.loop-test.true c.in_ok-kind.ensures c.loop.invariant)

pub returns : goal.returns
returns c = is_done Kind (List ℕ) kind_at c.loop.kinds c.args.count c.loop.counter c.loop.rest.now (repeated kind_at c.args.count c.args.bytes.now) c.loop-test.false c.loop.invariant
