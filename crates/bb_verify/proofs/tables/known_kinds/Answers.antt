use Rattle.std.proofs.lemmas.Result.{err_from_is_err_and}
use Rattle.bb_verify.specs.Tables.{known_kind}
use Rattle.bb_verify_effect.proofs.Laws.{each_next, each_error, each_end}
use Rattle.bb_verify.proofs.tables.known_kinds.Goals as goal

pub returns-in_err-known_kind : goal.returns-in_err-known_kind
returns-in_err-known_kind c =
    let p = err_from_is_err_and c.from_residual.result c.from_residual.ensures.1 in
    rw (p.1, p.2) (each_error (known_kind c.args.schema.now) c.args.kinds.now c.loop-kind.kind-index _ c.in_err-known_kind.field-0.0 _ c.loop-kind-test.true c.in_err-known_kind.ensures c.loop-kind.invariant)

pub loop-kind-preserved : goal.loop-kind-preserved
loop-kind-preserved c = each_next (known_kind c.args.schema.now) c.args.kinds.now c.loop-kind.kind-index _ c.in_ok-known_kind.field-0 _ c.loop-kind-test.true c.in_ok-known_kind.ensures c.loop-kind.invariant

pub returns : goal.returns
returns c = each_end (known_kind c.args.schema.now) c.args.kinds.now c.loop-kind.kind-index _ c.loop-kind-test.false c.loop-kind.invariant
