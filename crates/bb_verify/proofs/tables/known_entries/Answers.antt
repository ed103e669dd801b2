use Rattle.std.proofs.lemmas.Result.{err_from_is_err_and}
use Rattle.bb_verify.specs.Tables.{known_entry}
use Rattle.bb_verify_effect.proofs.Laws.{each_next, each_error, each_end}
use Rattle.bb_verify.proofs.tables.known_entries.Goals as goal

pub returns-in_err-known_entry : goal.returns-in_err-known_entry
returns-in_err-known_entry c =
    let p = err_from_is_err_and c.from_residual.result c.from_residual.ensures.1 in
    rw (p.1, p.2) (each_error (known_entry c.args.schema.now) c.args.kinds.now c.loop-kind.kind-index _ c.in_err-known_entry.field-0.0 _ c.loop-kind-test.true c.in_err-known_entry.ensures c.loop-kind.invariant)

pub loop-kind-preserved : goal.loop-kind-preserved
loop-kind-preserved c = each_next (known_entry c.args.schema.now) c.args.kinds.now c.loop-kind.kind-index _ c.in_ok-known_entry.field-0 _ c.loop-kind-test.true c.in_ok-known_entry.ensures c.loop-kind.invariant

pub returns : goal.returns
returns c = each_end (known_entry c.args.schema.now) c.args.kinds.now c.loop-kind.kind-index _ c.loop-kind-test.false c.loop-kind.invariant
