use Rattle.std.proofs.Common.{inr, sym, ◌∙◌}
use Rattle.std.proofs.lemmas.Result.{err_from_is_err_and}
use Rattle.bb_compile.proofs.HeadLemmas.{if_refused}
use Rattle.bb_compile.proofs.statements.emit_test.Goals as goal

pub returns-in_err-settle : goal.returns-in_err-settle
returns-in_err-settle c =
    let p = err_from_is_err_and c.from_residual-in_err-settle.result c.from_residual-in_err-settle.ensures.1 in
    rw (p.1, p.2) (inr (if_refused c.args.emitter.now.schema.now c.args.test.now c.args.place c.args.emitter.now.buffer c.emit_expr.new.emitter.buffer c.due.new.self c.put.new.self c.in_ok-kind.kind c.in_err-settle.field-0.0
    c.in_ok-kind.ensures.0 c.due.ensures c.in_ok-put.ensures (sym c.settle.ensures ∙ c.in_err-settle.was)))
