use Rattle.std.proofs.Common.{[], ◌∷◌, ◌∙◌, sym, rules}
use Rattle.std.proofs.lemmas.Result.{err_from_is_err_and}
use Rattle.bb_lang_tree.specs.declared.fault.LangFault.TheVariants.{Memory}
use Rattle.bb_lang.specs.Repeats.{next_item}
use Rattle.bb_lang.specs.Expressions.{expr}
use Rattle.bb_lang.proofs.RepeatLemmas.{repeat_more, repeat_stop, repeat_error, repeat_end, items_begin}
use Rattle.bb_lang.proofs.actions.read_exprs.Goals as goal

pub returns-in_err-expr-clause-read : goal.returns-in_err-expr-clause-read
returns-in_err-expr-clause-read c =
    let p = err_from_is_err_and c.from_residual-in_err-expr.result c.from_residual-in_err-expr.ensures.1 in
    let begun = items_begin (59 ∷ []) (expr c.args.parser.now.nesting) c.args.parser.now.state c.read_expr.new.parser.state c.in_ok-read_expr.field-0 c.new-exprs.result.items c.push.new.self.items c.left-turn-end.result (sym c.at.ensures ∙ c.if-at.false) c.in_ok-read_expr.ensures.read c.new-exprs.ensures.items (search rules) c.left-turn-end.ensures in
    rw (p.1, p.2) (repeat_error (next_item (expr c.args.parser.now.nesting)) Memory c.in_err-expr.field-0.0 c.loop-turn.exprs.items c.loop-turn._turn c.left-turn-end.result c.loop-turn.parser.state _ c.loop-turn-test.true (rw c.loop-turn.invariant.nesting at c.in_err-expr.ensures.read) (c.loop-turn.invariant.read ∙ sym begun))

pub returns-in_default-clause-read : goal.returns-in_default-clause-read
returns-in_default-clause-read c =
    let begun = items_begin (59 ∷ []) (expr c.args.parser.now.nesting) c.args.parser.now.state c.read_expr.new.parser.state c.in_ok-read_expr.field-0 c.new-exprs.result.items c.push.new.self.items c.left-turn-end.result (sym c.at.ensures ∙ c.if-at.false) c.in_ok-read_expr.ensures.read c.new-exprs.ensures.items (search rules) c.left-turn-end.ensures in
    repeat_stop (next_item (expr c.args.parser.now.nesting)) c.loop-turn.exprs.items c.loop-turn._turn c.left-turn-end.result c.loop-turn.parser.state c.read_next_expr.new.parser.state _ c.loop-turn-test.true
    (rw (c.in_default.is, c.loop-turn.invariant.nesting) at c.in_ok-expr.ensures.read) (c.loop-turn.invariant.read ∙ sym begun)

pub loop-turn-preserved : goal.loop-turn-preserved
loop-turn-preserved c = record {
  nesting = c.in_ok-expr.ensures.nesting ∙ c.loop-turn.invariant.nesting;
  read =
      repeat_more (next_item (expr c.args.parser.now.nesting)) c.loop-turn.exprs.items c.push-in-loop-turn.new.self.items c.in-Some.expr c.loop-turn._turn c.left-turn-end.result c.loop-turn.parser.state c.read_next_expr.new.parser.state _ c.loop-turn-test.true
      (search rules) (rw (c.in-Some.is, c.loop-turn.invariant.nesting) at c.in_ok-expr.ensures.read) c.loop-turn.invariant.read;
}

pub returns-clause-read : goal.returns-clause-read
returns-clause-read c =
    let begun = items_begin (59 ∷ []) (expr c.args.parser.now.nesting) c.args.parser.now.state c.read_expr.new.parser.state c.in_ok-read_expr.field-0 c.new-exprs.result.items c.push.new.self.items c.left-turn-end.result (sym c.at.ensures ∙ c.if-at.false) c.in_ok-read_expr.ensures.read c.new-exprs.ensures.items (search rules) c.left-turn-end.ensures in
    repeat_end (next_item (expr c.args.parser.now.nesting)) c.loop-turn.exprs.items c.loop-turn._turn c.left-turn-end.result c.loop-turn.parser.state _ c.loop-turn-test.false (c.loop-turn.invariant.read ∙ sym begun)
