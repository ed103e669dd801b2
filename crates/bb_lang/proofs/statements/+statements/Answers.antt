use Rattle.std.proofs.Common.{◌∙◌, rules}
use Rattle.std.proofs.lemmas.Result.{err_from_is_err_and}
use Rattle.bb_lang_tree.specs.declared.fault.LangFault.TheVariants.{Memory}
use Rattle.bb_lang.specs.Statements.{next_statement, block}
use Rattle.bb_lang.proofs.RepeatLemmas.{repeat_more, repeat_stop, repeat_error, repeat_end}
use Rattle.bb_lang.proofs.BlockLemmas.{unopened_fails, statements_fail, close_fails, block_whole}
use Rattle.bb_lang.proofs.statements.+statements.Goals as goal

-- ---- as many statements as come

pub read_statements-returns-in_err-statement-clause-read : goal.read_statements-returns-in_err-statement-clause-read
read_statements-returns-in_err-statement-clause-read t c =
    let p = err_from_is_err_and c.from_residual.result c.from_residual.ensures.1 in
    rw (p.1, p.2) (repeat_error (next_statement c.args.parser.now.nesting (block c.args.parser.now.nesting)) Memory c.in_err-statement.field-0.0 c.loop-turn.statements.items c.loop-turn._turn c.left-turn-end.result c.loop-turn.parser.state _ c.loop-turn-test.true (rw c.loop-turn.invariant.nesting at c.in_err-statement.ensures.read) c.loop-turn.invariant.read)

pub read_statements-returns-in_default-clause-read : goal.read_statements-returns-in_default-clause-read
read_statements-returns-in_default-clause-read t c =
    repeat_stop (next_statement c.args.parser.now.nesting (block c.args.parser.now.nesting)) c.loop-turn.statements.items c.loop-turn._turn c.left-turn-end.result c.loop-turn.parser.state c.read_next_statement.new.parser.state _ c.loop-turn-test.true
    (rw (c.in_default.is, c.loop-turn.invariant.nesting) at c.in_ok-statement.ensures.read) c.loop-turn.invariant.read

pub read_statements-loop-turn-preserved : goal.read_statements-loop-turn-preserved
read_statements-loop-turn-preserved t c = record {
  nesting = c.in_ok-statement.ensures.nesting ∙ c.loop-turn.invariant.nesting;
  read =
      repeat_more (next_statement c.args.parser.now.nesting (block c.args.parser.now.nesting)) c.loop-turn.statements.items c.push.new.self.items c.in-Some.statement c.loop-turn._turn c.left-turn-end.result c.loop-turn.parser.state c.read_next_statement.new.parser.state _ c.loop-turn-test.true
      (search rules) (rw (c.in-Some.is, c.loop-turn.invariant.nesting) at c.in_ok-statement.ensures.read) c.loop-turn.invariant.read;
}

pub read_statements-returns-clause-read : goal.read_statements-returns-clause-read
read_statements-returns-clause-read t c =
    repeat_end (next_statement c.args.parser.now.nesting (block c.args.parser.now.nesting)) c.loop-turn.statements.items c.loop-turn._turn c.left-turn-end.result c.loop-turn.parser.state _ c.loop-turn-test.false c.loop-turn.invariant.read

-- ---- a block

pub read_block-returns-in_err-outer-clause-read : goal.read_block-returns-in_err-outer-clause-read
read_block-returns-in_err-outer-clause-read t c =
    let p = err_from_is_err_and c.from_residual.result c.from_residual.ensures.1 in
    rw (p.1, p.2) (unopened_fails c.args.parser.now.nesting c.args.parser.now.state Memory c.in_err-outer.field-0.0 c.in_err-outer.ensures.inner)

pub read_block-returns-in_err-statements-clause-read : goal.read_block-returns-in_err-statements-clause-read
read_block-returns-in_err-statements-clause-read t c =
    let p = err_from_is_err_and c.from_residual-in_err-statements.result c.from_residual-in_err-statements.ensures.1 in
    rw (p.1, p.2) (statements_fail c.args.parser.now.nesting c.args.parser.now.state c.open.new.parser.nesting c.open.new.parser.state _ c.in_ok-outer.ensures.one c.in_ok-outer.ensures.inner Memory c.in_err-statements.field-0.0 c.in_err-statements.ensures.read)

pub read_block-returns-in_err-close-clause-read : goal.read_block-returns-in_err-close-clause-read
read_block-returns-in_err-close-clause-read t c =
    let p = err_from_is_err_and c.from_residual-in_err-close.result c.from_residual-in_err-close.ensures.1 in
    rw (p.1, p.2) (close_fails c.args.parser.now.nesting c.args.parser.now.state c.open.new.parser.nesting c.open.new.parser.state _ c.in_ok-outer.ensures.one c.in_ok-outer.ensures.inner Memory c.in_err-close.field-0.0 c.in_ok-statements.statements.items c.read_statements.new.parser.state c.in_ok-statements.ensures.read c.in_err-close.ensures.read)

pub read_block-returns-clause-read : goal.read_block-returns-clause-read
read_block-returns-clause-read t c =
    block_whole c.args.parser.now.nesting c.args.parser.now.state c.open.new.parser.nesting c.open.new.parser.state _ c.in_ok-outer.ensures.one c.in_ok-outer.ensures.inner c.in_ok-statements.statements.items c.read_statements.new.parser.state c.close.new.parser.state c.leave_scope.new.self.state c.new.result
    c.in_ok-statements.ensures.read c.in_ok-close.ensures.read c.new.ensures (rw c.scope_len-scope.ensures at c.leave_scope.ensures.read)
