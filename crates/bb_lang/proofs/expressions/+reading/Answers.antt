use Rattle.std.proofs.Common.{[], ◌∷◌, ◌∙◌, sym, rules}
use Rattle.std.proofs.lemmas.Result.{err_from_is_err_and}
use Rattle.bb_lang_tree.specs.declared.fault.LangFault.TheVariants.{Memory}
use Rattle.bb_lang.specs.Repeats.{next_item}
use Rattle.bb_lang.specs.Expressions.{inside, pattern, step, operand_of}
use Rattle.bb_lang.proofs.RepeatLemmas.{repeat_more, repeat_stop, repeat_error, repeat_end, items_begin}
use Rattle.bb_lang.proofs.ChainLemmas.{first_fails, steps_fail, chain_whole}
use Rattle.bb_lang.proofs.expressions.+reading.Goals as goal

-- ---- a chain

pub read_chain-returns-in_err-first-clause-read : goal.read_chain-returns-in_err-first-clause-read
read_chain-returns-in_err-first-clause-read t c =
    let p = err_from_is_err_and c.from_residual.result c.from_residual.ensures.1 in
    rw (p.1, p.2) (first_fails c.args.level (inside c.args.parser.now.nesting) c.args.parser.now.state Memory c.in_err-first.field-0.0 c.in_err-first.ensures.read)

pub read_chain-returns-in_err-steps-clause-read : goal.read_chain-returns-in_err-steps-clause-read
read_chain-returns-in_err-steps-clause-read t c =
    let p = err_from_is_err_and c.from_residual-in_err-steps.result c.from_residual-in_err-steps.ensures.1 in
    rw (p.1, p.2) (steps_fail c.args.level (inside c.args.parser.now.nesting) c.args.parser.now.state Memory c.in_err-steps.field-0.0 c.in_ok-first.first c.read_operand.new.parser.state c.in_ok-first.ensures.read (rw c.in_ok-first.ensures.nesting at c.in_err-steps.ensures.read))

pub read_chain-returns-clause-read : goal.read_chain-returns-clause-read
read_chain-returns-clause-read t c =
    chain_whole c.args.level (inside c.args.parser.now.nesting) c.args.parser.now.state c.in_ok-first.first c.in_ok-chained.field-0 c.in_ok-steps.steps.items c.read_operand.new.parser.state c.read_steps.new.parser.state
    c.in_ok-first.ensures.read (rw c.in_ok-first.ensures.nesting at c.in_ok-steps.ensures.read) c.in_ok-chained.ensures

-- ---- as many steps as come

pub read_steps-returns-in_err-step-clause-read : goal.read_steps-returns-in_err-step-clause-read
read_steps-returns-in_err-step-clause-read t c =
    let p = err_from_is_err_and c.from_residual.result c.from_residual.ensures.1 in
    rw (p.1, p.2) (repeat_error (step c.args.level (operand_of c.args.level (inside c.args.parser.now.nesting))) Memory c.in_err-step.field-0.0 c.loop-turn.steps.items c.loop-turn._turn c.left-turn-end.result c.loop-turn.parser.state _ c.loop-turn-test.true (rw c.loop-turn.invariant.nesting at c.in_err-step.ensures.read) c.loop-turn.invariant.read)

pub read_steps-returns-in_default-clause-read : goal.read_steps-returns-in_default-clause-read
read_steps-returns-in_default-clause-read t c =
    repeat_stop (step c.args.level (operand_of c.args.level (inside c.args.parser.now.nesting))) c.loop-turn.steps.items c.loop-turn._turn c.left-turn-end.result c.loop-turn.parser.state c.read_step.new.parser.state _ c.loop-turn-test.true
    (rw (c.in_default.is, c.loop-turn.invariant.nesting) at c.in_ok-step.ensures.read) c.loop-turn.invariant.read

pub read_steps-loop-turn-preserved : goal.read_steps-loop-turn-preserved
read_steps-loop-turn-preserved t c = record {
  nesting = c.in_ok-step.ensures.nesting ∙ c.loop-turn.invariant.nesting;
  read =
      repeat_more (step c.args.level (operand_of c.args.level (inside c.args.parser.now.nesting))) c.loop-turn.steps.items c.push.new.self.items c.in-Some.step c.loop-turn._turn c.left-turn-end.result c.loop-turn.parser.state c.read_step.new.parser.state _ c.loop-turn-test.true
      (search rules) (rw (c.in-Some.is, c.loop-turn.invariant.nesting) at c.in_ok-step.ensures.read) c.loop-turn.invariant.read;
}

pub read_steps-returns-clause-read : goal.read_steps-returns-clause-read
read_steps-returns-clause-read t c =
    repeat_end (step c.args.level (operand_of c.args.level (inside c.args.parser.now.nesting))) c.loop-turn.steps.items c.loop-turn._turn c.left-turn-end.result c.loop-turn.parser.state _ c.loop-turn-test.false c.loop-turn.invariant.read

-- ---- as many patterns as come

pub read_patterns-returns-in_err-pattern-clause-read : goal.read_patterns-returns-in_err-pattern-clause-read
read_patterns-returns-in_err-pattern-clause-read t c =
    let p = err_from_is_err_and c.from_residual-in_err-pattern.result c.from_residual-in_err-pattern.ensures.1 in
    let begun = items_begin (41 ∷ []) (pattern c.args.parser.now.nesting) c.args.parser.now.state c.read_pattern.new.parser.state c.in_ok-read_pattern.field-0 c.new-patterns.result.items c.push.new.self.items c.left-turn-end.result (sym c.at.ensures ∙ c.if-at.false) c.in_ok-read_pattern.ensures.read c.new-patterns.ensures.items (search rules) c.left-turn-end.ensures in
    rw (p.1, p.2) (repeat_error (next_item (pattern c.args.parser.now.nesting)) Memory c.in_err-pattern.field-0.0 c.loop-turn.patterns.items c.loop-turn._turn c.left-turn-end.result c.loop-turn.parser.state _ c.loop-turn-test.true (rw c.loop-turn.invariant.nesting at c.in_err-pattern.ensures.read) (c.loop-turn.invariant.read ∙ sym begun))

pub read_patterns-returns-in_default-clause-read : goal.read_patterns-returns-in_default-clause-read
read_patterns-returns-in_default-clause-read t c =
    let begun = items_begin (41 ∷ []) (pattern c.args.parser.now.nesting) c.args.parser.now.state c.read_pattern.new.parser.state c.in_ok-read_pattern.field-0 c.new-patterns.result.items c.push.new.self.items c.left-turn-end.result (sym c.at.ensures ∙ c.if-at.false) c.in_ok-read_pattern.ensures.read c.new-patterns.ensures.items (search rules) c.left-turn-end.ensures in
    repeat_stop (next_item (pattern c.args.parser.now.nesting)) c.loop-turn.patterns.items c.loop-turn._turn c.left-turn-end.result c.loop-turn.parser.state c.read_next_pattern.new.parser.state _ c.loop-turn-test.true
    (rw (c.in_default.is, c.loop-turn.invariant.nesting) at c.in_ok-pattern.ensures.read) (c.loop-turn.invariant.read ∙ sym begun)

pub read_patterns-loop-turn-preserved : goal.read_patterns-loop-turn-preserved
read_patterns-loop-turn-preserved t c = record {
  nesting = c.in_ok-pattern.ensures.nesting ∙ c.loop-turn.invariant.nesting;
  read =
      repeat_more (next_item (pattern c.args.parser.now.nesting)) c.loop-turn.patterns.items c.push-in-loop-turn.new.self.items c.in-Some.pattern c.loop-turn._turn c.left-turn-end.result c.loop-turn.parser.state c.read_next_pattern.new.parser.state _ c.loop-turn-test.true
      (search rules) (rw (c.in-Some.is, c.loop-turn.invariant.nesting) at c.in_ok-pattern.ensures.read) c.loop-turn.invariant.read;
}

pub read_patterns-returns-clause-read : goal.read_patterns-returns-clause-read
read_patterns-returns-clause-read t c =
    let begun = items_begin (41 ∷ []) (pattern c.args.parser.now.nesting) c.args.parser.now.state c.read_pattern.new.parser.state c.in_ok-read_pattern.field-0 c.new-patterns.result.items c.push.new.self.items c.left-turn-end.result (sym c.at.ensures ∙ c.if-at.false) c.in_ok-read_pattern.ensures.read c.new-patterns.ensures.items (search rules) c.left-turn-end.ensures in
    repeat_end (next_item (pattern c.args.parser.now.nesting)) c.loop-turn.patterns.items c.loop-turn._turn c.left-turn-end.result c.loop-turn.parser.state _ c.loop-turn-test.false (c.loop-turn.invariant.read ∙ sym begun)
