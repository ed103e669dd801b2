use Rattle.std.proofs.Common.{arith, refl, sym, ap, ◌∙◌, rules}
use Rattle.std.proofs.lemmas.Result.{err_from_is_err_and}
use Rattle.bb_lang.specs.View.{expr_of, pattern_of}
use Rattle.bb_compile_scope.specs.declared.fault.CompileFault.TheVariants.{Memory}
use Rattle.bb_compile.proofs.LoopLemmas.{steps_next, steps_fail, steps_end, front_empty, patterns_next, patterns_fail, patterns_end}
use Rattle.bb_compile.proofs.EmitterLemmas.{same_on}
use Rattle.bb_compile.proofs.SizeLemmas.{step_in_steps, steps_in_chain, pattern_in_patterns, patterns_in_and, patterns_in_or}
use Rattle.bb_compile.proofs.expressions.+emitting.Goals as goal

-- ---- sizes

pub emit_expr-emit_steps-requires : goal.emit_expr-emit_steps-requires
emit_expr-emit_steps-requires t c =
    let below = steps_in_chain c.args.expr.now c.in-Chain.first.value c.in-Chain.steps.items c.as_slice.result.now (sym (ap expr_of c.in-Chain.is) ∙ c.node.ensures) c.as_slice.ensures.value in
    (omega (arith, below), tt)

pub emit_steps-emit_step-requires : goal.emit_steps-emit_step-requires
emit_steps-emit_step-requires t c =
    let below = step_in_steps c.args.steps.now c.loop-step.step-index c.step-item.result c.loop-step-test.true c.step-item.is in
    (omega (arith, below), tt)

pub emit_pattern-emit_patterns-requires : goal.emit_pattern-emit_patterns-requires
emit_pattern-emit_patterns-requires t c =
    let below = patterns_in_and c.args.pattern.now c.in-And.parts.items c.as_slice.result.now (sym (ap pattern_of c.in-And.is) ∙ c.node.ensures) c.as_slice.ensures.value in
    (omega (arith, below), tt)

pub emit_pattern-emit_patterns-requires-in-Or : goal.emit_pattern-emit_patterns-requires-in-Or
emit_pattern-emit_patterns-requires-in-Or t c =
    let below = patterns_in_or c.args.pattern.now c.in-Or.parts.items c.as_slice-in-Or.result.now (sym (ap pattern_of c.in-Or.is) ∙ c.node.ensures) c.as_slice-in-Or.ensures.value in
    (omega (arith, below), tt)

pub emit_patterns-emit_pattern-requires : goal.emit_patterns-emit_pattern-requires
emit_patterns-emit_pattern-requires t c =
    let below = pattern_in_patterns c.args.patterns.now c.loop-pattern.pattern-index c.pattern-item.result c.loop-pattern-test.true c.pattern-item.is in
    (omega (arith, below), tt)

-- ---- steps of a chain

pub emit_steps-returns-in_err-kind : goal.emit_steps-returns-in_err-kind
emit_steps-returns-in_err-kind t c =
    let p = err_from_is_err_and c.from_residual.result c.from_residual.ensures.1 in
    rw (p.1, p.2) (steps_fail c.args.emitter.now.schema.now c.args.room c.args.steps.now c.loop-step.step-index c.loop-step.kind c.loop-step.emitter.buffer _ c.step-item.result Memory c.in_err-kind.field-0.0 c.loop-step-test.true c.step-item.is
    (rw c.loop-step.invariant.1.0 at c.in_err-kind.ensures) c.loop-step.invariant.0)

pub emit_steps-loop-step-preserved : goal.emit_steps-loop-step-preserved
emit_steps-loop-step-preserved t c = (
  steps_next c.args.emitter.now.schema.now c.args.room c.args.steps.now c.loop-step.step-index c.loop-step.kind c.loop-step.emitter.buffer _ c.step-item.result c.in_ok-kind.kind c.emit_step.new.emitter.buffer c.loop-step-test.true c.step-item.is
      (rw c.loop-step.invariant.1.0 at c.in_ok-kind.ensures.0) c.loop-step.invariant.0,
  same_on c.args.emitter.now c.loop-step.emitter c.emit_step.new.emitter c.loop-step.invariant.1 c.in_ok-kind.ensures.1,
)

pub emit_steps-returns : goal.emit_steps-returns
emit_steps-returns t c = (
  steps_end c.args.emitter.now.schema.now c.args.room c.args.steps.now c.loop-step.step-index c.loop-step.kind c.loop-step.emitter.buffer _ c.loop-step-test.false c.loop-step.invariant.0,
  c.loop-step.invariant.1,
)

-- ---- patterns

pub emit_patterns-loop-pattern-init : goal.emit_patterns-loop-pattern-init
emit_patterns-loop-pattern-init t c = (front_empty c.new-made.result.items _ c.new-made.ensures.items, (refl, refl))

pub emit_patterns-returns-in_err-emit_pattern : goal.emit_patterns-returns-in_err-emit_pattern
emit_patterns-returns-in_err-emit_pattern t c =
    let p = err_from_is_err_and c.from_residual.result c.from_residual.ensures.1 in
    rw (p.1, p.2) (patterns_fail c.args.emitter.now.schema.now c.args.room c.args.space c.args.patterns.now c.loop-pattern.pattern-index c.loop-pattern.made.items c.loop-pattern.asked c.loop-pattern.emitter.buffer _ c.pattern-item.result Memory c.in_err-emit_pattern.field-0.0 c.loop-pattern-test.true c.pattern-item.is
    (rw c.loop-pattern.invariant.1.0 at c.in_err-emit_pattern.ensures) c.loop-pattern.invariant.0)

pub emit_patterns-loop-pattern-preserved : goal.emit_patterns-loop-pattern-preserved
emit_patterns-loop-pattern-preserved t c = (
  patterns_next c.args.emitter.now.schema.now c.args.room c.args.space c.args.patterns.now c.loop-pattern.pattern-index c.loop-pattern.made.items c.loop-pattern.asked c.loop-pattern.emitter.buffer _ c.pattern-item.result c.push.new.self.items c.in_ok-emit_pattern.field-0 c.emit_pattern.new.asked c.emit_pattern.new.emitter.buffer c.loop-pattern-test.true c.pattern-item.is
      (search rules) (rw c.loop-pattern.invariant.1.0 at c.in_ok-emit_pattern.ensures.0) c.loop-pattern.invariant.0,
  same_on c.args.emitter.now c.loop-pattern.emitter c.emit_pattern.new.emitter c.loop-pattern.invariant.1 c.in_ok-emit_pattern.ensures.1,
)

pub emit_patterns-returns : goal.emit_patterns-returns
emit_patterns-returns t c = (
  patterns_end c.args.emitter.now.schema.now c.args.room c.args.space c.args.patterns.now c.loop-pattern.pattern-index c.loop-pattern.made.items c.loop-pattern.asked c.loop-pattern.emitter.buffer _ c.loop-pattern-test.false c.loop-pattern.invariant.0,
  c.loop-pattern.invariant.1,
)
