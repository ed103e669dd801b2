use Rattle.std.proofs.Common.{◌≡◌, ◌+◌, ◌*◌, drop}
use Rattle.bb_lang.specs.View.{steps_of, patterns_of}
use Rattle.bb_lang.specs.proving.Codes.{expr_size, pattern_size}
use Rattle.bb_compile.specs.Expressions.{steps_code, patterns_code}
use Rattle.bb_compile.specs.proving.Sizes.{steps_size, step_size, sequence_size, patterns_size}
use Rattle.bb_compile.specs.proving.Fronts.{with_front}
use Rattle.bb_compile.specs.proving.Laying.{Same}
use Rattle.bb_compile.proofs.expressions.+emitting.Given as goal

abbrev pub decreases-emit_expr : goal.decreases-emit_expr
decreases-emit_expr l = 4 * expr_size l.expr.now

abbrev pub decreases-emit_step : goal.decreases-emit_step
decreases-emit_step l = 4 * step_size l.step.now + 1

abbrev pub decreases-emit_steps : goal.decreases-emit_steps
decreases-emit_steps l = 4 * steps_size l.steps.now + 2

abbrev pub decreases-emit_sequence : goal.decreases-emit_sequence
decreases-emit_sequence l = 4 * sequence_size l.sequence.now

abbrev pub decreases-emit_pattern : goal.decreases-emit_pattern
decreases-emit_pattern l = 4 * pattern_size l.pattern.now

abbrev pub decreases-emit_patterns : goal.decreases-emit_patterns
decreases-emit_patterns l = 4 * patterns_size l.patterns.now + 1

-- what is laid out, and what is still to be
abbrev pub invariant-emit_steps-loop-step : goal.invariant-emit_steps-loop-step
invariant-emit_steps-loop-step l =
    (steps_code l.fn.emitter.schema.now l.room l.kind (steps_of (drop l.step-index l.steps)) l.emitter.buffer
    ≡ steps_code l.fn.emitter.schema.now l.room l.fn.first (steps_of l.steps) l.fn.emitter.buffer)
    × Same l.fn.emitter l.emitter

abbrev pub invariant-emit_patterns-loop-pattern : goal.invariant-emit_patterns-loop-pattern
invariant-emit_patterns-loop-pattern l =
    (with_front l.made.items (patterns_code l.fn.emitter.schema.now l.room l.space (patterns_of (drop l.pattern-index l.patterns)) l.asked l.emitter.buffer)
    ≡ patterns_code l.fn.emitter.schema.now l.room l.space (patterns_of l.patterns) l.fn.asked l.fn.emitter.buffer)
    × Same l.fn.emitter l.emitter
