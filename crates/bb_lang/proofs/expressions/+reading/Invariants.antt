use Rattle.std.proofs.Common.{◌≡◌, ◌+◌, ◌-◌, ◌*◌}
use Rattle.bb_lang.specs.Repeats.{repeated, as_many, next_item}
use Rattle.bb_lang.specs.Expressions.{inside, pattern, step, operand_of}
use Rattle.bb_lang.specs.proving.Fronts.{with_front}
use Rattle.bb_lang.specs.proving.Ranks.{rank}
use Rattle.bb_lang.proofs.expressions.+reading.Given as goal

abbrev pub decreases-read_group : goal.decreases-read_group
decreases-read_group l = 32 * l.parser.now.nesting + 2

abbrev pub decreases-read_pair : goal.decreases-read_pair
decreases-read_pair l = 32 * l.parser.now.nesting + 2

abbrev pub decreases-read_factor : goal.decreases-read_factor
decreases-read_factor l = 32 * l.parser.now.nesting + 3

abbrev pub decreases-read_operand : goal.decreases-read_operand
decreases-read_operand l = 32 * l.parser.now.nesting + rank l.level

abbrev pub decreases-read_step : goal.decreases-read_step
decreases-read_step l = 32 * l.parser.now.nesting + (rank l.level + 1)

abbrev pub decreases-read_steps : goal.decreases-read_steps
decreases-read_steps l = 32 * l.parser.now.nesting + (rank l.level + 2)

abbrev pub decreases-read_chain : goal.decreases-read_chain
decreases-read_chain l = 32 * l.parser.now.nesting + (rank l.level + 3)

abbrev pub decreases-read_comparison : goal.decreases-read_comparison
decreases-read_comparison l = 32 * l.parser.now.nesting + 12

abbrev pub decreases-read_pattern : goal.decreases-read_pattern
decreases-read_pattern l = 32 * l.parser.now.nesting + 22

abbrev pub decreases-read_next_pattern : goal.decreases-read_next_pattern
decreases-read_next_pattern l = 32 * l.parser.now.nesting + 23

abbrev pub decreases-read_patterns : goal.decreases-read_patterns
decreases-read_patterns l = 32 * l.parser.now.nesting + 24

abbrev pub decreases-read_sequence : goal.decreases-read_sequence
decreases-read_sequence l = 32 * l.parser.now.nesting + 24

-- what was read, and what is still to be read
abbrev pub invariant-read_steps-loop-turn : goal.invariant-read_steps-loop-turn
invariant-read_steps-loop-turn l = record {
  nesting : l.parser.nesting ≡ l.fn.parser.nesting;
  read :
      with_front l.steps.items (repeated (l._turn-end - l._turn) (step l.level (operand_of l.level (inside l.fn.parser.nesting))) l.parser.state)
      ≡ as_many (step l.level (operand_of l.level (inside l.fn.parser.nesting))) l.fn.parser.state;
}

abbrev pub invariant-read_patterns-loop-turn : goal.invariant-read_patterns-loop-turn
invariant-read_patterns-loop-turn l = record {
  nesting : l.parser.nesting ≡ l.fn.parser.nesting;
  read :
      with_front l.patterns.items (repeated (l._turn-end - l._turn) (next_item (pattern l.fn.parser.nesting)) l.parser.state)
      ≡ with_front l.initial.patterns.items (repeated l._turn-end (next_item (pattern l.fn.parser.nesting)) l.initial.parser.state);
}
