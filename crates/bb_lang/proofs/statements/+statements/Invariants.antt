use Rattle.std.proofs.Common.{◌≡◌, ◌+◌, ◌-◌, ◌*◌}
use Rattle.bb_lang.specs.Repeats.{repeated, as_many}
use Rattle.bb_lang.specs.Statements.{next_statement, block}
use Rattle.bb_lang.specs.proving.Fronts.{with_front}
use Rattle.bb_lang.proofs.statements.+statements.Given as goal

abbrev pub decreases-read_block : goal.decreases-read_block
decreases-read_block l = 8 * l.parser.now.nesting

abbrev pub decreases-read_otherwise : goal.decreases-read_otherwise
decreases-read_otherwise l = 8 * l.parser.now.nesting + 1

abbrev pub decreases-read_if : goal.decreases-read_if
decreases-read_if l = 8 * l.parser.now.nesting + 2

abbrev pub decreases-read_with : goal.decreases-read_with
decreases-read_with l = 8 * l.parser.now.nesting + 2

abbrev pub decreases-read_for : goal.decreases-read_for
decreases-read_for l = 8 * l.parser.now.nesting + 2

abbrev pub decreases-read_statement : goal.decreases-read_statement
decreases-read_statement l = 8 * l.parser.now.nesting + 3

abbrev pub decreases-read_next_statement : goal.decreases-read_next_statement
decreases-read_next_statement l = 8 * l.parser.now.nesting + 4

abbrev pub decreases-read_statements : goal.decreases-read_statements
decreases-read_statements l = 8 * l.parser.now.nesting + 5

-- what was read, and what is still to be read
abbrev pub invariant-read_statements-loop-turn : goal.invariant-read_statements-loop-turn
invariant-read_statements-loop-turn l = record {
  nesting : l.parser.nesting ≡ l.fn.parser.nesting;
  read :
      with_front l.statements.items (repeated (l._turn-end - l._turn) (next_statement l.fn.parser.nesting (block l.fn.parser.nesting)) l.parser.state)
      ≡ as_many (next_statement l.fn.parser.nesting (block l.fn.parser.nesting)) l.fn.parser.state;
}
