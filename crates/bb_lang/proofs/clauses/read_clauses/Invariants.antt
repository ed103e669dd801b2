use Rattle.std.proofs.Common.{◌≡◌, ◌-◌}
use Rattle.bb_lang.specs.Repeats.{repeated}
use Rattle.bb_lang.specs.Sources.{next_clause}
use Rattle.bb_lang.specs.proving.Fronts.{with_front}
use Rattle.bb_lang.proofs.clauses.read_clauses.Given as goal

-- what was read, and what is still to be read
abbrev pub invariant-loop-turn : goal.invariant-loop-turn
invariant-loop-turn l = with_front l.clauses.items (repeated (l._turn-end - l._turn) next_clause l.parser.state) ≡ with_front l.initial.clauses.items (repeated l._turn-end next_clause l.initial.parser.state)
