use Rattle.std.proofs.Common.{◌≡◌, ◌-◌}
use Rattle.bb_lang.specs.Repeats.{repeated, next_item}
use Rattle.bb_lang.specs.Expressions.{expr}
use Rattle.bb_lang.specs.proving.Fronts.{with_front}
use Rattle.bb_lang.proofs.actions.read_exprs.Given as goal

-- what was read, and what is still to be read
abbrev pub invariant-loop-turn : goal.invariant-loop-turn
invariant-loop-turn l = record {
  nesting : l.parser.nesting ≡ l.fn.parser.nesting;
  read :
      with_front l.exprs.items (repeated (l._turn-end - l._turn) (next_item (expr l.fn.parser.nesting)) l.parser.state)
      ≡ with_front l.initial.exprs.items (repeated l._turn-end (next_item (expr l.fn.parser.nesting)) l.initial.parser.state);
}
