use Rattle.std.proofs.Common.{◌≡◌, length}
use Rattle.bb_moves.proofs.LineLemmas.{from_line, whole}
use Rattle.bb_moves.specs.proving.Reading.{so_far}
use Rattle.bb_moves.proofs.reading.moves_of.Given as goal

abbrev pub invariant-loop-line : goal.invariant-loop-line
invariant-loop-line l = record {
  more : (goal.iterator-loop-line).can_next l.line-iterator;
  finite : (goal.iterator-loop-line).is_finite l.line-iterator;
  counted : l.lines ≡ length l.yielded;
  same : from_line l.schema l.text l.lines (so_far l.reading) ≡ whole l.schema l.text;
}
