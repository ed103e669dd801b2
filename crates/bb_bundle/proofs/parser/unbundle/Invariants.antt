use Rattle.std.proofs.Common.{◌≡◌, length, drop}
use Rattle.std.specs.Str.Lines.{lines}
use Rattle.bb_basis.specs.Results.{try_fold}
use Rattle.bb_bundle.specs.Bundle.{new_parser, after_line}
use Rattle.bb_bundle.proofs.parser.unbundle.Given as goal

abbrev pub invariant-loop-line : goal.invariant-loop-line
invariant-loop-line l = record {
  more : (goal.iterator-loop-line).can_next l.line-iterator;
  finite : (goal.iterator-loop-line).is_finite l.line-iterator;
  counted : l.parser.lines ≡ length l.yielded;
  same : try_fold after_line l.parser (drop (length l.yielded) (lines l.text)) ≡ try_fold after_line new_parser (lines l.text);
}
