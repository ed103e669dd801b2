use Rattle.std.proofs.Common.{◌≡◌, ◌≤◌, drop}
use Rattle.bb_lang_tree.specs.Literals.{with_digits}
use Rattle.bb_lang_tree.proofs.literals.number_of.Given as goal

abbrev pub invariant-loop-digit : goal.invariant-loop-digit
invariant-loop-digit l = record {
  within : l.number ≤ l.limit;
  same : with_digits l.number (drop l.digit-index l.digits) ≡ with_digits 0 l.digits;
}
