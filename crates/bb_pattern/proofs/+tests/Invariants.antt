use Rattle.std.proofs.Common.{◌≡◌, drop}
use Rattle.bb_pattern.specs.Fits.{all_tests_fit}
use Rattle.bb_pattern.specs.View.{trees_of}
use Rattle.bb_pattern.proofs.+tests.Given as goal

abbrev pub invariant-fits::all_tests_fit-loop-pattern : goal.invariant-fits::all_tests_fit-loop-pattern
invariant-fits::all_tests_fit-loop-pattern l =
    all_tests_fit l.dims l.kinds (trees_of (drop l.pattern-index l.patterns)) ≡ all_tests_fit l.dims l.kinds (trees_of l.patterns)
