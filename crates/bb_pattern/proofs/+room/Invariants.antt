use Rattle.std.proofs.Common.{◌≡◌, drop}
use Rattle.bb_pattern.specs.Fits.{rooms_after}
use Rattle.bb_pattern.specs.View.{trees_of}
use Rattle.bb_pattern.proofs.+room.Given as goal

abbrev pub invariant-fits::rooms_after-loop-pattern : goal.invariant-fits::rooms_after-loop-pattern
invariant-fits::rooms_after-loop-pattern l =
    rooms_after l.left (trees_of (drop l.pattern-index l.patterns)) ≡ rooms_after l.room (trees_of l.patterns)
