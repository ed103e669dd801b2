use Rattle.std.proofs.Common.{◌≡◌, drop}
use Rattle.bb_pattern.specs.Fits.{rooms_after}
use Rattle.bb_pattern.specs.View.{trees_of}
use Rattle.bb_code.specs.Code.{AreTrees}
use Rattle.bb_code.proofs.within.+room.Given as goal

-- what is left is left of what comes, and all fit where what comes does
abbrev pub invariant-rooms_after-loop-pattern : goal.invariant-rooms_after-loop-pattern
invariant-rooms_after-loop-pattern l = record {
  left : rooms_after l.left (trees_of (drop l.pattern-index l.patterns)) ≡ rooms_after l.room (trees_of l.patterns);
  fits : AreTrees (trees_of (drop l.pattern-index l.patterns)) → AreTrees (trees_of l.patterns);
}
