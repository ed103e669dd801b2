use Rattle.std.proofs.Common.{◌≡◌, drop}
use Rattle.bb_pattern.specs.Holds.{holds_each, holds_some}
use Rattle.bb_pattern.specs.View.{trees_of}
use Rattle.bb_pattern.proofs.+holding.Given as goal

abbrev pub invariant-holds::holds_each-loop-pattern : goal.invariant-holds::holds_each-loop-pattern
invariant-holds::holds_each-loop-pattern l =
    holds_each l.operands l.values (trees_of (drop l.pattern-index l.patterns)) ≡ holds_each l.operands l.values (trees_of l.patterns)

abbrev pub invariant-holds::holds_some-loop-pattern : goal.invariant-holds::holds_some-loop-pattern
invariant-holds::holds_some-loop-pattern l =
    holds_some l.operands l.values (trees_of (drop l.pattern-index l.patterns)) ≡ holds_some l.operands l.values (trees_of l.patterns)
