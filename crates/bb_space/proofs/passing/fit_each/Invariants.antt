use Rattle.std.proofs.Common.{◌≡◌, drop}
use Rattle.bb_space.specs.index.Leaf.{fit_each}
use Rattle.bb_space.proofs.passing.fit_each.Given as goal

abbrev pub invariant-loop-leaf : goal.invariant-loop-leaf
invariant-loop-leaf l = fit_each (drop l.leaf-index l.tests) l.values ≡ fit_each l.tests l.values
