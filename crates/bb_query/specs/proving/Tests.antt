-- Properties of patterns, for the contracts of private functions: tests equivalent to them or implied by them, and
-- patterns that hold of everything.
use Rattle.std.specs.Prelude.{◌≡◌, Bool, true, List}
use Rattle.bb_pattern.specs.declared.value.DimValue.{DimValue}
use Rattle.bb_pattern.specs.Trees.{Tree}
use Rattle.bb_pattern.specs.Holds.{holds}
use Rattle.bb_space.specs.declared.index.leaf.Leaf.{Leaf}
use Rattle.bb_space.specs.index.Leaf.{fits_leaf, fit_each}

-- the test passes exactly the values of which the condition holds
abbrev pub Asks : (List DimValue → Bool) → Leaf → Type 0
Asks asked test = (values : List DimValue) → fits_leaf test values ≡ asked values

-- values of which the condition holds pass all of some tests
abbrev pub AskNoMore : (List DimValue → Bool) → List Leaf → Type 0
AskNoMore asked tests = (values : List DimValue) → asked values ≡ true → fit_each tests values ≡ true

-- the pattern holds of all values
abbrev pub HoldsOfAll : Tree → Type 0
HoldsOfAll p = (operands values : List DimValue) → holds operands values p ≡ true
