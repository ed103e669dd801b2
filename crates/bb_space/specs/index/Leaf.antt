-- Whether a unit's values pass one test of a pattern, or several.
use Rattle.std.specs.Prelude.{ℕ, ℤ, Bool, List, Option, Some, slice_get}
use Rattle.std.specs.List.{list_all}
use Rattle.bb_pattern.specs.declared.pattern.Relation.{Relation}
use Rattle.bb_pattern.specs.declared.value.DimValue.{DimValue}
use Rattle.bb_pattern.specs.declared.value.DimValue.TheVariants as values
use Rattle.bb_pattern.specs.Holds.{ordered_holds, is_holds}
use Rattle.bb_space.specs.declared.index.leaf.Leaf.{Leaf}
use Rattle.bb_space.specs.declared.index.leaf.Leaf.TheVariants.{Ordered, Is}

-- whether the value exists and is in the relation to [low, high]
abbrev pub related : Relation → ℤ → ℤ → Option DimValue → Bool
related relation low high value = ordered_holds relation value (Some (values.Interval low high))

-- whether the value exists and is this label
abbrev pub labelled : ℕ → ℕ → Option DimValue → Bool
labelled set label value = is_holds value (Some (values.Label set label))

-- whether a unit with these values, one for each dimension in order, passes the test, as it would the pattern's node
unfoldable pub fits_leaf : Leaf → List DimValue → Bool
fits_leaf (Ordered relation dim low high) told = related relation low high (slice_get told dim)
fits_leaf (Is dim set label) told = labelled set label (slice_get told dim)

-- whether the values pass all of some tests
abbrev pub fit_each : List Leaf → List DimValue → Bool
fit_each tests values = list_all (λ leaf. fits_leaf leaf values) tests
