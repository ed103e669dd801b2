-- Whether a value can pass a test, judged by the low end of an interval or by the label.
use Rattle.std.specs.Prelude.{ℕ, ℤ, Bool, true, false, ◌&&◌, ◌==◌, int_le, int_lt, if◌then◌else◌}
use Rattle.std.specs.Ordering.{int_eq}
use Rattle.bb_pattern.specs.declared.pattern.Relation.{Relation}
use Rattle.bb_pattern.specs.declared.pattern.Relation.TheVariants.{Within, Covers, Overlaps, Less, More}
use Rattle.bb_pattern.specs.declared.value.DimValue.{DimValue}
use Rattle.bb_pattern.specs.declared.value.DimValue.TheVariants as values
use Rattle.bb_space.specs.declared.index.leaf.Leaf.{Leaf}
use Rattle.bb_space.specs.declared.index.leaf.Leaf.TheVariants.{Ordered, Is}

-- whether an interval that begins at a number can be in the relation to [low, high]
abbrev pub reaches : Relation → ℤ → ℤ → ℤ → Bool
reaches Within from low high = int_le low from && int_le from high
reaches Covers from low high = int_le from low
reaches Overlaps from low high = int_le from high
reaches Less from low high = int_lt from low
reaches More from low high = int_lt high from

-- whether a value can pass the test; a reversed interval (high end below the low end) counts as if it could
abbrev pub may_pass : Leaf → DimValue → Bool
may_pass (Ordered relation dim low high) (values.Interval from to) =
    if int_le from to then reaches relation from low high else true
may_pass (Ordered relation dim low high) (values.Label set label) = false
may_pass (Is dim set label) (values.Interval from to) = false
may_pass (Is dim set label) (values.Label of other) = (of == set) && (other == label)

-- the dimension of the test
abbrev pub dim_of : Leaf → ℕ
dim_of (Ordered relation dim low high) = dim
dim_of (Is dim set label) = dim

-- whether every interval or label that can pass the test passes: the high end of an interval does not matter
abbrev pub is_exact : Leaf → Bool
is_exact (Ordered More dim low high) = true
is_exact (Ordered relation dim low high) = false
is_exact (Is dim set label) = true

-- whether the intervals that can pass the test begin with one number, or it asks for one label
abbrev pub asks_one : Leaf → Bool
asks_one (Ordered Within dim low high) = int_eq low high
asks_one (Ordered relation dim low high) = false
asks_one (Is dim set label) = true
