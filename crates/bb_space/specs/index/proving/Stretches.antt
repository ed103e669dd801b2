-- The ranges of an index that contain the candidates for a test.
use Rattle.std.specs.Prelude.{◌≡◌, ℕ, ℤ, pos, Bool, true, false, ◌==◌, ◌+◌, ◌&&◌, ◌||◌, List, [], length, Option, Some, None, IfSome}
use Rattle.std.specs.List.{list_any}
use Rattle.std.specs.List.Sorted.{IsStrictlySortedBy}
use Rattle.std.specs.Option.{option_map_or}
use Rattle.std.specs.Ordering.{int_eq}
use Rattle.std.specs.BTreeSet.{BTreeSet, keys_between}
use Rattle.std.specs.declared.ops.Bound.TheVariants.{Included, Excluded}
use Rattle.bb_pattern.specs.declared.pattern.Relation.{Relation}
use Rattle.bb_pattern.specs.declared.pattern.Relation.TheVariants.{Within, Covers, Overlaps, Less, More}
use Rattle.bb_space.specs.declared.index.leaf.Leaf.{Leaf}
use Rattle.bb_space.specs.declared.index.leaf.Leaf.TheVariants.{Ordered, Is}
use Rattle.bb_space.specs.declared.index.place.Place.{Place}
use Rattle.bb_space.specs.declared.index.stretch.Stretch.{Stretch}
use Rattle.bb_space.specs.index.Candidates.{is_exact}
use Rattle.bb_space.specs.index.proving.Places.{place_cmp}

-- a place that no value has: before the values of a sort and key, or after them
abbrev pub spot : ℕ → ℕ → ℤ → ℕ → Place
spot dim sort key edge = record {
  dim = dim;
  sort = sort;
  key = key;
  edge = edge;
  next_sort = 0;
  next_key = pos 0;
  next_edge = 0;
  unit = 0;
}

-- the range of the intervals that can be in a relation to [low, high]
abbrev pub intervals : Relation → ℕ → ℤ → ℤ → Stretch
intervals Within dim low high = record { first = spot dim 1 low 0; end = spot dim 1 high 2 }
intervals Covers dim low high = record { first = spot dim 0 (pos 0) 0; end = spot dim 1 low 2 }
intervals Overlaps dim low high = record { first = spot dim 0 (pos 0) 0; end = spot dim 1 high 2 }
intervals Less dim low high = record { first = spot dim 0 (pos 0) 0; end = spot dim 1 low 0 }
intervals More dim low high = record { first = spot dim 1 high 2; end = spot dim 2 (pos 0) 0 }

-- the range of the values that can pass a test, except reversed intervals (high end below the low end)
abbrev pub stretch_of : Leaf → Stretch
stretch_of (Ordered relation dim low high) = intervals relation dim low high
stretch_of (Is dim set label) =
    record { first = spot dim (4 + set) (pos label) 0; end = spot dim (4 + set) (pos label) 2 }

-- the range of the reversed intervals
abbrev pub turned : ℕ → Stretch
turned dim = record { first = spot dim 2 (pos 0) 0; end = spot dim 3 (pos 0) 0 }

-- the range of the reversed intervals, if they can pass the test
abbrev pub turned_of : Leaf → Option Stretch
turned_of (Ordered relation dim low high) = Some (turned dim)
turned_of (Is dim set label) = None

-- whether all values of the range have one sort and key
abbrev pub has_one_key : Stretch → Bool
has_one_key stretch = (stretch.first.sort == stretch.end.sort) && int_eq stretch.first.key stretch.end.key

-- among the values of the pin's sort and key, the place that corresponds to a place of the next dimension
abbrev pub beside : Place → Place → Place
beside pin next = record {
  dim = pin.dim;
  sort = pin.sort;
  key = pin.key;
  edge = 1;
  next_sort = next.sort;
  next_key = next.key;
  next_edge = next.edge;
  unit = 0;
}

-- among the values of the pin's sort and key, those whose units have a value in a range on the next dimension
abbrev pub all_beside : Place → Stretch → Stretch
all_beside pin next = record { first = beside pin next.first; end = beside pin next.end }

-- the places of a range
abbrev pub places_in : Stretch → BTreeSet Place → List Place
places_in stretch places = keys_between place_cmp (Included stretch.first) (Excluded stretch.end) places

-- whether the unit has a place in a range
abbrev pub stands_in : Stretch → BTreeSet Place → ℕ → Bool
stands_in stretch places n = list_any (λ p. p.unit == n) (places_in stretch places)

-- whether the unit is a candidate for a test: it has a place in the test's range, or a reversed interval that can pass
abbrev pub is_near : Leaf → BTreeSet Place → ℕ → Bool
is_near leaf places n =
    stands_in (stretch_of leaf) places n || option_map_or (λ stretch. stands_in stretch places n) (turned_of leaf) false

-- the places of the intervals or labels that a test asks for
abbrev pub asked : Leaf → BTreeSet Place → List Place
asked leaf places = places_in (stretch_of leaf) places

-- no reversed interval is on the dimension of a test
abbrev pub HasNoTurned : Leaf → BTreeSet Place → Type 0
HasNoTurned leaf places = IfSome (turned_of leaf) (λ stretch. places_in stretch places ≡ [])

-- n is the number of places in the range of a test, and each unit with one of them passes it
pub record IsCount (leaf : Leaf) (places : BTreeSet Place) (n : ℕ) : Type 0 where
  pub number : n ≡ length (asked leaf places)
  pub ordered : IsStrictlySortedBy place_cmp places.keys
  pub exact : is_exact leaf ≡ true
  pub not_turned : HasNoTurned leaf places
