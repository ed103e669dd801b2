-- The candidates for two tests together: one that asks for one sort and key, and one of the next dimension.
use Rattle.std.specs.Prelude.{◌≡◌, ℕ, Bool, true, ◌==◌, ◌||◌, List, Some, slice_get}
use Rattle.std.specs.List.{list_any}
use Rattle.std.specs.List.Sorted.{IsStrictlySortedBy}
use Rattle.std.specs.Ordering.{nat_cmp}
use Rattle.std.specs.BTreeSet.{BTreeSet}
use Rattle.bb_pattern.specs.declared.value.DimValue.{DimValue}
use Rattle.bb_space.specs.declared.index.leaf.Leaf.{Leaf}
use Rattle.bb_space.specs.declared.index.place.Place.{Place}
use Rattle.bb_space.specs.declared.index.stretch.Stretch.{Stretch}
use Rattle.bb_space.specs.index.Leaf.{fits_leaf, fit_each}
use Rattle.bb_space.specs.index.proving.Places.{has, next_of, is_place_of}
use Rattle.bb_space.specs.index.Among.{is_among}
use Rattle.bb_space.specs.index.proving.Stretches.{turned, all_beside, stands_in}

-- whether the unit has a place in the range of both tests, or of a reversed interval on the next dimension or this one
abbrev pub is_near_both : Place → Stretch → BTreeSet Place → ℕ → Bool
is_near_both pin both places n =
    (stands_in both places n || stands_in (all_beside pin (turned 0)) places n) || stands_in (turned pin.dim) places n

-- the list has exactly the units near both tests, ascending
pub record AreNearBoth (pin : Place) (both : Stretch) (places : BTreeSet Place) (list : List ℕ) : Type 0 where
  pub rises : IsStrictlySortedBy nat_cmp list
  pub same : (n : ℕ) → is_among n list ≡ is_near_both pin both places n

-- the index has the places of a unit's values
abbrev pub AreThere : BTreeSet Place → ℕ → List DimValue → Type 0
AreThere places n values = (p : Place) → is_place_of n values p ≡ true → has places p ≡ true

-- the places on a dimension also contain their units' values on the other
abbrev pub Tells : BTreeSet Place → ℕ → ℕ → Type 0
Tells places dim other =
    (n : ℕ) (values : List DimValue) → AreThere places n values
    → (v : DimValue) → slice_get values other ≡ Some v → next_of values dim ≡ Some v

-- values that pass all of some tests pass this test
abbrev pub IsAsked : List Leaf → Leaf → Type 0
IsAsked tests test = (values : List DimValue) → fit_each tests values ≡ true → fits_leaf test values ≡ true

-- units of places, ascending, including every unit with the places of values that pass all of some tests
pub record AreAllNear (tests : List Leaf) (places : BTreeSet Place) (list : List ℕ) : Type 0 where
  pub rises : IsStrictlySortedBy nat_cmp list
  pub kept : (n : ℕ) → is_among n list ≡ true → list_any (λ p. p.unit == n) places.keys ≡ true
  pub all : (n : ℕ) (values : List DimValue) → AreThere places n values → fit_each tests values ≡ true
      → is_among n list ≡ true
