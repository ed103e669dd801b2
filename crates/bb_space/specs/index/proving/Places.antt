-- The places of values in the index of a space.
use Rattle.std.specs.Prelude.{◌≡◌, ℕ, ℤ, pos, Bool, true, false, ◌&&◌, ◌==◌, ◌+◌, int_le, List, Option, slice_get, if◌then◌else◌}
use Rattle.std.specs.Option.{option_map_or, option_or}
use Rattle.std.specs.declared.cmp.Ordering.{Ordering}
use Rattle.std.specs.Ordering.{ordering_then, nat_cmp, int_cmp, int_eq}
use Rattle.std.specs.BTreeSet.{BTreeSet, contains}
use Rattle.bb_pattern.specs.declared.value.DimValue.{DimValue}
use Rattle.bb_pattern.specs.declared.value.DimValue.TheVariants.{Interval, Label}
use Rattle.bb_space.specs.declared.index.place.Place.{Place}

-- the order of places
abbrev pub place_cmp : Place → Place → Ordering
place_cmp p q =
    ordering_then (nat_cmp p.dim q.dim)
    (ordering_then (nat_cmp p.sort q.sort)
    (ordering_then (int_cmp p.key q.key)
    (ordering_then (nat_cmp p.edge q.edge)
    (ordering_then (nat_cmp p.next_sort q.next_sort)
    (ordering_then (int_cmp p.next_key q.next_key)
    (ordering_then (nat_cmp p.next_edge q.next_edge) (nat_cmp p.unit q.unit)))))))

abbrev pub sort_of : DimValue → ℕ
sort_of (Interval low high) = if int_le low high then 1 else 2
sort_of (Label set label) = 4 + set

abbrev pub key_of : DimValue → ℤ
key_of (Interval low high) = if int_le low high then low else pos 0
key_of (Label set label) = pos label

-- the value on the dimension after one, or on the first dimension if that one is the last
abbrev pub next_of : List DimValue → ℕ → Option DimValue
next_of values dim = option_or (slice_get values (dim + 1)) (slice_get values 0)

-- the place of a unit's value on a dimension, given its value on the next one
abbrev pub place_of : ℕ → ℕ → DimValue → Option DimValue → Place
place_of dim unit value next = record {
  dim = dim;
  sort = sort_of value;
  key = key_of value;
  edge = 1;
  next_sort = option_map_or sort_of next 0;
  next_key = option_map_or key_of next (pos 0);
  next_edge = option_map_or (λ _. 1) next 0;
  unit = unit;
}

-- whether the place belongs to a value, given the value on the next dimension
abbrev pub is_value_at : Place → Option DimValue → DimValue → Bool
is_value_at p next v =
    (sort_of v == p.sort) && (int_eq (key_of v) p.key && ((1 == p.edge)
    && ((option_map_or sort_of next 0 == p.next_sort) && (int_eq (option_map_or key_of next (pos 0)) p.next_key
    && (option_map_or (λ _. 1) next 0 == p.next_edge)))))

-- whether the place belongs to one of the values
abbrev pub is_at : List DimValue → Place → Bool
is_at values p = option_map_or (is_value_at p (next_of values p.dim)) (slice_get values p.dim) false

-- whether the place belongs to one of a unit's values
abbrev pub is_place_of : ℕ → List DimValue → Place → Bool
is_place_of unit values p = (p.unit == unit) && is_at values p

-- whether the index has the place
abbrev pub has : BTreeSet Place → Place → Bool
has places p = contains place_cmp places p

-- the places of values were added, all or some
pub record ArePut (unit : ℕ) (values : List DimValue) (old new : BTreeSet Place) : Type 0 where
  pub keeps : (p : Place) → has old p ≡ true → has new p ≡ true
  pub only : (p : Place) → has new p ≡ true → has old p ≡ false → is_place_of unit values p ≡ true

-- the index has the places of values, except places of other values
abbrev pub AreIn : (unit : ℕ) (values except : List DimValue) → BTreeSet Place → Type 0
AreIn unit values except places =
    (p : Place) → is_place_of unit values p ≡ true → is_at except p ≡ false → has places p ≡ true

-- the places of values were removed, except places of other values
pub record AreTaken (unit : ℕ) (values except : List DimValue) (old new : BTreeSet Place) : Type 0 where
  pub only : (p : Place) → has new p ≡ true → has old p ≡ true
  pub gone : (p : Place) → has new p ≡ true → is_place_of unit values p ≡ true → is_at except p ≡ true
  pub keeps : (p : Place) → has old p ≡ true
      → (is_place_of unit values p ≡ true → is_at except p ≡ true) → has new p ≡ true
