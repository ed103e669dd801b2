-- The members of a space with their index, and the invariant of both.
use Rattle.std.specs.Prelude.{◌≡◌, ℕ, Bool, true, false, ◌&&◌, ◌||◌, ◌==◌, List, [], ◌∷◌, map, Some, slice_get}
use Rattle.std.specs.Option.{option_map_or}
use Rattle.std.specs.FinMap as fin
use Rattle.bb_pattern.specs.declared.value.DimValue.{DimValue}
use Rattle.bb_space.specs.declared.members.Members.{Members}
use Rattle.bb_space.specs.declared.index.place.Place.{Place}
use Rattle.bb_space.specs.Spaces.{Membership, Spaces}
use Rattle.bb_space.specs.proving.Entries.{members_of_entries}
use Rattle.bb_space.specs.index.proving.Places.{has, is_at, is_place_of}

abbrev pub membership : Members → Membership
membership m = members_of_entries m.values.entries

-- spaces with these members
abbrev pub seen : List Members → Spaces
seen spaces = record { spaces = map membership spaces }

-- whether the place belongs to a member's value
abbrev pub is_told : Membership → Place → Bool
is_told m p = option_map_or (λ values. is_at values p) (fin.get m p.unit) false

-- the index has the places of all values, and no others except spare ones
pub record IsLoose (spare : Place → Bool) (m : Members) : Type 0 where
  pub full : (p : Place) → is_told (membership m) p ≡ true → has m.places p ≡ true
  pub only : (p : Place) → has m.places p ≡ true → is_told (membership m) p ≡ false → spare p ≡ true

-- the index has exactly the places of the members' values
abbrev pub IsIndexed : Members → Type 0
IsIndexed m = IsLoose (λ _. false) m

abbrev pub AreIndexed : List Members → Type 0
AreIndexed spaces = (i : ℕ) (m : Members) → slice_get spaces i ≡ Some m → IsIndexed m

-- whether the place belongs to a value that moves give a unit in a space
abbrev pub is_moved : ℕ → ℕ → List (ℕ × List DimValue) → Place → Bool
is_moved unit space [] p = false
is_moved unit space (e ∷ es) p = ((e.0 == space) && is_place_of unit e.1 p) || is_moved unit space es p

-- besides the places of the members' values, each index has only places of moves
abbrev pub AreLoose : ℕ → List (ℕ × List DimValue) → List Members → Type 0
AreLoose unit moves spaces = (i : ℕ) (m : Members) → slice_get spaces i ≡ Some m → IsLoose (is_moved unit i moves) m

-- each index has all places of moves
abbrev pub AreReady : ℕ → List (ℕ × List DimValue) → List Members → Type 0
AreReady unit moves spaces =
    (i : ℕ) (m : Members) → slice_get spaces i ≡ Some m
    → (p : Place) → is_moved unit i moves p ≡ true → has m.places p ≡ true
