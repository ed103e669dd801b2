-- The spaces: the units in each, and their values on its dimensions as last given (GBBopen Reference Manual, space
-- instances).
use Rattle.std.specs.Prelude.{◌≡◌, ℕ, Bool, true, List, [], ◌∷◌, map, filter, slice_get, slice_set, Option, Some}
use Rattle.std.specs.Prelude.{if◌then◌else◌}
use Rattle.std.specs.Prelude.{length}
use Rattle.std.specs.List.{range_with_len}
use Rattle.std.specs.Option.{option_map_or}
use Rattle.std.specs.Ordering.{nat_cmp}
use Rattle.std.specs.FinMap as fin
use Rattle.bb_schema.specs.Schema.{Schema}
use Rattle.bb_pattern.specs.declared.value.DimValue.{DimValue}
use Rattle.bb_space.specs.declared.index.leaf.Leaf.{Leaf}
use Rattle.bb_space.specs.index.Leaf.{fits_leaf}

-- the members of a space, each with its values on the dimensions in order
abbrev pub Membership : Type 0
Membership = fin.FinMap nat_cmp (List DimValue)

pub record Spaces : Type 0 where
  -- the members, by number of the space
  pub spaces : List Membership

-- the spaces of a schema, without members
abbrev pub no_spaces : Schema → Spaces
no_spaces s = record { spaces = map (λ _. fin.empty) s.spaces }

-- the members of a space; none if the space does not exist
abbrev pub membership : Spaces → ℕ → Membership
membership s space = option_map_or (λ m. m) (slice_get s.spaces space) fin.empty

-- whether a unit is in a space
abbrev pub is_member : Spaces → ℕ → ℕ → Bool
is_member s space n = fin.contains_key (membership s space) n

-- the values of a member
abbrev pub values_in : Spaces → ℕ → ℕ → Option (List DimValue)
values_in s space n = fin.get (membership s space) n

-- the members of a space, ascending
abbrev pub members : Spaces → ℕ → List ℕ
members s space = fin.keys (membership s space)

-- the spaces that a unit is in, ascending
abbrev pub spaces_of : Spaces → (unit : ℕ) → List ℕ
spaces_of s n = filter (λ space. is_member s space n) (range_with_len 0 (length s.spaces))

-- the members of a space after each change: a member does not enter again, and only members move
abbrev pub entered : ℕ → List DimValue → Membership → Membership
entered n values m = if fin.contains_key m n then m else fin.insert m n values

abbrev pub left : ℕ → Membership → Membership
left n m = fin.remove m n

abbrev pub moved : ℕ → List DimValue → Membership → Membership
moved n values m = if fin.contains_key m n then fin.insert m n values else m

-- the spaces with a changed one
abbrev pub changed : (Membership → Membership) → Spaces → ℕ → Spaces
changed change s space =
    option_map_or (λ m. record { spaces = slice_set s.spaces space (change m) }) (slice_get s.spaces space) s

-- after a unit with these values enters a space
abbrev pub after_enter : Spaces → ℕ → ℕ → List DimValue → Spaces
after_enter s space n values = changed (entered n values) s space

-- after a unit leaves a space
abbrev pub after_leave : Spaces → ℕ → ℕ → Spaces
after_leave s space n = changed (left n) s space

-- after a unit has other values in a space
abbrev pub after_moved : Spaces → ℕ → ℕ → List DimValue → Spaces
after_moved s space n values = changed (moved n values) s space

-- after a unit has other values in some spaces, in order
unfoldable pub after_moves : Spaces → ℕ → List (ℕ × List DimValue) → Spaces
after_moves s n [] = s
after_moves s n (e ∷ es) = after_moves (after_moved s e.0 n e.1) n es

-- after a unit leaves all spaces
abbrev pub after_forget : Spaces → ℕ → Spaces
after_forget s n = record { spaces = map (left n) s.spaces }

-- some of the members, in order, including all whose values pass a test
pub record AreChosen (m : Membership) (leaf : Leaf) (list : List ℕ) : Type 0 where
  pub chosen : ℕ → Bool
  pub members : list ≡ filter chosen (fin.keys m)
  pub fitting : (n : ℕ) (values : List DimValue) → fin.get m n ≡ Some values
      → fits_leaf leaf values ≡ true → chosen n ≡ true

-- candidates for a test in a space: members, ascending, including all whose values pass
abbrev pub AreCandidates : Spaces → ℕ → Leaf → List ℕ → Type 0
AreCandidates s space leaf list = AreChosen (membership s space) leaf list
