-- Names told by the first slots that have them.
use Rattle.std.specs.Prelude.{ℕ, Bool, false, ◌==◌, List, [], map, position, slice_get, Option, Some, None, option_and_then, nat_le, if◌then◌else◌}
use Rattle.std.specs.Option.{option_map_or}

-- whether a first slot is this one
abbrev pub is_at : ℕ → Option ℕ → Bool
is_at first found = option_map_or (λ f. f == first) found false

-- whether a slot's name is that of a first slot
abbrev pub has_first : List (Option ℕ) → (first slot : ℕ) → Bool
has_first firsts first n = option_map_or (is_at first) (slice_get firsts n) false

-- the index of the dimension that reads a first slot
abbrev pub place_in : (first : ℕ) → List (Option ℕ) → Option ℕ
place_in first dims = option_and_then (λ p. if nat_le 256 p then None else Some p) (position (is_at first) dims)

-- for each space the index of the dimension that reads a first slot, if any space reads it
abbrev pub row_if : Bool → List (List (Option ℕ)) → (first : ℕ) → List (Option ℕ)
row_if is_read dims first = if is_read then map (place_in first) dims else []
