-- Relations of numbers as tables of truth values.
use Rattle.std.specs.Prelude.{ℕ, zero, suc, Bool, false, ◌&&◌, ◌||◌, List, [], map, length, slice_get}
use Rattle.std.specs.List.{range_with_len}
use Rattle.std.specs.Option.{option_map_or}

-- whether a row has a number
abbrev pub row_has : List Bool → ℕ → Bool
row_has row n = option_map_or (λ b. b) (slice_get row n) false

-- the row of a number
abbrev pub row_at : List (List Bool) → ℕ → List Bool
row_at rows n = option_map_or (λ row. row) (slice_get rows n) []

-- a row, joined with the row of a number if it has that number
abbrev pub through : (row other : List Bool) → (number : ℕ) → List Bool
through row other number =
    map (λ to. row_has row to || (row_has row number && row_has other to)) (range_with_len 0 (length row))

-- a relation, with the pairs added that lead through a number
abbrev pub passed : (number : ℕ) → List (List Bool) → List (List Bool)
passed number rows = map (λ row. through row (row_at rows number) number) rows

-- a relation, with the pairs added that lead through numbers below count
unfoldable pub closed_by : (count : ℕ) → List (List Bool) → List (List Bool)
closed_by zero rows = rows
closed_by (suc n) rows = passed n (closed_by n rows)
