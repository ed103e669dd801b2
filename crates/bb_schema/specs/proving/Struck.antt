-- The table of what a delete strikes.
use Rattle.std.specs.Prelude.{ℕ, Bool, true, ◌==◌, List, [], ◌∷◌, map, set, filter, length, slice_get, Option, Some, None, option_and_then, if◌then◌else◌}
use Rattle.std.specs.List.{list_any, range_with_len}
use Rattle.bb_schema_classes.specs.declared.class.Class.{Class}
use Rattle.bb_schema.specs.declared.slot.Slot.{Slot}
use Rattle.bb_schema.specs.Heirs.{is_owning, related_in, owned_classes}
use Rattle.bb_schema.specs.proving.Relation.{row_has, closed_by}

-- a row with a number added
abbrev pub marked : List Bool → ℕ → List Bool
marked row n = set row n true

-- a row with some numbers added
unfoldable pub all_marked : List Bool → List ℕ → List Bool
all_marked row [] = row
all_marked row (n ∷ ns) = all_marked (marked row n) ns

-- a row with one class only
abbrev pub own_row : (count : ℕ) → (class : ℕ) → List Bool
own_row count class = map (λ to. to == class) (range_with_len 0 count)

-- the row of a class: the class itself, and the target classes of owning slots
abbrev pub first_row : (count : ℕ) → (owned : List ℕ) → (class : ℕ) → List Bool
first_row count owned class = all_marked (own_row count class) owned

abbrev pub first_rows : List Class → List Slot → List (List Bool)
first_rows classes slots =
    map (λ c. first_row (length classes) (owned_classes classes slots c) c) (range_with_len 0 (length classes))

-- the numbers in a row
abbrev pub members : (count : ℕ) → List Bool → List ℕ
members count row = filter (row_has row) (range_with_len 0 count)

-- for each class, whether it is related to an heir
abbrev pub struck_row : List Class → (heirs : List ℕ) → List Bool
struck_row classes heirs = map (λ c. list_any (related_in classes c) heirs) (range_with_len 0 (length classes))

abbrev pub struck_rows : List Class → (closed : List (List Bool)) → List (List Bool)
struck_rows classes closed = map (λ row. struck_row classes (members (length classes) row)) closed

-- the table, if any slot owns
unfoldable pub struck_table : List Class → List Slot → Option (List (List Bool))
struck_table classes slots =
    let first = first_rows classes slots in
    if list_any is_owning slots then Some (struck_rows classes (closed_by (length first) first)) else None

-- the table's value for two classes
abbrev pub struck_at : Option (List (List Bool)) → (deleted class : ℕ) → Option Bool
struck_at None deleted class = None
struck_at (Some rows) deleted class = option_and_then (λ row. slice_get row class) (slice_get rows deleted)
