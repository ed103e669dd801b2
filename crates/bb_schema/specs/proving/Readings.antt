-- The kept tables of what dimensions read. A name is told by the first slot that has it, so no names are compared.
use Rattle.std.specs.Prelude.{◌≡◌, ℕ, Bool, false, ◌==◌, List, [], map, find, length, position, slice_get, Option, Some, None, option_and_then, nat_le, if◌then◌else◌}
use Rattle.std.specs.List.{fold, range_with_len}
use Rattle.std.specs.Option.{option_map_or}
use Rattle.std.specs.Str.{bytes_eq}
use Rattle.bb_schema.specs.declared.slot.Slot.{Slot}
use Rattle.bb_schema.specs.declared.space.Space.{Space}
use Rattle.bb_schema_classes.specs.Firsts.{has_first, row_if}
use Rattle.bb_schema.specs.declared.readings.Readings.{Readings}
use Rattle.bb_schema.specs.Schema.{Schema, slots_of, kind_of_slot}
use Rattle.bb_schema.specs.SpaceReading.{suits}
use Rattle.bb_schema.specs.Readings.{readings_of, slot_read}
use Rattle.bb_schema.specs.proving.Relation.{row_has}
use Rattle.bb_schema.specs.proving.Struck.{marked}

-- the names of slots
abbrev pub names_of : List Slot → List (List ℕ)
names_of slots = map (λ t. t.name) slots

-- the first slot with a name
abbrev pub first_named : List Slot → List ℕ → Option ℕ
first_named slots name = position (bytes_eq name) (names_of slots)

-- for each slot, the first slot with its name
abbrev pub firsts_of : List Slot → List (Option ℕ)
firsts_of slots = map (λ t. first_named slots t.name) slots

-- for each space and each of its dimensions, the first slot with its name
abbrev pub dim_firsts : List Slot → List Space → List (List (Option ℕ))
dim_firsts slots spaces = map (λ p. map (λ d. first_named slots d.name) p.dims) spaces

-- the first of these slots whose name is that of a first slot
abbrev pub slot_with : List (Option ℕ) → List ℕ → Option ℕ → Option ℕ
slot_with firsts numbers first = option_and_then (λ f. find (has_first firsts f) numbers) first

-- whether a class has a slot for a dimension, of which the first slot with its name is known
unfoldable pub has_slot_at : Schema → Option ℕ → Option ℕ → ℕ → Bool
has_slot_at s first set c =
    option_map_or (λ n. option_map_or (suits set) (kind_of_slot s n) false) (slot_with (firsts_of s.slots) (slots_of s c) first) false

-- a row with a first slot marked
abbrev pub mark_first : List Bool → Option ℕ → List Bool
mark_first row first = option_map_or (marked row) first row

-- the first slots that dimensions read, as a row
abbrev pub read_slots : (count : ℕ) → List (List (Option ℕ)) → List Bool
read_slots count dims = fold (fold mark_first) (map (λ _. false) (range_with_len 0 count)) dims

-- for each slot, its row
abbrev pub rows_of : List Bool → List (List (Option ℕ)) → List (List (Option ℕ))
rows_of read dims = map (λ first. row_if (row_has read first) dims first) (range_with_len 0 (length read))

-- the row of a slot
abbrev pub kept_row : Readings → ℕ → List (Option ℕ)
kept_row r slot = option_map_or (λ found. option_map_or (λ first. option_map_or (λ row. row) (slice_get r.rows first) []) found []) (slice_get r.firsts slot) []

-- the first slot with the name of a dimension
abbrev pub kept_first : Readings → (space dim : ℕ) → Option ℕ
kept_first r space dim = option_and_then (λ found. found) (option_and_then (λ firsts. slice_get firsts dim) (slice_get r.dims space))

-- the tables tell what dimensions read
pub record AreReadings (s : Schema) (r : Readings) : Type 0 where
  pub rows : (slot : ℕ) → kept_row r slot ≡ readings_of s slot
  pub slots : (class space dim : ℕ) → slot_with r.firsts (slots_of s class) (kept_first r space dim) ≡ slot_read s class space dim
