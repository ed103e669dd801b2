-- The values that spaces are given when a slot is set: one of the values that each was given changes.
use Rattle.std.specs.Prelude.{ℕ, List, Option, length, option_map, option_and_then, position, slice_set}
use Rattle.std.specs.List.{filter_map, range_with_len}
use Rattle.std.specs.Str.{bytes_eq}
use Rattle.bb_schema_classes.specs.declared.value.Value.{Value}
use Rattle.bb_schema.specs.Schema.{Schema, dims_of, name_of_slot}
use Rattle.bb_pattern.specs.declared.value.DimValue.{DimValue}
use Rattle.bb_pattern.specs.Values.{dim_value_of}
use Rattle.bb_space.specs.Spaces.{Spaces, values_in}

-- the index of the dimension that reads a slot
abbrev pub reading : Schema → (slot space : ℕ) → Option ℕ
reading s slot space =
    option_and_then (λ name. position (λ d. bytes_eq d.name name) (dims_of s space)) (name_of_slot s slot)

-- the values of a member of a space that reads the slot, after the slot is set to a value
abbrev pub values_anew : Schema → Spaces → (unit slot : ℕ) → Value → (space : ℕ) → Option (List DimValue)
values_anew s t n slot value space =
    option_and_then (λ told. option_and_then (λ place. option_map (slice_set told place) (dim_value_of value))
    (reading s slot space)) (values_in t space n)

-- the spaces of the unit that read the slot, each with these values
abbrev pub moves_for : Schema → Spaces → (unit slot : ℕ) → Value → List (ℕ × List DimValue)
moves_for s t n slot value =
    filter_map (λ space. option_map (λ values. (space, values)) (values_anew s t n slot value space))
    (range_with_len 0 (length t.spaces))
