-- Which slots dimensions read: a dimension of a space reads the slots with its name.
use Rattle.std.specs.Prelude.{ℕ, List, [], map, slice_get, position, is_some, Option, option_and_then, if◌then◌else◌}
use Rattle.std.specs.List.{list_any}
use Rattle.std.specs.Option.{option_map_or}
use Rattle.std.specs.Str.{bytes_eq}
use Rattle.bb_schema.specs.declared.space.Space.{Space}
use Rattle.bb_schema.specs.Schema.{Schema, slot_named, dims_of}

-- for each space, the index of its dimension with the name
abbrev pub places_named : List Space → List ℕ → List (Option ℕ)
places_named spaces name = map (λ p. position (λ d. bytes_eq d.name name) p.dims) spaces

-- a list, if anything is in it
abbrev pub unless_empty : List (Option ℕ) → List (Option ℕ)
unless_empty places = if list_any is_some places then places else []

-- for each space, the index of its dimension that reads the slot; an empty list if no space reads it
abbrev pub readings_of : Schema → (slot : ℕ) → List (Option ℕ)
readings_of s slot = option_map_or (λ t. unless_empty (places_named s.spaces t.name)) (slice_get s.slots slot) []

-- the slot of a class that a dimension of a space reads
abbrev pub slot_read : Schema → (class space dim : ℕ) → Option ℕ
slot_read s class space dim = option_and_then (λ d. slot_named s class d.name) (slice_get (dims_of s space) dim)
