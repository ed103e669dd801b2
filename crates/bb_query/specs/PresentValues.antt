-- The present values of a unit on the dimensions of a space.
use Rattle.std.specs.Prelude.{ℕ, List, [], Option, option_and_then}
use Rattle.std.specs.List.{filter_map}
use Rattle.std.specs.Option.{option_map_or}
use Rattle.bb_schema.specs.declared.space.Dim.{Dim}
use Rattle.bb_schema.specs.Schema.{Schema, slot_named, dims_of}
use Rattle.bb_units.specs.Units.{Units, class_of, value_of}
use Rattle.bb_pattern.specs.declared.value.DimValue.{DimValue}
use Rattle.bb_pattern.specs.Values.{dim_value_of}

-- the value on a dimension, which reads the slot of its own name in the unit's class
abbrev pub value_on : Schema → Units → ℕ → ℕ → Dim → Option DimValue
value_on s u n class d =
    option_and_then (λ slot. option_and_then dim_value_of (value_of u n slot)) (slot_named s class d.name)

-- the values of a unit of a class on some dimensions, in order
abbrev pub values_on : Schema → Units → ℕ → ℕ → List Dim → List DimValue
values_on s u n class dims = filter_map (value_on s u n class) dims

-- the values of the unit on the dimensions of a space, in order; there is one for each if the space admits the unit's
-- class
abbrev pub present_values : Schema → Units → ℕ → ℕ → List DimValue
present_values s u n space = option_map_or (λ class. values_on s u n class (dims_of s space)) (class_of u n) []
