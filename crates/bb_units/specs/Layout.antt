-- The slots of the units of a class, their values in a new unit, and the values that they can hold.
use Rattle.std.specs.Prelude.{ℕ, Bool, false, List, [], map, Option, slice_get, option_map, option_and_then}
use Rattle.std.specs.List.{filter_map}
use Rattle.std.specs.Option.{option_map_or}
use Rattle.bb_schema_classes.specs.declared.value.Value.{Value}
use Rattle.bb_schema_classes.specs.Kinds.{kind_of_value}
use Rattle.bb_schema_classes.specs.Values.{label_counts, value_fits}
use Rattle.bb_schema.specs.Schema.{Schema}
use Rattle.bb_schema.specs.Slots.{default_in}

pub record Layout : Type 0 where
  -- by class, all its slots in class order
  pub slots : List (List ℕ)
  -- by slot, the default of an ordinary one
  pub defaults : List (Option Value)
  -- by label set, the number of its labels
  pub label_counts : List ℕ

-- the layout of the units of a schema
abbrev pub layout_of : Schema → Layout
layout_of s = record {
  slots = map (λ k. k.slots) s.classes;
  defaults = map (λ t. default_in t.content) s.slots;
  label_counts = label_counts s.label_sets;
}

-- all slots of a class
abbrev pub slots_of : Layout → ℕ → List ℕ
slots_of l class = option_map_or (λ slots. slots) (slice_get l.slots class) []

-- the default of an ordinary slot
abbrev pub default_at : List (Option Value) → ℕ → Option Value
default_at defaults slot = option_and_then (λ default. default) (slice_get defaults slot)

-- whether the slot is an ordinary slot that can hold the value; its kind is the kind of its default
abbrev pub can_hold : Layout → ℕ → Value → Bool
can_hold l slot value =
    option_map_or (λ default. value_fits l.label_counts (kind_of_value default) value)
    (default_at l.defaults slot) false

-- the ordinary slots among some slots, each with its default
abbrev pub defaults_of : List (Option Value) → List ℕ → List (ℕ × Value)
defaults_of defaults slots = filter_map (λ slot. option_map (λ value. (slot, value)) (default_at defaults slot)) slots

-- the values of a new unit of a class
abbrev pub blank : Layout → ℕ → List (ℕ × Value)
blank l class = option_map_or (defaults_of l.defaults) (slice_get l.slots class) []
