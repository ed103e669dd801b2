-- Schemas, and how their parts are found (GBBopen Reference Manual, unit classes and slots).
use Rattle.std.specs.Prelude.{ℕ, Bool, List, [], map, slice_get, Option, option_and_then, option_map, position, find}
use Rattle.std.specs.Option.{option_map_or}
use Rattle.std.specs.Str.{bytes_eq}
use Rattle.bb_schema_classes.specs.declared.label_set.LabelSet.{LabelSet}
use Rattle.bb_schema_classes.specs.declared.class.Class.{Class}
use Rattle.bb_schema_classes.specs.declared.value.Value.{Value}
use Rattle.bb_schema.specs.declared.slot.Slot.{Slot}
use Rattle.bb_schema_classes.specs.declared.kind.Kind.{Kind}
use Rattle.bb_schema.specs.declared.space.Space.{Space}
use Rattle.bb_schema.specs.declared.space.Dim.{Dim}
use Rattle.bb_schema.specs.Kinds.{kind_of}
use Rattle.bb_schema_classes.specs.Inheritance.{descends_in, slots_in}
use Rattle.bb_schema.specs.Slots.{has_name, default_in, link_of}

-- all parts, indexed by their numbers; class 0 is `focus`
pub record Schema : Type 0 where
  pub label_sets : List LabelSet
  pub classes : List Class
  pub slots : List Slot
  pub spaces : List Space

-- the numbers of the parts with these names
abbrev pub class_named : Schema → List ℕ → Option ℕ
class_named s name = position (bytes_eq name) (map (λ k. k.name) s.classes)

abbrev pub space_named : Schema → List ℕ → Option ℕ
space_named s name = position (bytes_eq name) (map (λ p. p.name) s.spaces)

abbrev pub label_set_named : Schema → List ℕ → Option ℕ
label_set_named s name = position (bytes_eq name) (map (λ l. l.name) s.label_sets)

-- the number of a label in its set
abbrev pub label_named : Schema → ℕ → List ℕ → Option ℕ
label_named s set name = option_and_then (λ l. position (bytes_eq name) l.values) (slice_get s.label_sets set)

-- all slots of a class, in class order
abbrev pub slots_of : Schema → ℕ → List ℕ
slots_of s c = slots_in s.classes c

-- the slot with a name in a class, inherited ones included
abbrev pub slot_named : Schema → ℕ → List ℕ → Option ℕ
slot_named s c name = find (has_name s.slots name) (slots_of s c)

-- the names of the parts with these numbers
abbrev pub name_of_class : Schema → ℕ → Option (List ℕ)
name_of_class s c = option_map (λ k. k.name) (slice_get s.classes c)

abbrev pub name_of_slot : Schema → ℕ → Option (List ℕ)
name_of_slot s n = option_map (λ t. t.name) (slice_get s.slots n)

abbrev pub name_of_space : Schema → ℕ → Option (List ℕ)
name_of_space s w = option_map (λ p. p.name) (slice_get s.spaces w)

abbrev pub name_of_label_set : Schema → ℕ → Option (List ℕ)
name_of_label_set s n = option_map (λ l. l.name) (slice_get s.label_sets n)

abbrev pub label_at : List LabelSet → ℕ → ℕ → Option (List ℕ)
label_at sets set label = option_and_then (λ l. slice_get l.values label) (slice_get sets set)

abbrev pub name_of_label : Schema → ℕ → ℕ → Option (List ℕ)
name_of_label s set label = label_at s.label_sets set label

-- the class that declares a slot, and the kind of a slot
abbrev pub owner_of : Schema → ℕ → Option ℕ
owner_of s n = option_map (λ t. t.owner) (slice_get s.slots n)

abbrev pub kind_of_slot : Schema → ℕ → Option Kind
kind_of_slot s n = option_map (λ t. kind_of t.content) (slice_get s.slots n)

-- the default of an ordinary slot
abbrev pub default_of : Schema → ℕ → Option Value
default_of s n = option_and_then (λ t. default_in t.content) (slice_get s.slots n)

-- the inverse of a link slot; any other number gives itself
abbrev pub inverse_of : List Slot → ℕ → ℕ
inverse_of slots n = option_map_or (λ l. l.inverse) (link_of slots n) n

-- the dimensions of a space
abbrev pub dims_of : Schema → ℕ → List Dim
dims_of s w = option_map_or (λ p. p.dims) (slice_get s.spaces w) []

-- whether c descends from d
abbrev pub descends : Schema → ℕ → ℕ → Bool
descends s c d = descends_in s.classes c d
