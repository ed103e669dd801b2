-- The slots of the classes read so far. A link slot still has names instead of numbers.
use Rattle.std.specs.Prelude.{ℕ, Bool, false, ◌||◌, ◌∷◌, [], ◌++◌, nat_le, List, length, slice_get}
use Rattle.std.specs.List.{list_any}
use Rattle.std.specs.Option.{option_map_or}
use Rattle.std.specs.Str.{bytes_eq}
use Rattle.bb_schema_classes.specs.declared.draft.TheConstants.{CLASS_SLOT_LIMIT, SLOT_LIMIT}
use Rattle.bb_schema_classes.specs.declared.draft.Draft.{Draft}
-- all classes so far, and their slots
pub use Rattle.bb_schema_classes.specs.declared.draft.SchemaDraft.{SchemaDraft}
-- a class that is being read: all slots so far, and the numbers of the class's slots, in class order
pub use Rattle.bb_schema_classes.specs.declared.draft.ClassDraft.{ClassDraft}

-- whether the slot with the number exists and has the name
unfoldable pub draft_has_name : List Draft → List ℕ → ℕ → Bool
draft_has_name slots name n = option_map_or (λ d. bytes_eq name d.name) (slice_get slots n) false

-- whether the class has a slot with the name, inherited ones included
abbrev pub has_slot_named : ClassDraft → List ℕ → Bool
has_slot_named g name = list_any (draft_has_name g.slots name) g.class_slots

-- whether another slot would exceed the limit of a class or the limit of all classes
abbrev pub is_full : ClassDraft → Bool
is_full g = nat_le CLASS_SLOT_LIMIT (length g.class_slots) || nat_le SLOT_LIMIT (length g.slots)

-- a class with another slot, which gets the next number
abbrev pub with_slot : ClassDraft → Draft → ClassDraft
with_slot g d = record { slots = g.slots ++ d ∷ []; class_slots = g.class_slots ++ length g.slots ∷ [] }
