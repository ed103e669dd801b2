-- Which slots own, which classes are related, and what a delete strikes. A unit owns the units in its owning slots, and
-- they are deleted with it. A delete of a unit of one class may therefore strike, that is delete, units of others.
use Rattle.std.specs.Prelude.{ℕ, Bool, false, ◌&&◌, ◌||◌, List, ◌∷◌, length, Option, Some, None, option_and_then, if◌then◌else◌}
use Rattle.std.specs.List.{list_any, filter_map, range_with_len}
use Rattle.std.specs.Option.{option_map_or}
use Rattle.bb_basis.specs.Closure.{closure}
use Rattle.bb_schema_classes.specs.declared.class.Class.{Class}
use Rattle.bb_schema_classes.specs.Inheritance.{descends_in, is_among}
use Rattle.bb_schema.specs.declared.slot.Slot.{Slot}
use Rattle.bb_schema.specs.Slots.{link_in}

-- whether a slot is a link slot that owns
abbrev pub is_owning : Slot → Bool
is_owning t = option_map_or (λ l. l.owns) (link_in t.content) false

-- whether one of two classes descends from the other
abbrev pub related_in : List Class → ℕ → ℕ → Bool
related_in classes c d = descends_in classes c d || descends_in classes d c

-- the target class of a slot, if the slot owns and is declared by a class related to c
abbrev pub owned_class : List Class → (c : ℕ) → Slot → Option ℕ
owned_class classes c t =
    option_and_then (λ l. if l.owns && related_in classes c t.owner then Some l.to else None) (link_in t.content)

-- the target classes of the owning slots that classes related to c declare
abbrev pub owned_classes : List Class → List Slot → (c : ℕ) → List ℕ
owned_classes classes slots c = filter_map (owned_class classes c) slots

-- the heirs of d: the least set of classes that has d and the target class of every owning slot that is declared by a
-- class related to a class of the set
unfoldable pub heirs_in : List Class → List Slot → (d : ℕ) → List ℕ
heirs_in classes slots d =
    closure (λ c. is_among (owned_classes classes slots c)) (d ∷ range_with_len 0 (length classes)) d

-- whether a delete of a unit of class d may delete a unit of class c: c is related to an heir of d
unfoldable pub strikes_in : List Class → List Slot → (d c : ℕ) → Bool
strikes_in classes slots d c = list_any (related_in classes c) (heirs_in classes slots d)
