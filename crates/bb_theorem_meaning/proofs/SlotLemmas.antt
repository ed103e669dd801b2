-- A slot that a name means in a class is the one that it means in the class of a unit that has it.
use Rattle.std.proofs.Common.{◌≡◌, ℕ, Bool, true, false, ◌&&◌, ◌<◌, List, length, Option, Some, None, refl, sym, ap, ◌∙◌}
use Rattle.std.specs.Prelude.{slice_get, is_some, option_map}
use Rattle.std.specs.Option.{option_map_or}
use Rattle.bb_schema_classes.specs.declared.value.Value.{Value}
use Rattle.bb_schema_classes.specs.Inheritance.{is_among}
use Rattle.bb_schema.specs.declared.slot.Slot.{Slot}
use Rattle.bb_schema.specs.Schema.{Schema, slot_named, slots_of, descends}
use Rattle.bb_schema.specs.Slots.{has_name, link_of}
use Rattle.bb_schema.specs.Fits as schemas
use Rattle.bb_units.specs.Units.{value_of, is_live}
use Rattle.bb_units.proofs.Laws.{has_its_slots}
use Rattle.bb_board.proofs.Laws.{class_there, find_here, has_among}
use Rattle.bb_board.specs.State.{World}
use Rattle.bb_board.specs.World.{class_at}
use Rattle.bb_board.specs.May.{class_has, has_link}
use Rattle.bb_board.specs.Fits.{Fits}
use Rattle.bb_theorem_accepted.proofs.Laws.{find_sound, named_slot}

-- a name has one meaning in all classes that have the slot
pub slot_same : (s : Schema) (c d slot : ℕ) (name : List ℕ) → schemas.Fits s → d < length s.classes → slot_named s c name ≡ Some slot → is_among (slots_of s d) slot ≡ true → slot_named s d name ≡ Some slot
slot_same s c d slot name sf lt h among =
    let p = has_name s.slots name in
    let passes = (find_sound p (slots_of s c) slot h).0 in
    let found = find_here p (slots_of s d) slot passes among in
    let other = find_sound p (slots_of s d) found.0 found.1 in
    let t = named_slot s.slots name found.0 other.0 in
    let u = named_slot s.slots name slot passes in
    let same : found.0 ≡ slot = sf.slot_names d found.0 slot t.0 u.0 lt other.1 among t.1 u.1 (sym t.2 ∙ u.2) in
    found.1 ∙ ap (λ n. Some n) same

-- ---- the slots of a unit's class

module _ (s : Schema) (w : World) (sf : schemas.Fits s) (fits : Fits s w) (n slot : ℕ) where
  -- a unit that has a value in a slot
  pub value_among : (v : Value) → value_of w.units n slot ≡ Some v → is_among (slots_of s (class_at w n)) slot ≡ true
  value_among v h = has_among s w fits n slot (sym (has_its_slots w.units n slot fits.units) ∙ ap is_some h)

  -- a unit whose class has a link
  pub link_among : is_live w.units n ≡ true → has_link s (class_at w n) slot ≡ true → is_among (slots_of s (class_at w n)) slot ≡ true
  link_among live h = by_slot (slice_get s.slots slot) refl (and_second (is_some (link_of s.slots slot)) (class_has s (class_at w n) slot) h)
    where
      and_second : (a b : Bool) → (a && b) ≡ true → b ≡ true
      and_second true b h = h
      and_second false b h = absurd cc

      by_slot : (o : Option Slot) → slice_get s.slots slot ≡ o → option_map_or (λ owner. descends s (class_at w n) owner) (option_map (λ t. t.owner) o) false ≡ true → is_among (slots_of s (class_at w n)) slot ≡ true
      by_slot None is h = absurd cc
      by_slot (Some t) is h = sf.owned (class_at w n) slot t (class_there s w n fits live).1 is ∙ h
