-- The values of a unit stay such that their slots can hold them.
use Rattle.std.proofs.Common.{◌≡◌, ℕ, zero, suc, map, length, ◌<◌, ◌⊎◌, inl, inr, Bool, true, false, cond, List, [], ◌∷◌, Option, Some, None, refl, sym, ap, subst, ◌∙◌}
use Rattle.std.specs.Prelude.{◌==◌, IfSome, slice_get, option_map}
use Rattle.std.specs.List.{cons_option}
use Rattle.std.specs.Option.{option_map_or}
use Rattle.std.proofs.lemmas.Map.{keys-set_value}
use Rattle.std.proofs.lemmas.Bool.{eqb-true}
use Rattle.bb_schema_classes.specs.declared.value.Value.{Value}
use Rattle.bb_units.specs.declared.unit.Unit.{Unit}
use Rattle.bb_schema.specs.declared.slot.Slot.{Slot}
use Rattle.bb_schema_classes.specs.Kinds.{kind_of_value}
use Rattle.bb_schema_classes.specs.Values.{value_fits}
use Rattle.bb_schema.specs.Schema.{Schema}
use Rattle.bb_schema.specs.Slots.{default_in}
use Rattle.bb_schema_classes.specs.Fits.{IsHeld}
use Rattle.bb_schema.specs.Fits.{IsSlot, Fits}
use Rattle.bb_schema_classes.proofs.Laws.{All-at}
use Rattle.bb_units.specs.Values.{value_at, with_value}
use Rattle.bb_units.specs.Layout.{Layout, layout_of, default_at, can_hold, defaults_of}
use Rattle.bb_units.specs.Units.{new_unit, with_slot}
use Rattle.bb_units.specs.Fits.{HoldsDefaults, IsUnitOf}

-- after a change, a slot has what it had, or it is the changed one
changed : (values : List (ℕ × Value)) (slot : ℕ) (w : Value) (s : ℕ) → (value_at (with_value values slot w) s ≡ value_at values s) ⊎ ((s ≡ slot) × (value_at (with_value values slot w) s ≡ Some w))
changed [] slot w s = inl refl
changed (e ∷ es) slot w s = at (e.0 == slot) refl (e.0 == s) refl (changed es slot w s) where
  at : (here : Bool) → (e.0 == slot) ≡ here → (sought : Bool) → (e.0 == s) ≡ sought
      → ((value_at (with_value es slot w) s ≡ value_at es s) ⊎ ((s ≡ slot) × (value_at (with_value es slot w) s ≡ Some w)))
      → (value_at (with_value (e ∷ es) slot w) s ≡ value_at (e ∷ es) s) ⊎ ((s ≡ slot) × (value_at (with_value (e ∷ es) slot w) s ≡ Some w))
  at true h true k later = inr (sym (eqb-true e.0 s k) ∙ eqb-true e.0 slot h, rw (h, k) refl)
  at true h false k later = inl (rw (h, k) refl)
  at false h true k later = inl (rw (h, k) refl)
  at false h false k (inl same) = inl (rw (h, k) same)
  at false h false k (inr set) = inr (set.0, rw (h, k) set.1)

-- a new unit has each slot at its default
at_default : (defaults : List (Option Value)) (slots : List ℕ) (slot : ℕ) (value : Value) → value_at (defaults_of defaults slots) slot ≡ Some value → default_at defaults slot ≡ Some value
at_default defaults [] slot value is = absurd cc
at_default defaults (s ∷ ss) slot value is = at (default_at defaults s) refl (s == slot) refl (at_default defaults ss slot value) is where
  others : List (ℕ × Value)
  others = defaults_of defaults ss

  with_default : Option Value → List (ℕ × Value)
  with_default d = cons_option (option_map (λ v. (s, v)) d) others

  at : (default : Option Value) → default_at defaults s ≡ default → (sought : Bool) → (s == slot) ≡ sought → (value_at (defaults_of defaults ss) slot ≡ Some value → default_at defaults slot ≡ Some value)
      → value_at (defaults_of defaults (s ∷ ss)) slot ≡ Some value → default_at defaults slot ≡ Some value
  at None h sought k later is = later (subst (λ (d : Option Value). value_at (with_default d) slot ≡ Some value) h is)
  at (Some d) h true k later is =
      let first : Some d ≡ Some value = subst (λ (b : Bool). cond b (Some d) (value_at others slot) ≡ Some value) k (subst (λ (o : Option Value). value_at (with_default o) slot ≡ Some value) h is) in
      ap (default_at defaults) (sym (eqb-true s slot k)) ∙ (h ∙ first)
  at (Some d) h false k later is =
      later (subst (λ (b : Bool). cond b (Some d) (value_at others slot) ≡ Some value) k (subst (λ (o : Option Value). value_at (with_default o) slot ≡ Some value) h is))

at_default_of_class : (l : Layout) (slots : Option (List ℕ)) (slot : ℕ) (value : Value) → value_at (option_map_or (defaults_of l.defaults) slots []) slot ≡ Some value → default_at l.defaults slot ≡ Some value
at_default_of_class l None slot value is = absurd cc
at_default_of_class l (Some slots) slot value is = at_default l.defaults slots slot value is

pub new_unit_fits : (l : Layout) (class : ℕ) → class < length l.slots → HoldsDefaults l → IsUnitOf l (new_unit l class)
new_unit_fits l class there holds = record {
  class = there;
  slots = refl;
  values = λ slot value is. holds slot value (at_default_of_class l (slice_get l.slots class) slot value is);
}

-- another value that the slot can hold
pub other_unit_fits : (l : Layout) (x : Unit) (slot : ℕ) (value : Value) → IsUnitOf l x → can_hold l slot value ≡ true → IsUnitOf l (with_slot x slot value)
other_unit_fits l x slot value fits held = record {
  class = fits.class;
  slots = keys-set_value (λ s. s == slot) x.values value ∙ fits.slots;
  values = λ s v is. elim (changed x.values slot value s) [
    | inl kept ↦ fits.values s v (sym kept ∙ is)
    | inr set ↦
        let new : value ≡ v = let e : Some value ≡ Some v = sym set.1 ∙ is in cc in
        ap (λ (t : ℕ). can_hold l t v) set.0 ∙ (ap (λ (w : Value). can_hold l slot w) (sym new) ∙ held)
  ];
}

-- ---- the layout of a schema

default_there : (slots : List Slot) (slot : ℕ) (value : Value) → default_at (map (λ t. default_in t.content) slots) slot ≡ Some value → (t : Slot) × (slice_get slots slot ≡ Some t) × (default_in t.content ≡ Some value)
default_there [] slot value is = absurd cc
default_there (t ∷ ts) zero value is = (t, refl, is)
default_there (t ∷ ts) (suc slot) value is = default_there ts slot value is

held_by : (l : Layout) (slot : ℕ) (value : Value) → default_at l.defaults slot ≡ Some value → value_fits l.label_counts (kind_of_value value) value ≡ true → can_hold l slot value ≡ true
held_by l slot value is fits = rw is fits

pub layout_holds : (s : Schema) → Fits s → HoldsDefaults (layout_of s)
layout_holds s fits slot value is =
    let there = default_there s.slots slot value is in
    let slot_fits : IsSlot s.label_sets (length s.classes) there.0 = All-at (IsSlot s.label_sets (length s.classes)) s.slots slot there.0 there.1 fits.slots in
    held_by (layout_of s) slot value is (subst (λ (o : Option Value). IfSome o (IsHeld s.label_sets)) there.2 slot_fits.default)
