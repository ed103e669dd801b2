-- Which slots a unit has: the ordinary ones of its class.
use Rattle.std.proofs.Common.{◌≡◌, ℕ, Bool, true, false, ◌&&◌, List, [], ◌∷◌, Option, Some, None, refl, sym, ap, ◌∙◌}
use Rattle.std.specs.Prelude.{◌==◌, is_some, slice_get, option_and_then}
use Rattle.std.specs.List.{list_any}
use Rattle.std.specs.Map.{keys_of}
use Rattle.std.specs.Option.{option_map_or}
use Rattle.std.specs.FinMap.{get}
use Rattle.std.proofs.lemmas.Bool.{eqb-true}
use Rattle.bb_basis.proofs.BoolLemmas.{and_false}
use Rattle.bb_schema_classes.specs.declared.value.Value.{Value}
use Rattle.bb_units.specs.declared.unit.Unit.{Unit}
use Rattle.bb_units.specs.Values.{value_at}
use Rattle.bb_units.specs.Layout.{Layout, slots_of, default_at, defaults_of}
use Rattle.bb_units.specs.Units.{Units, value_of, has_slot}
use Rattle.bb_units.specs.Fits.{IsUnitOf, Fits}

-- a slot has a value where it is among the keys
there_by : (e : ℕ × Value) (es : List (ℕ × Value)) (slot : ℕ) (b : Bool) → (e.0 == slot) ≡ b → is_some (value_at es slot) ≡ list_any (λ s. s == slot) (keys_of es) → is_some (value_at (e ∷ es) slot) ≡ list_any (λ s. s == slot) (keys_of (e ∷ es))
there_by e es slot true h rest = rw h refl
there_by e es slot false h rest = rw h rest

among_keys : (es : List (ℕ × Value)) (slot : ℕ) → is_some (value_at es slot) ≡ list_any (λ s. s == slot) (keys_of es)
among_keys [] slot = refl
among_keys (e ∷ es) slot = there_by e es slot (e.0 == slot) refl (among_keys es slot)

-- the keys of the defaults of some slots are the ordinary ones
module _ (defaults : List (Option Value)) (slot : ℕ) where
  abbrev sought : List ℕ → Bool
  sought slots = list_any (λ s. s == slot) slots

  abbrev keys : List ℕ → Bool
  keys slots = sought (keys_of (defaults_of defaults slots))

  ordinary_by : (s : ℕ) (ss : List ℕ) (d : Option Value) → default_at defaults s ≡ d → (b : Bool) → (s == slot) ≡ b → keys ss ≡ (sought ss && is_some (default_at defaults slot)) → keys (s ∷ ss) ≡ (sought (s ∷ ss) && is_some (default_at defaults slot))
  ordinary_by s ss None is true h rest =
      let none : default_at defaults slot ≡ None = ap (default_at defaults) (sym (eqb-true s slot h)) ∙ is in
      rw (is, h) (rest ∙ (ap (λ (o : Option Value). sought ss && is_some o) none ∙ (and_false (sought ss) ∙ sym (ap is_some none))))
  ordinary_by s ss None is false h rest = rw (is, h) rest
  ordinary_by s ss (Some v) is true h rest =
      let some : default_at defaults slot ≡ Some v = ap (default_at defaults) (sym (eqb-true s slot h)) ∙ is in
      rw (is, h) (sym (ap is_some some))
  ordinary_by s ss (Some v) is false h rest = rw (is, h) rest

  ordinary : (ss : List ℕ) → keys ss ≡ (sought ss && is_some (default_at defaults slot))
  ordinary [] = refl
  ordinary (s ∷ ss) = ordinary_by s ss (default_at defaults s) refl (s == slot) refl (ordinary ss)

ordinary_of : (l : Layout) (slot : ℕ) (o : Option (List ℕ)) → list_any (λ s. s == slot) (keys_of (option_map_or (defaults_of l.defaults) o [])) ≡ (list_any (λ s. s == slot) (option_map_or (λ slots. slots) o []) && is_some (default_at l.defaults slot))
ordinary_of l slot None = refl
ordinary_of l slot (Some slots) = ordinary l.defaults slot slots

unit_has : (l : Layout) (x : Unit) (slot : ℕ) → IsUnitOf l x → is_some (value_at x.values slot) ≡ (list_any (λ s. s == slot) (slots_of l x.class) && is_some (default_at l.defaults slot))
unit_has l x slot fits = among_keys x.values slot ∙ (ap (list_any (λ s. s == slot)) fits.slots ∙ ordinary_of l slot (slice_get l.slots x.class))

has_at : (u : Units) (n slot : ℕ) (o : Option Unit) → get u.units n ≡ o → Fits u → is_some (option_and_then (λ x. value_at x.values slot) o) ≡ option_map_or (λ x. list_any (λ s. s == slot) (slots_of u.layout x.class) && is_some (default_at u.layout.defaults slot)) o false
has_at u n slot None is fits = refl
has_at u n slot (Some x) is fits = unit_has u.layout x slot (fits.units n x is)

pub has_its_slots : (u : Units) (n slot : ℕ) → Fits u → is_some (value_of u n slot) ≡ has_slot u n slot
has_its_slots u n slot fits = has_at u n slot (get u.units n) refl fits
