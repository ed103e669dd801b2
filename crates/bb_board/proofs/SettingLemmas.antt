-- What a unit has on a dimension once a slot of it is set.
use Rattle.std.proofs.Common.{◌≡◌, ◌≢◌, ℕ, Bool, true, false, cond, List, [], ◌∷◌, Option, Some, None, refl, sym, ap, ◌∙◌}
use Rattle.std.specs.Prelude.{◌==◌, is_some, option_and_then}
use Rattle.std.specs.Option.{option_map_or}
use Rattle.std.specs.Cmp.{nat_cmp_total, eq_by_cmp_equiv}
use Rattle.std.specs.FinMap.{get, insert, get-insert}
use Rattle.std.proofs.lemmas.Bool.{eqb-true}
use Rattle.bb_schema_classes.specs.declared.value.Value.{Value}
use Rattle.bb_schema.specs.declared.space.Dim.{Dim}
use Rattle.bb_schema.specs.Schema.{Schema, slot_named}
use Rattle.bb_units.specs.declared.unit.Unit.{Unit}
use Rattle.bb_units.specs.Values.{value_at, with_value}
use Rattle.bb_units.specs.Units.{Units, value_of, with_slot, after_set}
use Rattle.bb_pattern.specs.Values.{dim_value_of}
use Rattle.bb_query.specs.PresentValues.{value_on}

module _ (slot : ℕ) (value : Value) where
  same_by : (e : ℕ × Value) (es : List (ℕ × Value)) (b : Bool) → (e.0 == slot) ≡ b → is_some (cond b (Some e.1) (value_at es slot)) ≡ true
      → (is_some (value_at es slot) ≡ true → value_at (with_value es slot value) slot ≡ Some value) → value_at (cond b ((e.0, value) ∷ es) (e ∷ with_value es slot value)) slot ≡ Some value
  same_by e es true is there rest = ap (λ b. cond b (Some value) (value_at es slot)) is
  same_by e es false is there rest = ap (λ b. cond b (Some e.1) (value_at (with_value es slot value) slot)) is ∙ rest there

  same_at : (es : List (ℕ × Value)) → is_some (value_at es slot) ≡ true → value_at (with_value es slot value) slot ≡ Some value
  same_at [] there = absurd cc
  same_at (e ∷ es) there = same_by e es (e.0 == slot) refl there (same_at es)

  other_by : (e : ℕ × Value) (es : List (ℕ × Value)) (s : ℕ) (b : Bool) → (e.0 == slot) ≡ b → s ≢ slot → value_at (with_value es slot value) s ≡ value_at es s
      → value_at (cond b ((e.0, value) ∷ es) (e ∷ with_value es slot value)) s ≡ cond (e.0 == s) (Some e.1) (value_at es s)
  other_by e es s true is apart rest = passed (e.0 == s) refl
    where
      passed : (c : Bool) → (e.0 == s) ≡ c → cond (e.0 == s) (Some value) (value_at es s) ≡ cond (e.0 == s) (Some e.1) (value_at es s)
      passed true same = absurd (apart (sym (eqb-true e.0 s same) ∙ eqb-true e.0 slot is))
      passed false other = rw other refl
  other_by e es s false is apart rest = ap (cond (e.0 == s) (Some e.1)) rest

  other_at : (es : List (ℕ × Value)) (s : ℕ) → s ≢ slot → value_at (with_value es slot value) s ≡ value_at es s
  other_at [] s apart = refl
  other_at (e ∷ es) s apart = other_by e es s (e.0 == slot) refl apart (other_at es s apart)

  module _ (u : Units) (n : ℕ) where
    set_same_by : (o : Option Unit) → get u.units n ≡ o → is_some (option_and_then (λ x. value_at x.values slot) o) ≡ true
        → option_and_then (λ x. value_at x.values slot) (get (option_map_or (λ x. insert u.units n (with_slot x slot value)) o u.units) n) ≡ Some value
    set_same_by None is there = absurd cc
    set_same_by (Some x) is there =
        ap (option_and_then (λ x. value_at x.values slot)) (get-insert nat_cmp_total u.units n (with_slot x slot value) n ∙ ap (λ b. cond b (Some (with_slot x slot value)) (get u.units n)) ((eq_by_cmp_equiv nat_cmp_total).refl n))
        ∙ same_at x.values there

    set_other_by : (s : ℕ) (o : Option Unit) → get u.units n ≡ o → s ≢ slot
        → option_and_then (λ x. value_at x.values s) (get (option_map_or (λ x. insert u.units n (with_slot x slot value)) o u.units) n) ≡ option_and_then (λ x. value_at x.values s) (get u.units n)
    set_other_by s None is apart = refl
    set_other_by s (Some x) is apart =
        ap (option_and_then (λ x. value_at x.values s)) (get-insert nat_cmp_total u.units n (with_slot x slot value) n ∙ ap (λ b. cond b (Some (with_slot x slot value)) (get u.units n)) ((eq_by_cmp_equiv nat_cmp_total).refl n))
        ∙ (other_at x.values s apart ∙ sym (ap (option_and_then (λ x. value_at x.values s)) is))

    -- the slot that is set has the value, and another slot what it had
    set_value_same : is_some (value_of u n slot) ≡ true → value_of (after_set u n slot value) n slot ≡ Some value
    set_value_same there = set_same_by (get u.units n) refl there

    set_value_other : (s : ℕ) → s ≢ slot → value_of (after_set u n slot value) n s ≡ value_of u n s
    set_value_other s apart = set_other_by s (get u.units n) refl apart

    -- a dimension that reads the slot has the new value, and another what it had
    pub on_the_slot : (sc : Schema) (class : ℕ) (d : Dim) (read : ℕ) → slot_named sc class d.name ≡ Some read → read ≡ slot → is_some (value_of u n slot) ≡ true
        → value_on sc (after_set u n slot value) n class d ≡ dim_value_of value
    on_the_slot sc class d read named same there =
        ap (option_and_then (λ s. option_and_then dim_value_of (value_of (after_set u n slot value) n s))) named
        ∙ (ap (λ s. option_and_then dim_value_of (value_of (after_set u n slot value) n s)) same ∙ ap (option_and_then dim_value_of) (set_value_same there))

    pub on_another : (sc : Schema) (class : ℕ) (d : Dim) (read : ℕ) → slot_named sc class d.name ≡ Some read → read ≢ slot
        → value_on sc (after_set u n slot value) n class d ≡ option_and_then dim_value_of (value_of u n read)
    on_another sc class d read named apart =
        ap (option_and_then (λ s. option_and_then dim_value_of (value_of (after_set u n slot value) n s))) named ∙ ap (option_and_then dim_value_of) (set_value_other read apart)
