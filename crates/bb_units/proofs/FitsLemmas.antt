-- Units that fit stay so.
use Rattle.std.proofs.Common.{◌≡◌, ℕ, ◌+◌, ◌-◌, ◌<◌, ◌≤◌, ◌^◌, Bool, true, false, cond, length, Option, Some, None, refl, sym, ap, subst, ◌∙◌, arith}
use Rattle.std.specs.Prelude.{is_some}
use Rattle.std.specs.Option.{option_map_or}
use Rattle.std.specs.Ordering.{nat_cmp, eq_by_cmp}
use Rattle.std.specs.Cmp.{nat_cmp_total}
use Rattle.std.specs.FinMap.{get, insert, remove, len, contains_key, get-empty, get-insert, get-remove, len-insert, len-remove, len-empty}
use Rattle.bb_basis.proofs.NumberLemmas.{eq_by_cmp_same}
use Rattle.bb_schema_classes.specs.declared.value.Value.{Value}
use Rattle.bb_units.specs.declared.unit.Unit.{Unit}
use Rattle.bb_units.specs.declared.units.TheConstants.{UNIT_LIMIT}
use Rattle.bb_units.specs.Layout.{Layout, can_hold}
use Rattle.bb_units.specs.Units.{Units, no_units, new_unit, after_create, after_delete, with_slot, after_set}
use Rattle.bb_units.specs.Fits.{HoldsDefaults, IsUnitOf, Fits}
use Rattle.bb_units.specs.proving.Numbered.{Given}
use Rattle.bb_units.proofs.KindLemmas.{new_unit_fits, other_unit_fits}

-- units as the code keeps them, with their layout
abbrev pub with_layout : Layout → Given → Units
with_layout l g = record { next = g.next; units = g.units; layout = l }

abbrev pub FitsWith : Layout → Given → Type 0
FitsWith l g = Fits (with_layout l g)

pub none_fit : (l : Layout) → HoldsDefaults l → Fits (no_units l)
none_fit l holds = record {
  numbers = λ n live. absurd (let e : false ≡ true = sym (ap is_some (get-empty {X = Unit} nat_cmp n)) ∙ live in cc);
  begun = omega arith;
  last = omega arith;
  few = rw (len-empty nat_cmp Unit) (omega arith);
  defaults = holds;
  units = λ n x is. absurd (let e : None ≡ Some x = sym (get-empty {X = Unit} nat_cmp n) ∙ is in cc);
}

module _ (u : Units) (fits : Fits u) where
  at_new : (class n : ℕ) (x : Unit) (b : Bool) → class < length u.layout.slots → eq_by_cmp nat_cmp n u.next ≡ b → cond b (Some (new_unit u.layout class)) (get u.units n) ≡ Some x → IsUnitOf u.layout x
  at_new class n x true there same is = let e : new_unit u.layout class ≡ x = cc in subst (IsUnitOf u.layout) e (new_unit_fits u.layout class there fits.defaults)
  at_new class n x false there other is = fits.units n x is

  number_new : (class n : ℕ) (b : Bool) → eq_by_cmp nat_cmp n u.next ≡ b → is_some (cond b (Some (new_unit u.layout class)) (get u.units n)) ≡ true → (0 < n) × (n < u.next + 1)
  number_new class n true same live = let e = eq_by_cmp_same n u.next same in (omega (arith, e, fits.begun), omega (arith, e))
  number_new class n false other live = let p = fits.numbers n live in (p.0, omega (arith, p.1))

  not_live : (b : Bool) → contains_key u.units u.next ≡ b → b ≡ false
  not_live true live = absurd (omega (arith, (fits.numbers u.next live).1))
  not_live false e = refl

  pub next_is_new : contains_key u.units u.next ≡ false
  next_is_new = not_live (contains_key u.units u.next) refl

  pub created_fit : (class : ℕ) → class < length u.layout.slots → len u.units < UNIT_LIMIT → u.next < 2 ^ 63 → Fits (after_create u class)
  created_fit class there room number = record {
    numbers = λ n live. number_new class n (eq_by_cmp nat_cmp n u.next) refl (sym (ap is_some (get-insert nat_cmp_total u.units u.next (new_unit u.layout class) n)) ∙ live);
    begun = omega arith;
    last = omega (arith, number);
    few = rw (len-insert nat_cmp_total u.units u.next (new_unit u.layout class), next_is_new) (omega (arith, room));
    defaults = fits.defaults;
    units = λ n x is. at_new class n x (eq_by_cmp nat_cmp n u.next) there refl (sym (get-insert nat_cmp_total u.units u.next (new_unit u.layout class) n) ∙ is);
  }

  get_without : (n k : ℕ) (b : Bool) (x : Option Unit) → cond b None (get u.units n) ≡ x → is_some x ≡ true → get u.units n ≡ x
  get_without n k true x is live = absurd (let e : is_some x ≡ false = sym (ap is_some is) in let f : false ≡ true = sym e ∙ live in cc)
  get_without n k false x is live = is

  fewer : (b : Bool) → cond b (len u.units - 1) (len u.units) ≤ UNIT_LIMIT
  fewer true = omega (arith, fits.few)
  fewer false = fits.few

  pub deleted_fit : (k : ℕ) → Fits (after_delete u k)
  deleted_fit k = record {
    numbers = λ n live. fits.numbers n (ap is_some (get_without n k (eq_by_cmp nat_cmp n k) (get (remove u.units k) n) (sym (get-remove nat_cmp_total u.units k n)) live) ∙ live);
    begun = fits.begun;
    last = fits.last;
    few = rw (len-remove nat_cmp_total u.units k) (fewer (contains_key u.units k));
    defaults = fits.defaults;
    units = λ n x is. fits.units n x (get_without n k (eq_by_cmp nat_cmp n k) (get (remove u.units k) n) (sym (get-remove nat_cmp_total u.units k n)) (ap is_some is) ∙ is);
  }

  at_changed : (k n : ℕ) (y x : Unit) (b : Bool) → IsUnitOf u.layout y → eq_by_cmp nat_cmp n k ≡ b → cond b (Some y) (get u.units n) ≡ Some x → IsUnitOf u.layout x
  at_changed k n y x true well same is = let e : y ≡ x = cc in subst (IsUnitOf u.layout) e well
  at_changed k n y x false well other is = fits.units n x is

  number_changed : (k n : ℕ) (y x : Unit) (b : Bool) → get u.units k ≡ Some x → eq_by_cmp nat_cmp n k ≡ b → is_some (cond b (Some y) (get u.units n)) ≡ true → (0 < n) × (n < u.next)
  number_changed k n y x true there same live = fits.numbers n (ap (λ q. contains_key u.units q) (eq_by_cmp_same n k same) ∙ ap is_some there)
  number_changed k n y x false there other live = fits.numbers n live

  -- another unit in the place of one
  pub replaced_fit : (k : ℕ) (x y : Unit) → get u.units k ≡ Some x → IsUnitOf u.layout y → Fits (record { next = u.next; units = insert u.units k y; layout = u.layout })
  replaced_fit k x y there well = record {
    numbers = λ n live. number_changed k n y x (eq_by_cmp nat_cmp n k) there refl (sym (ap is_some (get-insert nat_cmp_total u.units k y n)) ∙ live);
    begun = fits.begun;
    last = fits.last;
    few = rw (len-insert nat_cmp_total u.units k y, there) fits.few;
    defaults = fits.defaults;
    units = λ n z is. at_changed k n y z (eq_by_cmp nat_cmp n k) well refl (sym (get-insert nat_cmp_total u.units k y n) ∙ is);
  }

  changed_at : (k slot : ℕ) (value : Value) (x : Option Unit) → get u.units k ≡ x → can_hold u.layout slot value ≡ true
      → Fits (record { next = u.next; units = option_map_or (λ y. insert u.units k (with_slot y slot value)) x u.units; layout = u.layout })
  changed_at k slot value None is held = fits
  changed_at k slot value (Some x) is held = replaced_fit k x (with_slot x slot value) is (other_unit_fits u.layout x slot value (fits.units k x is) held)

  pub updated_fit : (k slot : ℕ) (value : Value) → can_hold u.layout slot value ≡ true → Fits (after_set u k slot value)
  updated_fit k slot value held = changed_at k slot value (get u.units k) refl held
