-- Units with one more: those that were stay as they were, and the new one is of its class.
use Rattle.std.proofs.Common.{◌≡◌, ℕ, ◌<◌, ◌^◌, Bool, true, false, cond, length, Option, Some, option_map, refl, sym, ap, ◌∙◌, arith}
use Rattle.std.specs.Prelude.{nat_le, slice_get}
use Rattle.std.specs.Ordering.{nat_cmp, eq_by_cmp}
use Rattle.std.specs.Cmp.{nat_cmp_total, eq_by_cmp_equiv, Equal-is}
use Rattle.std.specs.FinMap.{get, get-insert, len, nat_cmp-IsAntisymmetric}
use Rattle.std.proofs.lemmas.Bool.{or_parts, leb-false}
use Rattle.std.proofs.lemmas.List.{length-map}
use Rattle.std.proofs.lemmas.Option.{slice_get_within}
use Rattle.bb_schema_classes.specs.declared.class.Class.{Class}
use Rattle.bb_schema_classes.specs.Inheritance.{itself}
use Rattle.bb_schema_classes.proofs.Laws.{descends_complete}
use Rattle.bb_schema.specs.Schema.{Schema}
use Rattle.bb_schema.specs.Fits as schemas
use Rattle.bb_units.specs.declared.unit.Unit.{Unit as OneUnit}
use Rattle.bb_units.specs.declared.units.TheConstants.{UNIT_LIMIT}
use Rattle.bb_units.specs.Layout.{Layout}
use Rattle.bb_units.specs.Units.{Units, class_of, is_full, new_unit, after_create as with_new_unit}
use Rattle.bb_units.specs.Fits as units
use Rattle.bb_units.proofs.Laws.{created_fit}
use Rattle.bb_board.specs.State.{World}
use Rattle.bb_board.specs.World.{after_create}
use Rattle.bb_board.specs.Fits.{Fits}
use Rattle.bb_board.specs.Outlives.{Outlives}
use Rattle.bb_board.proofs.Laws.{create_keeps}
use Rattle.bb_theorem_machine.specs.Kinds.{IsOf}
use Rattle.bb_theorem_machine.proofs.LiveLemmas.{live_by}
use Rattle.bb_theorem_machine.proofs.changing.OutliveLemmas.{Persists}

-- ---- those that were

was_by : (n next c : ℕ) (x : OneUnit) (b : Bool) (old : Option OneUnit) → eq_by_cmp nat_cmp n next ≡ b → n < next → option_map (λ y. y.class) (cond b (Some x) old) ≡ Some c → option_map (λ y. y.class) old ≡ Some c
was_by n next c x true old same lt is = absurd (let e = nat_cmp-IsAntisymmetric n next ((Equal-is (nat_cmp n next)).0 same) in omega (arith, e, lt))
was_by n next c x false old other lt is = is

pub created_outlives : (u : Units) (class : ℕ) → Outlives u (with_new_unit u class)
created_outlives u class = record {
  next = omega arith;
  classes = λ n c lt is.
      was_by n u.next c (new_unit u.layout class) (eq_by_cmp nat_cmp n u.next) (get u.units n) refl lt
      (sym (ap (option_map (λ y. y.class)) (get-insert nat_cmp_total u.units u.next (new_unit u.layout class) n)) ∙ is);
}

stays_by : (u : Units) (n c : ℕ) (x : OneUnit) (b : Bool) → units.Fits u → eq_by_cmp nat_cmp n u.next ≡ b → class_of u n ≡ Some c → option_map (λ y. y.class) (cond b (Some x) (get u.units n)) ≡ Some c
stays_by u n c x true fits same is =
    let e = nat_cmp-IsAntisymmetric n u.next ((Equal-is (nat_cmp n u.next)).0 same) in
    absurd (omega (arith, e, (fits.numbers n (live_by (get u.units n) c is)).1))
stays_by u n c x false fits other is = is

pub created_persists : (u : Units) (class : ℕ) → units.Fits u → Persists u (with_new_unit u class)
created_persists u class fits n c is =
    ap (option_map (λ y. y.class)) (get-insert nat_cmp_total u.units u.next (new_unit u.layout class) n)
    ∙ stays_by u n c (new_unit u.layout class) (eq_by_cmp nat_cmp n u.next) fits refl is

-- ---- the new one

new_by : (l : Layout) (class next : ℕ) (b : Bool) (old : Option OneUnit) → eq_by_cmp nat_cmp next next ≡ b → option_map (λ y. y.class) (cond b (Some (new_unit l class)) old) ≡ Some class
new_by l class next true old is = refl
new_by l class next false old is = absurd (let e : true ≡ false = sym ((eq_by_cmp_equiv nat_cmp_total).refl next) ∙ is in cc)

new_class : (u : Units) (class : ℕ) → class_of (with_new_unit u class) u.next ≡ Some class
new_class u class =
    ap (option_map (λ y. y.class)) (get-insert nat_cmp_total u.units u.next (new_unit u.layout class) u.next)
    ∙ new_by u.layout class u.next (eq_by_cmp nat_cmp u.next u.next) (get u.units u.next) refl

module _ (s : Schema) (w : World) (class : ℕ) where
  pub new_is_of : schemas.Fits s → IsOf s (after_create w class) class w.units.next
  new_is_of sf = record { own = class; is = new_class w.units class; under = descends_complete s.classes sf.parents class class (itself class) }

  -- there is room for one more
  has_place : is_full w.units ≡ false → (len w.units.units < UNIT_LIMIT) × (w.units.next < 2 ^ 63)
  has_place free =
      let parts = or_parts (nat_le UNIT_LIMIT (len w.units.units)) (nat_le (2 ^ 63) w.units.next) free in
      (leb-false UNIT_LIMIT (len w.units.units) parts.0, leb-false (2 ^ 63) w.units.next parts.1)

  pub created_keeps : (entry : Class) → Fits s w → slice_get s.classes class ≡ Some entry → is_full w.units ≡ false → Fits s (after_create w class)
  created_keeps entry fits there free =
      let within : class < length s.classes = slice_get_within s.classes class entry there in
      let count = ap (λ (l : Layout). length l.slots) fits.layout in
      let place = has_place free in
      create_keeps s w class fits (created_fit w.units fits.units class (omega (arith, within, count, length-map s.classes (λ (k : Class). k.slots))) place.0 place.1) within
