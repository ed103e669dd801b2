-- Units that are live, and those that were.
use Rattle.std.proofs.Common.{◌≡◌, ℕ, ◌<◌, Bool, true, false, ◌&&◌, Option, Some, None, option_map, refl, sym, ap, ◌∙◌, arith}
use Rattle.std.specs.Prelude.{◌==◌, ◌||◌, nat_lt, is_some, unwrap_or}
use Rattle.std.specs.Option.{option_map_or}
use Rattle.std.specs.FinMap.{get}
use Rattle.std.proofs.lemmas.Bool.Decides.{nat_tests}
use Rattle.bb_basis.proofs.NumberLemmas.{nat_lt_below}
use Rattle.bb_basis.proofs.BoolLemmas.{or_right_and}
use Rattle.bb_schema.specs.Schema.{Schema, descends}
use Rattle.bb_units.specs.declared.unit.Unit.{Unit as OneUnit}
use Rattle.bb_units.specs.Units.{is_live, class_of}
use Rattle.bb_units.specs.Fits as units
use Rattle.bb_board.specs.State.{World}
use Rattle.bb_board.specs.World.{class_at}
use Rattle.bb_board.specs.May.{was}
use Rattle.bb_theorem_machine.specs.Kinds.{IsOf, WasOf}

pub live_by : (found : Option OneUnit) (c : ℕ) → option_map (λ y. y.class) found ≡ Some c → is_some found ≡ true
live_by None c is = absurd cc
live_by (Some x) c is = refl

class_by : (found : Option OneUnit) → is_some found ≡ true → (c : ℕ) × (option_map (λ y. y.class) found ≡ Some c)
class_by None live = absurd cc
class_by (Some x) live = (x.class, refl)

no_unit : (n : ℕ) → 0 < n → (n == 0) ≡ false
no_unit n some = grind (arith, nat_tests)

last_part : (none given a : Bool) → none ≡ false → (none || (given && a)) ≡ true → a ≡ true
last_part true given a is all = absurd cc
last_part false true a is all = all
last_part false false a is all = absurd cc

module _ (s : Schema) (w : World) (uf : units.Fits w.units) where
  pub is_live_of : (class n : ℕ) → IsOf s w class n → is_live w.units n ≡ true
  is_live_of class n h = live_by (get w.units.units n) h.own h.is

  pub class_at_of : (class n : ℕ) (h : IsOf s w class n) → class_at w n ≡ h.own
  class_at_of class n h = ap (λ (o : Option ℕ). unwrap_or o 0) h.is

  pub was_of : (class n : ℕ) → IsOf s w class n → WasOf s w class n
  was_of class n h =
      let out = (uf.numbers n (is_live_of class n h)).1 in
      or_right_and (n == 0) (nat_lt n w.units.next) (option_map_or (λ c. descends s c class) (class_of w.units n) true)
      (nat_lt_below n w.units.next out) (ap (λ (o : Option ℕ). option_map_or (λ c. descends s c class) o true) h.is ∙ h.under)

  -- a live unit is still of the class that it was
  pub of_live : (class n : ℕ) → is_live w.units n ≡ true → WasOf s w class n → IsOf s w class n
  of_live class n live was =
      let own = class_by (get w.units.units n) live in
      let some = (uf.numbers n live).0 in
      let under = last_part (n == 0) (nat_lt n w.units.next) (option_map_or (λ c. descends s c class) (class_of w.units n) true) (no_unit n some) was in
      record { own = own.0; is = own.1; under = sym (ap (λ (o : Option ℕ). option_map_or (λ c. descends s c class) o true) own.1) ∙ under }
