-- The class and the values of a unit go by the unit alone.
use Rattle.std.proofs.Common.{◌≡◌, ℕ, false, Option, Some, None, option_map, refl, sym, ap}
use Rattle.std.specs.Prelude.{is_some, option_and_then}
use Rattle.std.specs.FinMap.{get}
use Rattle.bb_units.specs.declared.unit.Unit.{Unit}
use Rattle.bb_units.specs.Values.{value_at}
use Rattle.bb_units.specs.Units.{Units, is_live, class_of, value_of}

pub same_class : (u v : Units) (n : ℕ) → get v.units n ≡ get u.units n → class_of u n ≡ class_of v n
same_class u v n same = ap (option_map (λ (x : Unit). x.class)) (sym same)

pub same_value : (u v : Units) (n slot : ℕ) → get v.units n ≡ get u.units n → value_of u n slot ≡ value_of v n slot
same_value u v n slot same = ap (option_and_then (λ (x : Unit). value_at x.values slot)) (sym same)

none_live : (x : Option Unit) → is_some x ≡ false → option_map (λ (y : Unit). y.class) x ≡ None
none_live None none = refl
none_live (Some x) none = absurd cc

-- what is not live has no class
pub no_class : (u : Units) (n : ℕ) → is_live u n ≡ false → class_of u n ≡ None
no_class u n none = none_live (get u.units n) none
