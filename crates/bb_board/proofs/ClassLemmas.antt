-- The classes of units where a slot is set.
use Rattle.std.proofs.Common.{◌≡◌, ℕ, Bool, true, false, cond, Option, Some, None, option_map, refl, sym, ap, ◌∙◌}
use Rattle.std.specs.Option.{option_map_or}
use Rattle.std.specs.Ordering.{nat_cmp, eq_by_cmp}
use Rattle.std.specs.Cmp.{nat_cmp_total, Equal-is}
use Rattle.std.specs.FinMap.{FinMap, get, insert, get-insert, nat_cmp-IsAntisymmetric}
use Rattle.bb_schema_classes.specs.declared.value.Value.{Value}
use Rattle.bb_units.specs.declared.unit.Unit.{Unit}
use Rattle.bb_units.specs.Units.{Units, class_of, with_slot, after_set as with_value}

-- a unit keeps its class where a slot of it is set
set_at : (m : FinMap nat_cmp Unit) (n slot k : ℕ) (value : Value) (x : Unit) (b : Bool) → eq_by_cmp nat_cmp k n ≡ b → get m n ≡ Some x
    → option_map (λ y. y.class) (cond b (Some (with_slot x slot value)) (get m k)) ≡ option_map (λ y. y.class) (get m k)
set_at m n slot k value x true same is = let e = nat_cmp-IsAntisymmetric k n ((Equal-is (nat_cmp k n)).0 same) in sym (ap (λ i. option_map (λ y. y.class) (get m i)) e ∙ ap (option_map (λ y. y.class)) is)
set_at m n slot k value x false other is = refl

set_class : (m : FinMap nat_cmp Unit) (n slot k : ℕ) (value : Value) (found : Option Unit) → get m n ≡ found
    → option_map (λ y. y.class) (get (option_map_or (λ x. insert m n (with_slot x slot value)) found m) k) ≡ option_map (λ y. y.class) (get m k)
set_class m n slot k value None is = refl
set_class m n slot k value (Some x) is = ap (option_map (λ y. y.class)) (get-insert nat_cmp_total m n (with_slot x slot value) k) ∙ set_at m n slot k value x (eq_by_cmp nat_cmp k n) refl is

pub same_class_of : (u : Units) (n slot k : ℕ) (value : Value) → class_of (with_value u n slot value) k ≡ class_of u k
same_class_of u n slot k value = set_class u.units n slot k value (get u.units n) refl
