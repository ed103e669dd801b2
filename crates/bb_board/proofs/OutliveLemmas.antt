-- Units outlive each change of a blackboard.
use Rattle.std.proofs.Common.{◌≡◌, ℕ, ◌<◌, Bool, true, false, cond, Option, Some, None, option_map, refl, sym, ap, ◌∙◌, arith}
use Rattle.std.specs.Ordering.{nat_cmp, eq_by_cmp}
use Rattle.std.specs.Cmp.{nat_cmp_total, Equal-is}
use Rattle.std.specs.FinMap.{get, get-insert, get-remove, nat_cmp-IsAntisymmetric}
use Rattle.bb_schema_classes.specs.declared.value.Value.{Value}
use Rattle.bb_units.specs.declared.unit.Unit.{Unit}
use Rattle.bb_units.specs.Units.{Units, new_unit, after_create as with_new_unit, after_set as with_value, after_delete as without_unit}
use Rattle.bb_board.specs.Outlives.{Outlives}
use Rattle.bb_board.proofs.ClassLemmas.{same_class_of}

-- units that are as they were
pub outlives_same : (u : Units) → Outlives u u
outlives_same u = record { next = omega arith; classes = λ n class lt is. is }

-- units after changes, and after more changes
pub then_outlives : (a b c : Units) → Outlives a b → Outlives b c → Outlives a c
then_outlives a b c first next = record {
  next = omega (arith, first.next, next.next);
  classes = λ n class lt is. first.classes n class lt (next.classes n class (omega (arith, lt, first.next)) is);
}

created_by : (n next c : ℕ) (x : Unit) (b : Bool) (old : Option Unit) → eq_by_cmp nat_cmp n next ≡ b → n < next → option_map (λ y. y.class) (cond b (Some x) old) ≡ Some c → option_map (λ y. y.class) old ≡ Some c
created_by n next c x true old same lt is = absurd (let e = nat_cmp-IsAntisymmetric n next ((Equal-is (nat_cmp n next)).0 same) in omega (arith, e, lt))
created_by n next c x false old other lt is = is

-- units after one more
pub created_outlives : (u : Units) (class : ℕ) → Outlives u (with_new_unit u class)
created_outlives u class = record {
  next = omega arith;
  classes = λ n c lt is. created_by n u.next c (new_unit u.layout class) (eq_by_cmp nat_cmp n u.next) (get u.units n) refl lt (sym (ap (option_map (λ y. y.class)) (get-insert nat_cmp_total u.units u.next (new_unit u.layout class) n)) ∙ is);
}

-- units of which a slot was set
pub set_outlives : (u : Units) (n slot : ℕ) (value : Value) → Outlives u (with_value u n slot value)
set_outlives u n slot value = record { next = omega arith; classes = λ k c lt is. sym (same_class_of u n slot k value) ∙ is }

left_by : (c : ℕ) (b : Bool) (old : Option Unit) → option_map (λ x. x.class) (cond b None old) ≡ Some c → option_map (λ x. x.class) old ≡ Some c
left_by c true old is = absurd (let no : (let none : Option ℕ = None in none) ≡ Some c = is in cc)
left_by c false old is = is

-- units without one
pub deleted_outlives : (u : Units) (n : ℕ) → Outlives u (without_unit u n)
deleted_outlives u n = record {
  next = omega arith;
  classes = λ k c lt is. left_by c (eq_by_cmp nat_cmp k n) (get u.units k) (sym (ap (option_map (λ x. x.class)) (get-remove nat_cmp_total u.units n k)) ∙ is);
}
