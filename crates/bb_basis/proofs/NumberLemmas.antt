-- Numbers that are compared, by tests and by orders.
use Rattle.std.proofs.Common.{◌≡◌, ℕ, ◌+◌, ◌-◌, ◌<◌, ◌≤◌, true, false, refl, sym, arith, nat_lt}
use Rattle.std.specs.Prelude.{◌==◌}
use Rattle.std.specs.Ordering.{nat_cmp, is_eq, eq_by_cmp}
use Rattle.std.specs.Cmp.{Equal-is}
use Rattle.std.specs.FinMap.{nat_cmp-IsAntisymmetric}
use Rattle.std.proofs.lemmas.Bool.{false_from_ne_true, le-ltb, eq-eqb}
use Rattle.std.proofs.lemmas.Bool.Decides.{Decides-eqb, nat_tests}

pub differs : (c d : ℕ) → (c ≡ d → ⊥) → (c == d) ≡ false
differs c d other = false_from_ne_true (c == d) (λ e. other ((Decides-eqb c d).0 e))

pub differ_swapped : (c d : ℕ) → (d == c) ≡ false → (c == d) ≡ false
differ_swapped c d other = differs c d (λ e. let same : (d == c) ≡ true = (Decides-eqb d c).1 (sym e) in cc)

pub nat_lt_true : (n m : ℕ) → nat_lt n m ≡ true → n < m
nat_lt_true n m lt = grind (arith, nat_tests)

pub nat_lt_below : (n m : ℕ) → n < m → nat_lt n m ≡ true
nat_lt_below n m lt = grind (arith, nat_tests)

pub nat_cmp_itself : (n : ℕ) → is_eq (nat_cmp n n) ≡ true
nat_cmp_itself n = rw (le-ltb n n (omega arith), eq-eqb n n refl) refl

pub eq_by_cmp_same : (n m : ℕ) → eq_by_cmp nat_cmp n m ≡ true → n ≡ m
eq_by_cmp_same n m e = nat_cmp-IsAntisymmetric n m ((Equal-is (nat_cmp n m)).0 e)

pub one_less : (n : ℕ) → 1 ≤ n → n ≡ (n - 1) + 1
one_less n some = omega (arith, some)
