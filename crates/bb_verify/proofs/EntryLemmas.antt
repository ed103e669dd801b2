-- The locals before the first op.
use Rattle.std.proofs.Common.{◌≡◌, ℕ, ◌+◌, ◌-◌, ◌≤◌, ◌∷◌, set, replicate, ap, ◌∙◌, add-one, arith}
use Rattle.bb_basis.proofs.NumberLemmas.{one_less}
use Rattle.bb_code.specs.declared.frame.Kind.{Kind}
use Rattle.bb_code.specs.declared.frame.Kind.TheVariants as kinds

first_of : (n : ℕ) (k : Kind) → set (replicate (n + 1) kinds.Any) 0 k ≡ k ∷ replicate n kinds.Any
first_of n k = ap (λ m. set (replicate m kinds.Any) 0 k) (add-one n)

second_of : (n : ℕ) (k l : Kind) → set (k ∷ replicate (n + 1) kinds.Any) 1 l ≡ k ∷ l ∷ replicate n kinds.Any
second_of n k l = ap (λ m. set (k ∷ replicate m kinds.Any) 1 l) (add-one n)

pub first_set : (n : ℕ) (k : Kind) → 1 ≤ n → set (replicate n kinds.Any) 0 k ≡ k ∷ replicate (n - 1) kinds.Any
first_set n k some = ap (λ m. set (replicate m kinds.Any) 0 k) (one_less n some) ∙ first_of (n - 1) k

two_less : (n : ℕ) → 2 ≤ n → n - 1 ≡ (n - 2) + 1
two_less n some = omega (arith, some)

pub second_set : (n : ℕ) (k l : Kind) → 2 ≤ n → set (set (replicate n kinds.Any) 0 k) 1 l ≡ k ∷ l ∷ replicate (n - 2) kinds.Any
second_set n k l some =
    ap (λ ks. set ks 1 l) (first_set n k (omega (arith, some)))
    ∙ (ap (λ m. set (k ∷ replicate m kinds.Any) 1 l) (two_less n some) ∙ second_of (n - 2) k l)
