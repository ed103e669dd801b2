-- Spaces without members, one more.
use Rattle.std.proofs.Common.{◌≡◌, ℕ, zero, suc, ◌+◌, ◌<◌, List, [], ◌∷◌, ◌++◌, map, take, length, refl, sym, ap, arith, add-one}

-- one blank more
pub blank_more : {A B : Type 0} (b : B) (xs : List A) (i : ℕ) → i < length xs → map (λ _. b) (take (suc i) xs) ≡ map (λ _. b) (take i xs) ++ b ∷ []
blank_more b [] i lt = absurd (omega (arith, lt))
blank_more b (x ∷ xs) zero lt = refl
blank_more b (x ∷ xs) (suc i) lt = ap (λ ys. b ∷ ys) (blank_more b xs i (omega (arith, lt)))

pub one_blank : {A B : Type 0} (b : B) (xs : List A) (i : ℕ) (made after : List B) → i < length xs → made ≡ map (λ _. b) (take i xs) → after ≡ made ++ b ∷ [] → after ≡ map (λ _. b) (take (i + 1) xs)
one_blank b xs i made after lt so_far is = rw (is, so_far, add-one) (sym (blank_more b xs i lt))
