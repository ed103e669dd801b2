-- What holds of each entry of a table and its place.
use Rattle.std.proofs.Common.{◌≡◌, ℕ, zero, suc, ◌+◌, List, [], ◌∷◌, Some, subst, arith}
use Rattle.std.specs.List.{slice_get}
use Rattle.std.proofs.lemmas.Option.{none-some, same_Some}

-- P holds of each entry, and its place from start on
abbrev pub EachAt : {A : Type 0} → (ℕ → A → Type 0) → ℕ → List A → Type 0
EachAt P start [] = Unit {0}
EachAt P start (x ∷ xs) = P start x × EachAt P (suc start) xs

entry_from : (A : Type 0) (P : ℕ → A → Type 0) (xs : List A) (start i n : ℕ) (a : A) → EachAt P start xs → slice_get xs i ≡ Some a → n ≡ start + i → P n a
entry_from A P [] start i n a each e is = absurd (none-some a e)
entry_from A P (x ∷ xs) start zero n a each e is =
    let place : start ≡ n = omega arith in
    subst (λ (k : ℕ). P k a) place (subst (P start) (same_Some x a e) each.0)
entry_from A P (x ∷ xs) start (suc i) n a each e is = entry_from A P xs (suc start) i n a each.1 e (omega arith)

pub entry_at : (A : Type 0) (P : ℕ → A → Type 0) (xs : List A) (i : ℕ) (a : A) → EachAt P 0 xs → slice_get xs i ≡ Some a → P i a
entry_at A P xs i a each e = entry_from A P xs 0 i i a each e (omega arith)
