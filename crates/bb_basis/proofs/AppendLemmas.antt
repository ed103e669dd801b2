-- An item at an index of a list, also where one more item is appended.
use Rattle.std.proofs.Common.{◌≡◌, ℕ, zero, suc, ◌<◌, ◌⊎◌, inl, inr, List, [], ◌∷◌, ◌++◌, length, Some, refl, ap, sym, ◌∙◌, arith}
use Rattle.std.specs.Prelude.{slice_get}
use Rattle.std.proofs.lemmas.Option.{slice_get_cases}

pub some_within : {X : Type 0} (xs : List X) (i : ℕ) (x : X) → slice_get xs i ≡ Some x → i < length xs
some_within xs i x h = elim (slice_get_cases xs i).1 [ inl there ↦ there.1 | inr past ↦ absurd (let e = sym past.1 ∙ h in cc) ]

pub there_is : {X : Type 0} (xs : List X) (i : ℕ) → i < length xs → (x : X) × (slice_get xs i ≡ Some x)
there_is xs i lt = elim (slice_get_cases xs i).1 [ inl there ↦ (there.0, there.2) | inr past ↦ absurd (omega (arith, past.0)) ]

pub snoc_cases : {X : Type 0} (xs : List X) (x : X) (i : ℕ) (y : X) → slice_get (xs ++ x ∷ []) i ≡ Some y → ((i < length xs) × (slice_get xs i ≡ Some y)) ⊎ ((i ≡ length xs) × (x ≡ y))
snoc_cases [] x zero y h = inr (refl, let e : x ≡ y = cc in e)
snoc_cases [] x (suc i) y h = absurd cc
snoc_cases (z ∷ xs) x zero y h = inl (omega arith, h)
snoc_cases (z ∷ xs) x (suc i) y h = elim (snoc_cases xs x i y h) [
  | inl old ↦ inl (omega (arith, old.0), old.1)
  | inr new ↦ inr (ap suc new.0, new.1)
]

pub snoc_old : {X : Type 0} (xs : List X) (x : X) (i : ℕ) → i < length xs → slice_get (xs ++ x ∷ []) i ≡ slice_get xs i
snoc_old [] x i lt = absurd (omega arith)
snoc_old (z ∷ xs) x zero lt = refl
snoc_old (z ∷ xs) x (suc i) lt = snoc_old xs x i (omega arith)

pub snoc_new : {X : Type 0} (xs : List X) (x : X) → slice_get (xs ++ x ∷ []) (length xs) ≡ Some x
snoc_new [] x = refl
snoc_new (z ∷ xs) x = snoc_new xs x
