-- Lists whose items all pass a test, and the limits of numbers.
use Rattle.std.proofs.Common.{◌≡◌, ℕ, zero, suc, ◌≤◌, ◌<◌, Bool, true, List, [], ◌∷◌, ◌++◌, Some, refl, ap, ◌∙◌, arith}
use Rattle.std.specs.Prelude.{set, slice_get}
use Rattle.std.specs.List.{list_all}
use Rattle.std.proofs.lemmas.Bool.{lt-ltb, and_from}
use Rattle.bb_basis.proofs.BoolLemmas.{and_first, and_second}
use Rattle.bb_compile_buffer.specs.Within.{byte, two_bytes}

module _ {X : Type 0} (p : X → Bool) where
  pub all_more : (xs : List X) (x : X) → list_all p xs ≡ true → p x ≡ true → list_all p (xs ++ x ∷ []) ≡ true
  all_more [] x h last = and_from (p x) true last refl
  all_more (y ∷ ys) x h last =
      and_from (p y) (list_all p (ys ++ x ∷ [])) (and_first (p y) (list_all p ys) h) (all_more ys x (and_second (p y) (list_all p ys) h) last)

  pub all_set : (xs : List X) (i : ℕ) (x : X) → list_all p xs ≡ true → p x ≡ true → list_all p (set xs i x) ≡ true
  all_set [] i x h now = h
  all_set (y ∷ ys) zero x h now = and_from (p x) (list_all p ys) now (and_second (p y) (list_all p ys) h)
  all_set (y ∷ ys) (suc i) x h now =
      and_from (p y) (list_all p (set ys i x)) (and_first (p y) (list_all p ys) h) (all_set ys i x (and_second (p y) (list_all p ys) h) now)

  pub all_at : (xs : List X) (i : ℕ) (x : X) → list_all p xs ≡ true → slice_get xs i ≡ Some x → p x ≡ true
  all_at [] i x h at = absurd cc
  all_at (y ∷ ys) zero x h at = let e : x ≡ y = cc in ap p e ∙ and_first (p y) (list_all p ys) h
  all_at (y ∷ ys) (suc i) x h at = all_at ys i x (and_second (p y) (list_all p ys) h) at

pub byte_within : (n limit : ℕ) → n < limit → limit ≤ 256 → byte n ≡ true
byte_within n limit lt few = lt-ltb n 256 (omega (arith, lt, few))

pub bytes_within : (n limit : ℕ) → n < limit → limit ≤ 65536 → two_bytes n ≡ true
bytes_within n limit lt few = lt-ltb n 65536 (omega (arith, lt, few))
