-- Lists along which a number rises, with one item more or less.
use Rattle.std.proofs.Common.{◌≡◌, ℕ, zero, suc, ◌<◌, ◌==◌, Bool, true, false, not, cond, List, [], ◌∷◌, ◌++◌, map, filter, find, length, Some, refl, ap, arith, eq-eqb, ne_eqb}
use Rattle.std.specs.Prelude.{Contains}
use Rattle.std.specs.List.{AllByRecursion, list_any}
use Rattle.std.proofs.lemmas.Bool.{or_parts}
use Rattle.bb_agenda.specs.Fits.{RisesBy}
use Rattle.bb_agenda.specs.proving.Lists.{Rising}
use Rattle.bb_agenda.proofs.ChosenLemmas.{contained_holds, each_more}

-- ---- what holds of each

module _ {X : Type 0} (P : X → Type 0) where
  pub each_filter : (p : X → Bool) (xs : List X) → AllByRecursion P xs → AllByRecursion P (filter p xs)
  each_filter p [] all = tt
  each_filter p (x ∷ xs) all = at (p x) (each_filter p xs all.1)
    where
      at : (b : Bool) → AllByRecursion P (filter p xs) → AllByRecursion P (cond b (x ∷ filter p xs) (filter p xs))
      at true later = (all.0, later)
      at false later = later

pub each_map : {X Y : Type 0} (P : Y → Type 0) (f : X → Y) (xs : List X) → AllByRecursion (λ x. P (f x)) xs → AllByRecursion P (map f xs)
each_map P f [] all = tt
each_map P f (x ∷ xs) all = (all.0, each_map P f xs all.1)

-- ---- a list along which a number rises

module _ {X : Type 0} (key : X → ℕ) where
  pub rising_map : (xs : List X) → RisesBy key xs → Rising (map key xs)
  rising_map [] rising = tt
  rising_map (x ∷ xs) rising = (each_map (λ m. key x < m) key xs rising.0, rising_map xs rising.1)

  pub rising_same : (f : X → X) → ((x : X) → key (f x) ≡ key x) → (xs : List X) → RisesBy key xs → RisesBy key (map f xs)
  rising_same f same [] rising = tt
  rising_same f same (x ∷ xs) rising = (each_map (λ y. key (f x) < key y) f xs (each_same xs rising.0), rising_same f same xs rising.1)
    where
      each_same : (ys : List X) → AllByRecursion (λ y. key x < key y) ys → AllByRecursion (λ y. key (f x) < key (f y)) ys
      each_same [] all = tt
      each_same (y ∷ ys) all = (rw (same x, same y) all.0, each_same ys all.1)

  pub rising_filter : (p : X → Bool) (xs : List X) → RisesBy key xs → RisesBy key (filter p xs)
  rising_filter p [] rising = tt
  rising_filter p (x ∷ xs) rising = at (p x) (rising_filter p xs rising.1)
    where
      at : (b : Bool) → RisesBy key (filter p xs) → RisesBy key (cond b (x ∷ filter p xs) (filter p xs))
      at true later = (each_filter (λ y. key x < key y) p xs rising.0, later)
      at false later = later

  pub rising_put : (xs : List X) (a : X) → RisesBy key xs → AllByRecursion (λ x. key x < key a) xs → RisesBy key (xs ++ a ∷ [])
  rising_put [] a rising below = (tt, tt)
  rising_put (x ∷ xs) a rising below = (each_more (λ y. key x < key y) xs a rising.0 below.0, rising_put xs a rising.1 below.1)

  -- ---- a number that none has

  pub above_absent : (n : ℕ) (xs : List X) → AllByRecursion (λ x. n < key x) xs → list_any (λ x. key x == n) xs ≡ false
  above_absent n [] above = refl
  above_absent n (x ∷ xs) above =
      let lt : n < key x = above.0 in
      rw (ne_eqb (key x) n (λ same. omega (arith, lt, same))) (above_absent n xs above.1)

  pub without_absent : (n : ℕ) (xs : List X) → list_any (λ x. key x == n) xs ≡ false → filter (λ x. not (key x == n)) xs ≡ xs
  without_absent n [] none = refl
  without_absent n (x ∷ xs) none =
      let parts = or_parts (key x == n) (list_any (λ y. key y == n) xs) none in
      rw parts.0 (ap (λ ys. x ∷ ys) (without_absent n xs parts.1))

  pub found_contained : (xs : List X) (a : X) → RisesBy key xs → Contains xs a → find (λ x. key x == key a) xs ≡ Some a
  found_contained [] a rising (k, lt, is) = absurd (omega (arith, lt))
  found_contained (x ∷ xs) a rising (zero, lt, is) = rw (eq-eqb (key x) (key a) (ap key is)) (ap (λ y. Some y) is)
  found_contained (x ∷ xs) a rising (suc k, lt, is) =
      let within : k < length xs = omega (arith, lt) in
      let below : key x < key a = contained_holds (λ y. key x < key y) xs a rising.0 (k, within, is) in
      rw (ne_eqb (key x) (key a) (λ same. omega (arith, below, same))) (found_contained xs a rising.1 (k, within, is))
