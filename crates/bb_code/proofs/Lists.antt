-- The laws of a list of fields.
use Rattle.std.proofs.Common.{◌≡◌, ℕ, zero, suc, ◌^◌, ◌<◌, ◌≤◌, List, [], ◌∷◌, ◌++◌, length, Ok, refl, sym, ap, subst, ◌∙◌, append_assoc, arith}
use Rattle.std.specs.List.{flat_map, AllByRecursion}
use Rattle.std.proofs.lemmas.List.Concat.{flat_map-cons}
use Rattle.bb_code.specs.Spelling.{two_bytes, listed, short_listed}
use Rattle.bb_basis.specs.Results.{◌>>=◌}
use Rattle.bb_code.specs.Fields.{Field, count_at, short_count_at, repeated, list_at, short_list_at}
use Rattle.bb_basis.proofs.ResultLemmas.{bind_ok, same_ok}
use Rattle.bb_code.proofs.Fields.{IsBytes, Takes, Takes-then, IsSpelled, single, count_spelled, short_count_spelled}

-- from low to high many values, which fit
pub record AreListed (A : Type 0) (Fits : A → Type 0) (low high : ℕ) (xs : List A) : Type 0 where
  pub enough : low ≤ length xs
  pub few : length xs ≤ high
  pub each : AllByRecursion Fits xs

module _ (A : Type 0) (field : Field A) (bytes_of : A → List ℕ) (Fits : A → Type 0) (spelled : IsSpelled A field bytes_of Fits) where
  -- n values that fit, and their bytes
  abbrev pub AreTaken : ℕ → List ℕ → List A × List ℕ → Type 0
  AreTaken n bytes x = Takes bytes (flat_map bytes_of x.0) x.1 × (length x.0 ≡ n) × AllByRecursion Fits x.0

  pub repeated_takes : (n : ℕ) (bytes : List ℕ) (x : List A × List ℕ) → IsBytes bytes → repeated field n bytes ≡ Ok x → AreTaken n bytes x
  unfolding repeated
  repeated_takes zero bytes x fits e =
      subst (AreTaken 0 bytes) (same_ok ([], bytes) x e) (record { parts = refl; rest_fits = fits }, refl, tt)
  repeated_takes (suc n) bytes x fits e =
      let a = bind_ok (field bytes) (λ first. repeated field n first.1 >>= λ others. Ok (first.0 ∷ others.0, others.1)) x e in
      let b = bind_ok (repeated field n a.0.1) (λ others. Ok (a.0.0 ∷ others.0, others.1)) x a.2 in
      let first = spelled.takes bytes a.0 fits a.1 in
      let others = repeated_takes n a.0.1 b.0 first.0.rest_fits b.1 in
      let both = Takes-then bytes (bytes_of a.0.0) a.0.1 (flat_map bytes_of b.0.0) b.0.1 first.0 others.0 in
      let made : List A × List ℕ = (a.0.0 ∷ b.0.0, b.0.1) in
      subst (AreTaken (suc n) bytes) (same_ok made x b.2) (rw flat_map-cons both, ap suc others.1, (first.1, others.2))

  pub repeated_again : (xs : List A) (rest : List ℕ) → AllByRecursion Fits xs → repeated field (length xs) (flat_map bytes_of xs ++ rest) ≡ Ok (xs, rest)
  unfolding repeated
  repeated_again [] rest fits = refl
  repeated_again (x ∷ xs) rest fits =
      let regrouped : flat_map bytes_of (x ∷ xs) ++ rest ≡ bytes_of x ++ (flat_map bytes_of xs ++ rest) = ap (λ (t : List ℕ). t ++ rest) (flat_map-cons bytes_of x xs) ∙ append_assoc (bytes_of x) (flat_map bytes_of xs) rest in
      ap (repeated field (suc (length xs))) regrouped
      ∙ rw (spelled.again x (flat_map bytes_of xs ++ rest) fits.0, repeated_again xs rest fits.1) refl

  list_takes : (low high : ℕ) → high < 2 ^ 16 → (bytes : List ℕ) (x : List A × List ℕ) → IsBytes bytes → list_at low high field bytes ≡ Ok x → Takes bytes (listed bytes_of x.0) x.1 × AreListed A Fits low high x.0
  unfolding list_at
  list_takes low high small bytes x fits e =
      let n = bind_ok (count_at low high bytes) (λ n. repeated field n.0 n.1) x e in
      let count = (count_spelled low high small).takes bytes n.0 fits n.1 in
      let items = repeated_takes n.0.0 n.0.1 x count.0.rest_fits n.2 in
      let both = Takes-then bytes (two_bytes n.0.0) n.0.1 (flat_map bytes_of x.0) x.1 count.0 items.0 in (
        subst (λ (k : ℕ). Takes bytes (two_bytes k ++ flat_map bytes_of x.0) x.1) (sym items.1) both,
        record { enough = omega (arith, items.1, count.1.0); few = omega (arith, items.1, count.1.1); each = items.2 },
      )

  list_again : (low high : ℕ) → high < 2 ^ 16 → (xs : List A) (rest : List ℕ) → AreListed A Fits low high xs → list_at low high field (listed bytes_of xs ++ rest) ≡ Ok (xs, rest)
  unfolding list_at
  list_again low high small xs rest fits =
      let regrouped : listed bytes_of xs ++ rest ≡ two_bytes (length xs) ++ (flat_map bytes_of xs ++ rest) = append_assoc (two_bytes (length xs)) (flat_map bytes_of xs) rest in
      ap (list_at low high field) regrouped
      ∙ rw ((count_spelled low high small).again (length xs) (flat_map bytes_of xs ++ rest) (fits.enough, fits.few), repeated_again xs rest fits.each) refl

  -- a list is a field whose values are lists
  pub list_spelled : (low high : ℕ) → high < 2 ^ 16 → IsSpelled (List A) (list_at low high field) (listed bytes_of) (AreListed A Fits low high)
  list_spelled low high small = record { takes = list_takes low high small; again = list_again low high small }

  short_list_takes : (high : ℕ) → high < 256 → (bytes : List ℕ) (x : List A × List ℕ) → IsBytes bytes → short_list_at high field bytes ≡ Ok x → Takes bytes (short_listed bytes_of x.0) x.1 × AreListed A Fits 0 high x.0
  unfolding short_list_at
  short_list_takes high small bytes x fits e =
      let n = bind_ok (short_count_at 0 high bytes) (λ n. repeated field n.0 n.1) x e in
      let count = (short_count_spelled 0 high small).takes bytes n.0 fits n.1 in
      let items = repeated_takes n.0.0 n.0.1 x count.0.rest_fits n.2 in
      let both = Takes-then bytes (single n.0.0) n.0.1 (flat_map bytes_of x.0) x.1 count.0 items.0 in (
        subst (λ (k : ℕ). Takes bytes (single k ++ flat_map bytes_of x.0) x.1) (sym items.1) both,
        record { enough = omega arith; few = omega (arith, items.1, count.1.1); each = items.2 },
      )

  short_list_again : (high : ℕ) → high < 256 → (xs : List A) (rest : List ℕ) → AreListed A Fits 0 high xs → short_list_at high field (short_listed bytes_of xs ++ rest) ≡ Ok (xs, rest)
  unfolding short_list_at
  short_list_again high small xs rest fits =
      rw ((short_count_spelled 0 high small).again (length xs) (flat_map bytes_of xs ++ rest) (fits.enough, fits.few)) (repeated_again xs rest fits.each)

  pub short_list_spelled : (high : ℕ) → high < 256 → IsSpelled (List A) (short_list_at high field) (short_listed bytes_of) (AreListed A Fits 0 high)
  short_list_spelled high small = record { takes = short_list_takes high small; again = short_list_again high small }
