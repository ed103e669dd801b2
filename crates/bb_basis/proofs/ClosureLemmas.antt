-- What is reached step by step is a least set: it has its first number, is closed, and lies in each set that is so.
use Rattle.std.proofs.Common.{◌≡◌, ℕ, zero, suc, ◌+◌, ◌<◌, ◌≤◌, ◌||◌, ◌&&◌, Bool, true, false, cond, inl, inr, List, [], ◌∷◌, filter, length, refl, sym, ap, subst, ◌∙◌, arith}
use Rattle.std.specs.Prelude.{◌==◌, ◌⊎◌}
use Rattle.std.specs.List.{list_any}
use Rattle.std.specs.Fn.{iterate}
use Rattle.std.specs.List.Sorted.{IsStrictlyIncreasing}
use Rattle.std.proofs.lemmas.Bool.{eq-eqb}
use Rattle.std.proofs.lemmas.Bool.Decides.{Decides-eqb}
use Rattle.std.proofs.lemmas.Map.Views.{any-filter_same}
use Rattle.std.proofs.lemmas.List.Kept.{IsStrictlyIncreasing-filter}
use Rattle.bb_basis.proofs.BoolLemmas.{or_true, and_first, and_second}
use Rattle.bb_basis.specs.Closure.{is_reached, grown, closure}

-- ---- whether a number is in a list

abbrev pub has : List ℕ → ℕ → Bool
has found n = list_any (λ m. m == n) found

pub has_filter : (p : ℕ → Bool) (xs : List ℕ) (n : ℕ) → has (filter p xs) n ≡ (p n && has xs n)
has_filter p xs n = any-filter_same (λ m. m == n) p (p n) (λ k e. ap p ((Decides-eqb k n).0 e)) xs

and_both : (a b : Bool) → a ≡ true → b ≡ true → (a && b) ≡ true
and_both true b e f = f
and_both false b e f = absurd cc

or_implied : (a b u v : Bool) → (a ≡ true → b ≡ true) → (u ≡ true → v ≡ true) → (a || u) ≡ true → (b || v) ≡ true
or_implied true true u v h k any = refl
or_implied true false u v h k any = let e = h refl in absurd cc
or_implied false true u v h k any = refl
or_implied false false u v h k any = k any

any_implied : (p q : ℕ → Bool) → ((n : ℕ) → p n ≡ true → q n ≡ true) → (xs : List ℕ) → list_any p xs ≡ true → list_any q xs ≡ true
any_implied p q h [] any = absurd cc
any_implied p q h (x ∷ xs) any = or_implied (p x) (q x) (list_any p xs) (list_any q xs) (h x) (any_implied p q h xs) any

either : (a b : Bool) → (a || b) ≡ true → (a ≡ true) ⊎ (b ≡ true)
either true b any = inl refl
either false b any = inr any

split_by : (a b u v rest : Bool) → (rest ≡ true → (u ≡ true) ⊎ (v ≡ true)) → ((a || b) || rest) ≡ true → ((a || u) ≡ true) ⊎ ((b || v) ≡ true)
split_by true b u v rest h any = inl refl
split_by false true u v rest h any = inr refl
split_by false false u v rest h any = h any

any_split : (p q : ℕ → Bool) (xs : List ℕ) → list_any (λ m. p m || q m) xs ≡ true → (list_any p xs ≡ true) ⊎ (list_any q xs ≡ true)
any_split p q [] any = absurd cc
any_split p q (x ∷ xs) any = split_by (p x) (q x) (list_any p xs) (list_any q xs) (list_any (λ m. p m || q m) xs) (any_split p q xs) any

-- ---- one list of those of all that pass: it is the same as another that passes more, or shorter

grows_by : (x : ℕ) (b c : Bool) (fewer more : List ℕ) → (b ≡ true → c ≡ true) → (fewer ≡ more) ⊎ (length fewer < length more)
    → (cond b (x ∷ fewer) fewer ≡ cond c (x ∷ more) more) ⊎ (length (cond b (x ∷ fewer) fewer) < length (cond c (x ∷ more) more))
grows_by x true true fewer more h (inl e) = inl (ap (λ xs. x ∷ xs) e)
grows_by x true true fewer more h (inr lt) = inr (omega (arith, lt))
grows_by x true false fewer more h k = let e = h refl in absurd cc
grows_by x false true fewer more h (inl e) = inr (omega (arith, ap length e))
grows_by x false true fewer more h (inr lt) = inr (omega (arith, lt))
grows_by x false false fewer more h k = k

filter_grows : (p q : ℕ → Bool) (xs : List ℕ) → ((n : ℕ) → has xs n ≡ true → p n ≡ true → q n ≡ true)
    → (filter p xs ≡ filter q xs) ⊎ (length (filter p xs) < length (filter q xs))
filter_grows p q [] h = inl refl
filter_grows p q (x ∷ xs) h =
    grows_by x (p x) (q x) (filter p xs) (filter q xs) (h x (rw (eq-eqb x x refl) refl))
    (filter_grows p q xs (λ n there. h n (let e = there in rw (there, or_true (x == n)) refl)))

short_by : (x : ℕ) (b : Bool) (xs ys : List ℕ) → length xs ≤ length ys → length (cond b (x ∷ xs) xs) ≤ length ys + 1
short_by x true xs ys le = omega (arith, le)
short_by x false xs ys le = omega (arith, le)

filter_short : (p : ℕ → Bool) (xs : List ℕ) → length (filter p xs) ≤ length xs
filter_short p [] = omega arith
filter_short p (x ∷ xs) = let le = short_by x (p x) (filter p xs) xs (filter_short p xs) in omega (arith, le)

-- ---- a step

module _ (leads : ℕ → ℕ → Bool) (all : List ℕ) where
  found_is_reached : (found : List ℕ) (n : ℕ) → has found n ≡ true → is_reached leads found n ≡ true
  found_is_reached found n there = any_implied (λ m. m == n) (λ m. m == n || leads m n) (λ m e. rw (e) refl) found there

  pub reaches : (found : List ℕ) (m n : ℕ) → has found m ≡ true → leads m n ≡ true → is_reached leads found n ≡ true
  reaches found m n there led =
      any_implied (λ k. k == m) (λ k. k == n || leads k n) (λ k e. let same : k ≡ m = (Decides-eqb k m).0 e in rw (ap (λ j. leads j n) same ∙ led, or_true (k == n)) refl) found there

  -- a list is those of all that pass some test
  record IsPart (found : List ℕ) : Type 0 where
    test : ℕ → Bool
    is : found ≡ filter test all

  abbrev steps : List ℕ → List ℕ
  steps found = grown leads all found

  part_grows : (found : List ℕ) → IsPart found → (found ≡ steps found) ⊎ (length found < length (steps found))
  part_grows found part = subst (λ f. (f ≡ steps found) ⊎ (length f < length (steps found))) (sym part.is)
      (filter_grows part.test (is_reached leads found) all (λ n there passes. found_is_reached found n
      (ap (λ f. has f n) part.is ∙ has_filter part.test all n ∙ and_both (part.test n) (has all n) passes there)))

  grown_part : (found : List ℕ) → IsPart (steps found)
  grown_part found = record { test = is_reached leads found; is = refl }

  -- so many steps found as many numbers, or no step finds more
  abbrev IsAhead : ℕ → List ℕ → Type 0
  IsAhead k found = (found ≡ steps found) ⊎ (k ≤ length found)

  ahead_by : (k : ℕ) (found : List ℕ) → IsAhead k found → (found ≡ steps found) ⊎ (length found < length (steps found)) → IsAhead (k + 1) (steps found)
  ahead_by k found (inl same) h = inl (ap steps same)
  ahead_by k found (inr le) (inl same) = inl (ap steps same)
  ahead_by k found (inr le) (inr lt) = inr (omega (arith, le, lt))

  run_ahead : (n k : ℕ) (found : List ℕ) → IsPart found → IsAhead k found → IsAhead (k + n) (iterate steps n found)
  run_ahead zero k found part ahead = subst (λ m. IsAhead m found) (omega arith) ahead
  run_ahead (suc n) k found part ahead =
      subst (λ m. IsAhead m (iterate steps n (steps found))) (omega arith)
      (run_ahead n (k + 1) (steps found) (grown_part found) (ahead_by k found ahead (part_grows found part)))

  part_of_run : (n : ℕ) (found : List ℕ) → IsPart found → IsPart (iterate steps n found)
  part_of_run zero found part = part
  part_of_run (suc n) found part = part_of_run n (steps found) (grown_part found)

  still_by : (found : List ℕ) → IsAhead (length all) found → (found ≡ steps found) ⊎ (length found < length (steps found)) → found ≡ steps found
  still_by found (inl same) h = same
  still_by found (inr le) (inl same) = same
  still_by found (inr le) (inr lt) = absurd (let short = filter_short (is_reached leads found) all in omega (arith, le, lt, short))

  -- ---- what holds of the first number and of each to which one of whom it holds leads

  led_by : (P : ℕ → Type 0) (n : ℕ) → ((m : ℕ) → P m → leads m n ≡ true → P n)
      → (found : List ℕ) → ((m : ℕ) → has found m ≡ true → P m) → list_any (λ m. leads m n) found ≡ true → P n
  led_by P n next [] h any = absurd cc
  led_by P n next (x ∷ xs) h any =
      elim (either (leads x n) (list_any (λ m. leads m n) xs) any) [
        | inl led ↦ next x (h x (rw (eq-eqb x x refl) refl)) led
        | inr more ↦ led_by P n next xs (λ m there. h m (rw (there, or_true (x == m)) refl)) more
      ]

  reached_by : (P : ℕ → Type 0) → ((m n : ℕ) → P m → leads m n ≡ true → P n) → (found : List ℕ) → ((m : ℕ) → has found m ≡ true → P m)
      → (n : ℕ) → (has found n ≡ true) ⊎ (list_any (λ m. leads m n) found ≡ true) → P n
  reached_by P next found h n (inl there) = h n there
  reached_by P next found h n (inr led) = led_by P n (λ m. next m n) found h led

  run_holds : (P : ℕ → Type 0) → ((m n : ℕ) → P m → leads m n ≡ true → P n)
      → (k : ℕ) (found : List ℕ) → ((m : ℕ) → has found m ≡ true → P m) → (n : ℕ) → has (iterate steps k found) n ≡ true → P n
  run_holds P next zero found h n there = h n there
  run_holds P next (suc k) found h n there =
      run_holds P next k (steps found)
      (λ m in_step. reached_by P next found h m (any_split (λ j. j == m) (λ j. leads j m) found
      (and_first (is_reached leads found m) (has all m) (sym (has_filter (is_reached leads found) all m) ∙ in_step)))) n there

  -- ---- the set

  module _ (first : ℕ) where
    abbrev begin : List ℕ
    begin = filter (λ n. n == first) all

    first_part : IsPart begin
    first_part = record { test = λ n. n == first; is = refl }

    still : closure leads all first ≡ steps (closure leads all first)
    unfolding closure
    still =
        still_by (closure leads all first) (subst (λ k. IsAhead k (closure leads all first)) (omega arith) (run_ahead (length all) 0 begin first_part (inr (omega arith))))
        (part_grows (closure leads all first) (part_of_run (length all) begin first_part))

    -- the set has whatever one of its own leads to
    pub closure_closed : (m n : ℕ) → has (closure leads all first) m ≡ true → leads m n ≡ true → has all n ≡ true → has (closure leads all first) n ≡ true
    closure_closed m n there led among =
        ap (λ f. has f n) still ∙ has_filter (is_reached leads (closure leads all first)) all n
        ∙ and_both (is_reached leads (closure leads all first) n) (has all n) (reaches (closure leads all first) m n there led) among

    part_within : (found : List ℕ) → IsPart found → (n : ℕ) → has found n ≡ true → has all n ≡ true
    part_within found part n there = and_second (part.test n) (has all n) (sym (ap (λ f. has f n) part.is ∙ has_filter part.test all n) ∙ there)

    -- the set lies in all
    pub closure_within : (n : ℕ) → has (closure leads all first) n ≡ true → has all n ≡ true
    unfolding closure
    closure_within n there = part_within (closure leads all first) (part_of_run (length all) begin first_part) n there

    holds_on : (k : ℕ) (found : List ℕ) → has found first ≡ true → has all first ≡ true → has (iterate steps k found) first ≡ true
    holds_on zero found there among = there
    holds_on (suc k) found there among =
        holds_on k (steps found) (has_filter (is_reached leads found) all first
        ∙ and_both (is_reached leads found first) (has all first) (found_is_reached found first there) among) among

    -- its first number is in it
    pub closure_first : has all first ≡ true → has (closure leads all first) first ≡ true
    unfolding closure
    closure_first among =
        holds_on (length all) begin (has_filter (λ n. n == first) all first ∙ and_both (first == first) (has all first) (eq-eqb first first refl) among) among

    begin_has_first : (P : ℕ → Type 0) → P first → (m : ℕ) → has begin m ≡ true → P m
    begin_has_first P holds m there =
        subst P (sym ((Decides-eqb m first).0 (and_first (m == first) (has all m) (sym (has_filter (λ n. n == first) all m) ∙ there)))) holds

    -- what holds of the first number, and with each of a number of all to which that leads, holds of the set
    pub closure_least : (P : ℕ → Type 0) → P first → ((m n : ℕ) → P m → leads m n ≡ true → P n) → (n : ℕ) → has (closure leads all first) n ≡ true → P n
    unfolding closure
    closure_least P holds next n there = run_holds P next (length all) begin (begin_has_first P holds) n there

    -- the set stands in the order of all
    pub closure_rising : IsStrictlyIncreasing all → IsStrictlyIncreasing (closure leads all first)
    unfolding closure
    closure_rising rising = let part = part_of_run (length all) begin first_part in subst IsStrictlyIncreasing (sym part.is) (IsStrictlyIncreasing-filter part.test all rising)
