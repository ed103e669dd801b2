-- How many numbers of a list that rises are lower than one.
use Rattle.std.proofs.Common.{◌≡◌, ℕ, zero, suc, ◌<◌, ◌≤◌, Bool, true, false, List, [], ◌∷◌, ◌++◌, length, filter, nat_lt, get_or, Less, Result, Ok, Err, refl, sym, ap, arith}
use Rattle.std.specs.List.{AllByRecursion}
use Rattle.std.specs.List.Sorted.{IsStrictlySortedBy, IsBinarySearchResult}
use Rattle.std.specs.Result.{MatchResult}
use Rattle.std.specs.Ordering.{nat_cmp}
use Rattle.std.proofs.lemmas.Bool.{lt-ltb, ltb-true}
use Rattle.std.proofs.lemmas.Cmp.{ranked}
use Rattle.std.proofs.lemmas.List.Sorted.{searched}
use Rattle.std.proofs.lemmas.Map.Keys.{below_from_sorted, non_decreasing_from_sorted}

-- the numbers of a list that are lower
abbrev pub below : ℕ → List ℕ → ℕ
below n ms = length (filter (λ m. nat_lt m n) ms)

none_below : (n : ℕ) (ms : List ℕ) → AllByRecursion (λ m. nat_lt m n ≡ false) ms → below n ms ≡ 0
none_below n [] all = refl
none_below n (m ∷ ms) all = rw all.0 (none_below n ms all.1)

-- a list whose first so many numbers are lower, and no others
pub parted : (n : ℕ) (ms : List ℕ) (i : ℕ) → i ≤ length ms → ((k : ℕ) → k < i → nat_lt (get_or ms k 0) n ≡ true) → ((k : ℕ) → i ≤ k → k < length ms → nat_lt (get_or ms k 0) n ≡ false) → below n ms ≡ i
parted n [] i le low high = omega (arith, le)
parted n (m ∷ ms) zero le low high = rw (high 0 (omega arith) (omega arith)) (parted n ms 0 (omega arith) (λ k lt. absurd (omega (arith, lt))) (λ k le lt. high (suc k) (omega arith) (omega (arith, lt))))
parted n (m ∷ ms) (suc i) le low high = rw (low 0 (omega arith)) (ap suc (parted n ms i (omega (arith, le)) (λ k lt. low (suc k) (omega (arith, lt))) (λ k above lt. high (suc k) (omega (arith, above)) (omega (arith, lt)))))

-- ---- what a search in a list that rises finds

not_lower : (a b : ℕ) → b ≤ a → nat_lt a b ≡ false
not_lower a b le = by (nat_lt a b) refl
  where
    by : (c : Bool) → nat_lt a b ≡ c → c ≡ false
    by false h = refl
    by true h = let lt : a < b = ltb-true a b h in absurd (omega (arith, lt, le))

rises_far : (ms : List ℕ) → IsStrictlySortedBy nat_cmp ms → (i j : ℕ) → i ≤ j → j < length ms → get_or ms i 0 ≤ get_or ms j 0
rises_far ms rise i j le lt = non_decreasing_from_sorted ms rise i j 0 le lt

pub place_found : (ms : List ℕ) (n i : ℕ) → IsStrictlySortedBy nat_cmp ms → i < length ms → get_or ms i 0 ≡ n → i ≡ below n ms
place_found ms n i rise within at =
    sym (parted n ms i (omega (arith, within))
    (λ k lt. lt-ltb (get_or ms k 0) n (let low = below_from_sorted ms k i 0 rise lt within in omega (arith, low, at)))
    (λ k le lt. not_lower (get_or ms k 0) n (let high = rises_far ms rise i k le lt in omega (arith, high, at))))

pub place_between : (ms : List ℕ) (n i : ℕ) → i ≤ length ms → ((k : ℕ) → k < i → get_or ms k 0 < n) → ((k : ℕ) → i ≤ k → k < length ms → n < get_or ms k 0) → i ≡ below n ms
place_between ms n i within low high =
    sym (parted n ms i within (λ k lt. lt-ltb (get_or ms k 0) n (low k lt))
    (λ k le lt. not_lower (get_or ms k 0) n (let up = high k le lt in omega (arith, up))))

pub searched_place : (ms : List ℕ) (n : ℕ) (r : Result ℕ ℕ) → IsStrictlySortedBy nat_cmp ms → IsBinarySearchResult (λ y. nat_cmp y n) ms r → MatchResult r (λ i. i ≡ below n ms) (λ i. i ≡ below n ms)
searched_place ms n (Ok i) rise found = let f = searched ms n (Ok i) found (rises_far ms rise) in place_found ms n i rise f.0 f.1
searched_place ms n (Err i) rise found = let f = searched ms n (Err i) found (rises_far ms rise) in place_between ms n i f.0 f.1 f.2

-- ---- a list that rises

none_lower : (n : ℕ) (ms : List ℕ) → AllByRecursion (λ m. nat_cmp n m ≡ Less) ms → AllByRecursion (λ m. nat_lt m n ≡ false) ms
none_lower n [] all = tt
none_lower n (m ∷ ms) all = (not_lower m n (let up : n < m = ranked n m Less (sym all.0) in omega (arith, up)), none_lower n ms all.1)

first_lower : (m n : ℕ) (pre post : List ℕ) → AllByRecursion (λ k. nat_cmp m k ≡ Less) (pre ++ n ∷ post) → nat_lt m n ≡ true
first_lower m n [] post all = lt-ltb m n (ranked m n Less (sym all.0))
first_lower m n (k ∷ pre) post all = first_lower m n pre post all.1

-- as many are lower than a number of it as stand before that one
pub below_at : (pre : List ℕ) (n : ℕ) (post : List ℕ) → IsStrictlySortedBy nat_cmp (pre ++ n ∷ post) → below n (pre ++ n ∷ post) ≡ length pre
unfolding IsStrictlySortedBy
below_at [] n post rise = rw (not_lower n n (omega arith)) (none_below n post (none_lower n post rise.0))
below_at (m ∷ pre) n post rise = rw (first_lower m n pre post rise.0) (ap suc (below_at pre n post rise.1))
