-- Units that are found one after another differ, and are told by a set.
use Rattle.std.proofs.Common.{◌≡◌, ℕ, ◌≤◌, Bool, true, false, cond, List, [], ◌∷◌, ◌++◌, length, take, nat_eq, refl, sym, ap, subst, ◌∙◌, arith}
use Rattle.std.specs.Prelude.{◌==◌, ◌||◌}
use Rattle.std.specs.List.{AllByRecursion, IsDistinct, fold, list_all, list_any}
use Rattle.std.specs.List.Sorted.{IsPermutation, IsSorted, IsStrictlyIncreasing}
use Rattle.std.specs.Ordering.{nat_cmp, is_eq, eq_by_cmp}
use Rattle.std.specs.Cmp.{unsigned_tied, unsigned_ties}
use Rattle.std.specs.BTreeSet.{BTreeSet, contains, Updates}
use Rattle.std.proofs.lemmas.Bool.{or_parts, and_from, and_parts, eqb-true}
use Rattle.std.proofs.lemmas.Cmp.{nat_eq_equiv}
use Rattle.std.proofs.lemmas.List.{length-append, take-append-le}
use Rattle.std.proofs.lemmas.List.Sorted.{IsNonDecreasingBy-from_sort, list_any-IsPermutation}
use Rattle.std.proofs.lemmas.Map.Keys.{IsDistinct-IsPermutation, IsDistinct-from_sorted, sorted_from_strictly_increasing, IsStrictlyIncreasing-from_distinct}
use Rattle.bb_basis.proofs.BoolLemmas.{or_false}
use Rattle.bb_basis.proofs.ListLemmas.{list_any-last}
use Rattle.bb_board.specs.proving.Deleted.{is_of}
use Rattle.bb_board.specs.proving.Found.{found_more, AreFound}

-- ---- one unit more

all_last : {X : Type 0} (P : X → Type 0) (xs : List X) (y : X) → AllByRecursion P xs → P y → AllByRecursion P (xs ++ y ∷ [])
all_last P [] y all one = (one, tt)
all_last P (x ∷ xs) y all one = (all.0, all_last P xs y all.1 one)

pub distinct_last : (found : List ℕ) (n : ℕ) → IsDistinct nat_eq found → is_of found n ≡ false → IsDistinct nat_eq (found ++ n ∷ [])
unfolding IsDistinct
distinct_last [] n differ new = (tt, tt)
distinct_last (x ∷ xs) n differ new =
    let parts = or_parts (x == n) (is_of xs n) new in
    (all_last (λ y. (x == y) ≡ false) xs n differ.0 parts.0, distinct_last xs n differ.1 parts.1)

pub none_found : (known : BTreeSet ℕ) → known.keys ≡ [] → AreFound [] known
unfolding IsDistinct
none_found known empty = record {
  same = λ n. ap (list_any (λ k. is_eq (nat_cmp n k))) empty;
  distinct = tt;
}

known_by : (a b : Bool) → cond b true a ≡ (a || b)
known_by true true = refl
known_by true false = refl
known_by false true = refl
known_by false false = refl

pub one_found : (found : List ℕ) (n : ℕ) (old new : BTreeSet ℕ) → AreFound found old → is_of found n ≡ false → Updates nat_cmp old new n true → AreFound (found ++ n ∷ []) new
one_found found n old new are unknown updates = record {
  same = λ q. updates.0 q ∙ (ap (λ b. cond b true (contains nat_cmp old q)) (unsigned_tied n q)
      ∙ (known_by (contains nat_cmp old q) (n == q) ∙ (ap (λ b. b || n == q) (are.same q) ∙ sym (list_any-last (λ k. k == q) found n))));
  distinct = distinct_last found n are.distinct unknown;
}

-- ---- units are found, one after another

of_more_by : (found : List ℕ) (n m : ℕ) (b : Bool) → is_of found n ≡ b → is_of (cond b found (found ++ n ∷ [])) m ≡ (is_of found m || n == m)
of_more_by found n m true is = same (n == m) refl
  where
    same : (c : Bool) → (n == m) ≡ c → is_of found m ≡ (is_of found m || c)
    same true e = let there : is_of found m ≡ true = ap (is_of found) (sym (eqb-true n m e)) ∙ is in rw (there) refl
    same false e = sym (or_false (is_of found m))
of_more_by found n m false is = list_any-last (λ k. k == m) found n

of_more : (found : List ℕ) (n m : ℕ) → is_of (found_more found n) m ≡ (is_of found m || n == m)
of_more found n m = of_more_by found n m (is_of found n) refl

or_swap : (a b c : Bool) → ((a || b) || c) ≡ (a || (b || c))
or_swap true b c = refl
or_swap false b c = refl

pub of_all : (found ns : List ℕ) (m : ℕ) → is_of (fold found_more found ns) m ≡ (is_of found m || is_of ns m)
of_all found [] m = sym (or_false (is_of found m))
of_all found (n ∷ ns) m =
    of_all (found_more found n) ns m ∙ (ap (λ b. b || is_of ns m) (of_more found n m) ∙ or_swap (is_of found m) (n == m) (is_of ns m))

distinct_more_by : (found : List ℕ) (n : ℕ) (b : Bool) → is_of found n ≡ b → IsDistinct nat_eq found → IsDistinct nat_eq (cond b found (found ++ n ∷ []))
distinct_more_by found n true is differ = differ
distinct_more_by found n false is differ = distinct_last found n differ is

pub distinct_all : (found ns : List ℕ) → IsDistinct nat_eq found → IsDistinct nat_eq (fold found_more found ns)
distinct_all found [] differ = differ
distinct_all found (n ∷ ns) differ = distinct_all (found_more found n) ns (distinct_more_by found n (is_of found n) refl differ)

passes_more_by : (p : ℕ → Bool) (found : List ℕ) (n : ℕ) (b : Bool) → list_all p found ≡ true → p n ≡ true → list_all p (cond b found (found ++ n ∷ [])) ≡ true
passes_more_by p found n true all one = all
passes_more_by p [] n false all one = and_from (p n) true one refl
passes_more_by p (x ∷ xs) n false all one =
    let both = and_parts (p x) (list_all p xs) all in
    and_from (p x) (list_all p (xs ++ n ∷ [])) both.0 (passes_more_by p xs n false both.1 one)

pub passes_all : (p : ℕ → Bool) (found ns : List ℕ) → list_all p found ≡ true → list_all p ns ≡ true → list_all p (fold found_more found ns) ≡ true
passes_all p found [] all more = all
passes_all p found (n ∷ ns) all more =
    let both = and_parts (p n) (list_all p ns) more in
    passes_all p (found_more found n) ns (passes_more_by p found n (is_of found n) all both.0) both.1

-- what was found first stays in front
longer_by : (found : List ℕ) (n : ℕ) (b : Bool) → length found ≤ length (cond b found (found ++ n ∷ []))
longer_by found n true = omega arith
longer_by found n false = omega (arith, length-append found (n ∷ []))

front_by : (k n : ℕ) (found : List ℕ) (b : Bool) → k ≤ length found → take k (cond b found (found ++ n ∷ [])) ≡ take k found
front_by k n found true le = refl
front_by k n found false le = take-append-le k found (n ∷ []) le

pub front_all : (k : ℕ) (found ns : List ℕ) → k ≤ length found → take k (fold found_more found ns) ≡ take k found
front_all k found [] le = refl
front_all k found (n ∷ ns) le =
    front_all k (found_more found n) ns (omega (arith, le, longer_by found n (is_of found n))) ∙ front_by k n found (is_of found n) le

-- ---- in rising number

pub rising_found : (found sorted : List ℕ) → IsDistinct nat_eq found → IsPermutation found sorted → IsSorted nat_cmp sorted → IsStrictlyIncreasing sorted
rising_found found sorted differ moved up =
    IsStrictlyIncreasing-from_distinct sorted (IsNonDecreasingBy-from_sort (λ n. n) sorted up) (IsDistinct-IsPermutation nat_eq nat_eq_equiv.symm found sorted moved differ)

pub of_sorted : (found sorted : List ℕ) (n : ℕ) → IsPermutation found sorted → is_of sorted n ≡ is_of found n
of_sorted found sorted n moved = sym (list_any-IsPermutation (λ k. k == n) found sorted moved)

pub rising_differ : (ns : List ℕ) → IsStrictlyIncreasing ns → IsDistinct nat_eq ns
rising_differ ns up = subst (λ e. IsDistinct e ns) (λ i n m. unsigned_tied n m i) (IsDistinct-from_sorted nat_cmp ns (sorted_from_strictly_increasing ns up))

-- distinct by the order of numbers too
pub distinct_tied : (found : List ℕ) → IsDistinct nat_eq found → IsDistinct (eq_by_cmp nat_cmp) found
distinct_tied found differ = subst (λ e. IsDistinct e found) (λ i n m. unsigned_ties n m i) differ
