-- Where what is pending is in the ordered sets, after each change, and what is read there.
use Rattle.std.proofs.Common.{◌≡◌, ℕ, ℤ, ◌+◌, ◌<◌, ◌≤◌, ◌⊎◌, inl, inr, ◌==◌, Bool, true, false, not, cond, ◌&&◌, ◌||◌, nat_lt, List, [], ◌∷◌, ◌++◌, map, filter, find, Option, Some, None, refl, sym, ap, subst, ◌∙◌, arith, eqb-true, eq-eqb, ne_eqb}
use Rattle.std.specs.Prelude.{option_map}
use Rattle.std.specs.List.{AllByRecursion, list_any}
use Rattle.std.specs.List.Sorted.{IsStrictlySortedBy}
use Rattle.std.specs.Option.{option_map_or, option_or}
use Rattle.std.specs.declared.cmp.Ordering.TheVariants.{Less, Equal, Greater}
use Rattle.std.specs.declared.ops.Bound.TheVariants.{Included, Excluded}
use Rattle.std.specs.Ordering.{nat_cmp, is_eq, is_le, ordering_then}
use Rattle.std.specs.Cmp.{tied_then}
use Rattle.std.specs.BTreeSet.{BTreeSet, IsOrdered}
use Rattle.std.specs.BTreeMap.{is_at}
use Rattle.std.specs.BTreeMap.Range.{range_contains}
use Rattle.std.proofs.lemmas.Bool.{eqb-false, and_parts, cases_lt, le-ltb, ltb-true, ltb-false}
use Rattle.std.proofs.lemmas.List.Folds.{find-append}
use Rattle.bb_agenda.specs.declared.focusing.activation.Activation.{Activation}
use Rattle.bb_agenda.specs.Agenda.{number_of, has_number, is_of, is_on}
use Rattle.bb_agenda.specs.Changes.{other_than, rebased}
use Rattle.bb_agenda.specs.Fits.{RisesBy}
use Rattle.bb_agenda.specs.proving.Places.{Place, number_at}
use Rattle.bb_agenda.specs.proving.Lists.{Rising, is_in, place_cmp, same_place, is_listed, listed_more, listed_less, numbers_under, at_source, at_unit}
use Rattle.bb_agenda.specs.proving.Filed.{AreListed}
use Rattle.bb_agenda.proofs.ChosenLemmas.{find_none, each_weaker, found_passes}
use Rattle.bb_agenda.proofs.FoundLemmas.{not_found_less, found_less, found_rebased}
use Rattle.bb_agenda.proofs.RisingLemmas.{each_filter, each_map, rising_map, rising_filter, above_absent}

-- ---- places

equal_is : (m n : ℕ) → is_eq (nat_cmp m n) ≡ (m == n)
equal_is m n = by (nat_lt m n) refl
  where
    by : (b : Bool) → nat_lt m n ≡ b → is_eq (nat_cmp m n) ≡ (m == n)
    by true h = let lt = ltb-true m n h in rw (h, ne_eqb m n (λ same. omega (arith, lt, same))) refl
    by false h = rw h (last (m == n))
      where
        last : (c : Bool) → is_eq (cond c Equal Greater) ≡ c
        last true = refl
        last false = refl

same_is : (p q : Place) → same_place p q ≡ ((p.0.0 == q.0.0 && p.0.1 == q.0.1) && p.1 == q.1)
same_is p q =
    sym (tied_then (ordering_then (nat_cmp p.0.0 q.0.0) (nat_cmp p.0.1 q.0.1)) (nat_cmp p.1 q.1))
    ∙ ap (λ b. b && is_eq (nat_cmp p.1 q.1)) (sym (tied_then (nat_cmp p.0.0 q.0.0) (nat_cmp p.0.1 q.0.1)) ∙ ap (λ b. b && is_eq (nat_cmp p.0.1 q.0.1)) (equal_is p.0.0 q.0.0) ∙ ap (λ b. p.0.0 == q.0.0 && b) (equal_is p.0.1 q.0.1))
    ∙ ap (λ b. (p.0.0 == q.0.0 && p.0.1 == q.0.1) && b) (equal_is p.1 q.1)

same_number : (p q : Place) → same_place p q ≡ true → p.1 ≡ q.1
same_number p q same = eqb-true p.1 q.1 (and_parts (p.0.0 == q.0.0 && p.0.1 == q.0.1) (p.1 == q.1) (sym (same_is p q) ∙ same)).1

other_place : (p q : Place) → (p.1 ≡ q.1 → ⊥) → same_place p q ≡ false
other_place p q apart = by (same_place p q) refl
  where
    by : (t : Bool) → same_place p q ≡ t → t ≡ false
    by true h = absurd (apart (same_number p q h))
    by false h = refl

-- ---- after each change

by_number : (a : Activation) (n : ℕ) (G : Type 0) → (has_number n a ≡ true → a.number ≡ n → G) → (has_number n a ≡ false → (a.number ≡ n → ⊥) → G) → G
by_number a n G same other = at (has_number n a) refl
  where
    at : (b : Bool) → has_number n a ≡ b → G
    at true h = same h (eqb-true a.number n h)
    at false h = other h (λ e. let is : has_number n a ≡ true = eq-eqb a.number n e in absurd cc)

or_none : (o : Option Activation) → option_or o None ≡ o
or_none (Some a) = refl
or_none None = refl

none_yet : (xs : List Activation) (a : Activation) → AllByRecursion (λ b. b.number < a.number) xs → (n : ℕ) → a.number ≡ n → find (has_number n) xs ≡ None
none_yet xs a below n is = find_none (has_number n) xs (each_weaker (λ b. b.number < a.number) (λ b. has_number n b ≡ false) (λ b lt. ne_eqb b.number n (λ same. omega (arith, same, lt, is))) xs below)

module _ (at : Activation → Place) (numbered : (a : Activation) → number_at (at a) ≡ a.number) where
  abbrev if_found : Place → Option Activation → Bool
  if_found p o = option_map_or (λ a. same_place (at a) p) o false

  apart_from : (a : Activation) (p : Place) → (a.number ≡ p.1 → ⊥) → same_place (at a) p ≡ false
  apart_from a p apart = other_place (at a) p (λ same. apart (sym (numbered a) ∙ same))

  module _ (xs : List Activation) (set : BTreeSet Place) (listed : AreListed at xs set) where
    -- one more
    module _ (a : Activation) (below : AllByRecursion (λ b. b.number < a.number) xs) where
      pub not_listed_yet : (p : Place) → same_place (at a) p ≡ true → is_listed set p ≡ false
      not_listed_yet p is = listed p ∙ ap (if_found p) (none_yet xs a below p.1 (sym (numbered a) ∙ same_number (at a) p is))

      pub listed_put : (new : BTreeSet Place) → ((p : Place) → is_listed new p ≡ listed_more set (at a) p) → AreListed at (xs ++ a ∷ []) new
      listed_put new more q = more q ∙ now q
        where
          on_true : (b : Bool) → cond b true false ≡ b
          on_true true = refl
          on_true false = refl

          now : (p : Place) → listed_more set (at a) p ≡ if_found p (find (has_number p.1) (xs ++ a ∷ []))
          now p = by_number a p.1 _
              (λ h is.
              let none = none_yet xs a below p.1 is in
              let found : find (has_number p.1) (xs ++ a ∷ []) ≡ Some a = find-append (has_number p.1) xs (a ∷ []) ∙ ap (λ o. option_or o (find (has_number p.1) (a ∷ []))) none ∙ ap (λ b. cond b (Some a) None) h in
              ap (cond (same_place (at a) p) true) (listed p ∙ ap (if_found p) none) ∙ on_true (same_place (at a) p) ∙ ap (if_found p) (sym found))
              (λ h apart.
              let found : find (has_number p.1) (xs ++ a ∷ []) ≡ find (has_number p.1) xs =
              find-append (has_number p.1) xs (a ∷ []) ∙ ap (option_or (find (has_number p.1) xs)) (ap (λ b. cond b (Some a) None) h) ∙ or_none (find (has_number p.1) xs) in
              ap (λ b. cond b true (is_listed set p)) (apart_from a p apart) ∙ listed p ∙ ap (if_found p) (sym found))

    -- without the one of a number
    pub listed_gone : (n : ℕ) (a : Activation) → find (has_number n) xs ≡ Some a → (new : BTreeSet Place) → ((p : Place) → is_listed new p ≡ listed_less set (at a) p) → AreListed at (filter (other_than n) xs) new
    listed_gone n a found new less q = less q ∙ now q
      where
        own : a.number ≡ n
        own = eqb-true a.number n (found_passes (has_number n) xs a found)

        cond_off : (b : Bool) → cond b false b ≡ false
        cond_off true = refl
        cond_off false = refl

        now : (p : Place) → listed_less set (at a) p ≡ if_found p (find (has_number p.1) (filter (other_than n) xs))
        now p = by_number a p.1 _
            (λ h is.
            let here : is_listed set p ≡ same_place (at a) p = listed p ∙ ap (if_found p) (subst (λ m. find (has_number m) xs ≡ Some a) (sym own ∙ is) found) in
            ap (cond (same_place (at a) p) false) here ∙ cond_off (same_place (at a) p)
            ∙ ap (if_found p) (sym (subst (λ m. find (has_number m) (filter (other_than n) xs) ≡ None) (sym own ∙ is) (not_found_less n xs))))
            (λ h apart.
            let differs : (p.1 == n) ≡ false = ne_eqb p.1 n (λ e. apart (own ∙ sym e)) in
            ap (λ b. cond b false (is_listed set p)) (apart_from a p apart) ∙ listed p ∙ ap (if_found p) (sym (found_less n p.1 xs differs)))

    -- with another base
    pub listed_rebased : (n : ℕ) (base : ℤ) → ((a : Activation) → at (rebased n base a) ≡ at a) → AreListed at (map (rebased n base) xs) set
    listed_rebased n base same p = listed p ∙ by (find (has_number p.1) xs) ∙ ap (if_found p) (sym (found_rebased n p.1 base xs))
      where
        by : (o : Option Activation) → if_found p o ≡ if_found p (option_map (rebased n base) o)
        by (Some a) = ap (λ q. same_place q p) (sym (same a))
        by None = refl

-- nothing is pending
pub listed_none : (at : Activation → Place) (set : BTreeSet Place) → set.keys ≡ [] → AreListed at [] set
listed_none at set none p = ap (list_any (is_at (place_cmp p))) none

-- ---- numbers that ascend are known by which there are

eq_back : (m n : ℕ) → (m == n) ≡ (n == m)
eq_back m n = by (n == m) refl
  where
    by : (b : Bool) → (n == m) ≡ b → (m == n) ≡ b
    by true h = eq-eqb m n (sym (eqb-true n m h))
    by false h = ne_eqb m n (λ same. let e : (n == m) ≡ true = eq-eqb n m (sym same) in absurd cc)

first_in : (n : ℕ) (ns : List ℕ) → is_in (n ∷ ns) n ≡ true
first_in n ns = rw (eq-eqb n n refl) refl

above : (m n : ℕ) (ns : List ℕ) → Rising (n ∷ ns) → m < n → is_in (n ∷ ns) m ≡ false
above m n ns rising lt = above_absent (λ k. k) m (n ∷ ns) (lt, each_weaker (λ k. n < k) (λ k. m < k) (λ k less. omega (arith, lt, less)) ns rising.0)

same_numbers : (ms ns : List ℕ) → Rising ms → Rising ns → ((k : ℕ) → is_in ms k ≡ is_in ns k) → ms ≡ ns
same_numbers [] [] r s same = refl
same_numbers [] (n ∷ ns) r s same = absurd (let e : false ≡ true = same n ∙ first_in n ns in cc)
same_numbers (m ∷ ms) [] r s same = absurd (let e : true ≡ false = sym (first_in m ms) ∙ same m in cc)
same_numbers (m ∷ ms) (n ∷ ns) r s same = ap (λ k. k ∷ ms) first ∙ ap (λ ks. n ∷ ks) (same_numbers ms ns r.1 s.1 rest)
  where
    first : m ≡ n
    first = at (cases_lt m n) (cases_lt n m)
      where
        at : (m < n) ⊎ (n ≤ m) → (n < m) ⊎ (m ≤ n) → m ≡ n
        at (inl lt) other = absurd (let e : true ≡ false = sym (first_in m ms) ∙ same m ∙ above m n ns s lt in cc)
        at (inr le) (inl lt) = absurd (let e : true ≡ false = sym (first_in n ns) ∙ sym (same n) ∙ above n m ms r lt in cc)
        at (inr le) (inr ge) = omega (arith, le, ge)

    rest : (k : ℕ) → is_in ms k ≡ is_in ns k
    rest k = by (m == k) refl
      where
        by : (b : Bool) → (m == k) ≡ b → is_in ms k ≡ is_in ns k
        by true h =
            let is = eqb-true m k h in
            above_absent (λ j. j) k ms (subst (λ j. AllByRecursion (λ i. j < i) ms) is r.0) ∙ sym (above_absent (λ j. j) k ns (subst (λ j. AllByRecursion (λ i. j < i) ns) (sym first ∙ is) s.0))
        by false h = ap (λ b. b || is_in ms k) (sym h) ∙ same k ∙ ap (λ b. b || is_in ns k) (ap (λ j. j == k) (sym first) ∙ h)

-- ---- what is read under a unit and a source

equal_cmp : (m n : ℕ) → m ≡ n → nat_cmp m n ≡ Equal
equal_cmp m n same = rw (le-ltb m n (omega (arith, same)), eq-eqb m n same) refl

less_cmp : (m n : ℕ) → nat_cmp m n ≡ Less → m < n
less_cmp m n less = by (nat_lt m n) (m == n) refl less
  where
    by : (b c : Bool) → nat_lt m n ≡ b → cond b Less (cond c Equal Greater) ≡ Less → m < n
    by true c h o = ltb-true m n h
    by false true h o = absurd cc
    by false false h o = absurd cc

module _ (unit source : ℕ) where
  abbrev inside : Place → Bool
  inside p = range_contains place_cmp (Included ((unit, source), 0)) (Excluded ((unit, source + 1), 0)) p

  inside_is : (p : Place) → inside p ≡ (unit == p.0.0 && source == p.0.1)
  inside_is p = at (nat_lt unit p.0.0) refl (unit == p.0.0) refl
    where
      low : is_le (nat_cmp 0 p.1) ≡ true
      low = grind (arith)

      past : source < p.0.1 → not (is_le (ordering_then (nat_cmp (source + 1) p.0.1) (nat_cmp 0 p.1))) ≡ false
      past lt = by (nat_lt (source + 1) p.0.1) (source + 1 == p.0.1) refl refl
        where
          by : (b c : Bool) → nat_lt (source + 1) p.0.1 ≡ b → (source + 1 == p.0.1) ≡ c → not (is_le (ordering_then (cond b Less (cond c Equal Greater)) (nat_cmp 0 p.1))) ≡ false
          by true c h g = refl
          by false true h g = ap not low
          by false false h g = absurd (omega (arith, lt, ltb-false (source + 1) p.0.1 h, eqb-false (source + 1) p.0.1 g))

      of_unit : (b : Bool) → nat_lt source p.0.1 ≡ b → (c : Bool) → (source == p.0.1) ≡ c
          → (is_le (ordering_then (nat_cmp source p.0.1) (nat_cmp 0 p.1)) && not (is_le (ordering_then (nat_cmp (source + 1) p.0.1) (nat_cmp 0 p.1)))) ≡ (source == p.0.1)
      of_unit true h c g =
          let lt = ltb-true source p.0.1 h in
          rw (h, ne_eqb source p.0.1 (λ same. omega (arith, lt, same))) (past lt)
      of_unit false h true g =
          let is = eqb-true source p.0.1 g in
          rw (h, g, low, le-ltb (source + 1) p.0.1 (omega (arith, is)), ne_eqb (source + 1) p.0.1 (λ same. omega (arith, is, same))) refl
      of_unit false h false g = rw (h, g) refl

      at : (b : Bool) → nat_lt unit p.0.0 ≡ b → (c : Bool) → (unit == p.0.0) ≡ c → inside p ≡ (unit == p.0.0 && source == p.0.1)
      at true h c g = let lt = ltb-true unit p.0.0 h in rw (h, ne_eqb unit p.0.0 (λ same. omega (arith, lt, same))) refl
      at false h true g = rw (h, g) (of_unit (nat_lt source p.0.1) refl (source == p.0.1) refl)
      at false h false g = rw (h, g) refl

  rises : (p q : Place) → inside p ≡ true → inside q ≡ true → place_cmp p q ≡ Less → p.1 < q.1
  rises p q here there less =
      let one = and_parts (unit == p.0.0) (source == p.0.1) (sym (inside_is p) ∙ here) in
      let two = and_parts (unit == q.0.0) (source == q.0.1) (sym (inside_is q) ∙ there) in
      let units : nat_cmp p.0.0 q.0.0 ≡ Equal = equal_cmp p.0.0 q.0.0 (sym (eqb-true unit p.0.0 one.0) ∙ eqb-true unit q.0.0 two.0) in
      let sources : nat_cmp p.0.1 q.0.1 ≡ Equal = equal_cmp p.0.1 q.0.1 (sym (eqb-true source p.0.1 one.1) ∙ eqb-true source q.0.1 two.1) in
      less_cmp p.1 q.1 (sym (ap (λ o. ordering_then (ordering_then o (nat_cmp p.0.1 q.0.1)) (nat_cmp p.1 q.1)) units ∙ ap (λ o. ordering_then o (nat_cmp p.1 q.1)) sources) ∙ less)

  abbrev row : List Place → List ℕ
  row ps = map number_at (filter inside ps)

  row_above : (p : Place) → inside p ≡ true → (qs : List Place) → AllByRecursion (λ q. place_cmp p q ≡ Less) qs → AllByRecursion (λ m. p.1 < m) (row qs)
  row_above p here [] all = tt
  row_above p here (q ∷ qs) all = at (inside q) refl (row_above p here qs all.1)
    where
      at : (b : Bool) → inside q ≡ b → AllByRecursion (λ m. p.1 < m) (row qs) → AllByRecursion (λ m. p.1 < m) (map number_at (cond b (q ∷ filter inside qs) (filter inside qs)))
      at true h later = (rises p q here h all.0, later)
      at false h later = later

  row_rises : (ps : List Place) → IsStrictlySortedBy place_cmp ps → Rising (row ps)
  unfolding IsStrictlySortedBy
  row_rises [] sorted = tt
  row_rises (p ∷ ps) sorted = at (inside p) refl (row_rises ps sorted.1)
    where
      at : (b : Bool) → inside p ≡ b → Rising (row ps) → Rising (map number_at (cond b (p ∷ filter inside ps) (filter inside ps)))
      at true h later = (row_above p h ps sorted.0, later)
      at false h later = later

  row_has : (m : ℕ) (ps : List Place) → is_in (row ps) m ≡ list_any (is_at (place_cmp ((unit, source), m))) ps
  row_has m [] = refl
  row_has m (p ∷ ps) =
      at (inside p) (row_has m ps)
      ∙ ap (λ b. b || list_any (is_at (place_cmp ((unit, source), m))) ps) (ap (λ b. b && p.1 == m) (inside_is p) ∙ ap (λ b. (unit == p.0.0 && source == p.0.1) && b) (eq_back p.1 m) ∙ sym (same_is ((unit, source), m) p))
    where
      at : (b : Bool) → is_in (row ps) m ≡ list_any (is_at (place_cmp ((unit, source), m))) ps
          → is_in (map number_at (cond b (p ∷ filter inside ps) (filter inside ps))) m ≡ ((b && p.1 == m) || list_any (is_at (place_cmp ((unit, source), m))) ps)
      at true later = ap (λ b. p.1 == m || b) later
      at false later = later

kept_has : (test : Activation → Bool) (m : ℕ) (xs : List Activation) → RisesBy number_of xs → is_in (map number_of (filter test xs)) m ≡ option_map_or test (find (has_number m) xs) false
kept_has test m [] rising = refl
kept_has test m (x ∷ xs) rising = at (has_number m x) refl (test x) refl (kept_has test m xs rising.1)
  where
    at : (b : Bool) → has_number m x ≡ b → (c : Bool) → test x ≡ c → is_in (map number_of (filter test xs)) m ≡ option_map_or test (find (has_number m) xs) false
        → is_in (map number_of (cond c (x ∷ filter test xs) (filter test xs))) m ≡ option_map_or test (cond b (Some x) (find (has_number m) xs)) false
    at true h true g later = ap (λ b. b || is_in (map number_of (filter test xs)) m) h ∙ sym g
    at true h false g later =
        above_absent (λ k. k) m (map number_of (filter test xs))
        (each_map (λ k. m < k) number_of (filter test xs) (each_filter (λ y. m < y.number) test xs (subst (λ k. AllByRecursion (λ y. k < y.number) xs) (eqb-true x.number m h) rising.0)))
        ∙ sym g
    at false h true g later = ap (λ b. b || is_in (map number_of (filter test xs)) m) h ∙ later
    at false h false g later = later

module _ (xs : List Activation) (rising : RisesBy number_of xs) where
  read : (at : Activation → Place) (set : BTreeSet Place) → AreListed at xs set → IsOrdered place_cmp set → (unit source : ℕ) (test : Activation → Bool)
      → ((a : Activation) → same_place (at a) ((unit, source), a.number) ≡ test a) → numbers_under set unit source ≡ map number_of (filter test xs)
  read at set listed ordered unit source test tests = same_numbers (row unit source set.keys) (map number_of (filter test xs)) (row_rises unit source set.keys ordered) (rising_map number_of (filter test xs) (rising_filter number_of test xs rising)) has
    where
      by : (m : ℕ) (o : Option Activation) → ((a : Activation) → o ≡ Some a → a.number ≡ m) → option_map_or (λ a. same_place (at a) ((unit, source), m)) o false ≡ option_map_or test o false
      by m (Some a) own = ap (λ k. same_place (at a) ((unit, source), k)) (sym (own a refl)) ∙ tests a
      by m None own = refl

      has : (m : ℕ) → is_in (row unit source set.keys) m ≡ is_in (map number_of (filter test xs)) m
      has m =
          row_has unit source m set.keys ∙ listed ((unit, source), m)
          ∙ by m (find (has_number m) xs) (λ a is. eqb-true a.number m (found_passes (has_number m) xs a is)) ∙ sym (kept_has test m xs rising)

  -- a number is the same as itself
  own_number : (b : Bool) (n : ℕ) → (b && n == n) ≡ b
  own_number b n = ap (λ c. b && c) (eq-eqb n n refl) ∙ by b
    where
      by : (c : Bool) → (c && true) ≡ c
      by true = refl
      by false = refl

  pub of_source_is : (set : BTreeSet Place) → AreListed at_source xs set → IsOrdered place_cmp set → (source : ℕ) → numbers_under set 0 source ≡ map number_of (filter (is_of source) xs)
  of_source_is set listed ordered source = read at_source set listed ordered 0 source (is_of source) (λ a. same_is (at_source a) ((0, source), a.number) ∙ own_number (is_of source a) a.number)

  both : (p q : Activation → Bool) (ys : List Activation) → filter (λ y. p y && q y) ys ≡ filter p (filter q ys)
  both p q [] = refl
  both p q (y ∷ ys) = at (p y) refl (q y) (both p q ys)
    where
      at : (b : Bool) → p y ≡ b → (c : Bool) → filter (λ z. p z && q z) ys ≡ filter p (filter q ys)
          → cond (b && c) (y ∷ filter (λ z. p z && q z) ys) (filter (λ z. p z && q z) ys) ≡ filter p (cond c (y ∷ filter q ys) (filter q ys))
      at true h true later = ap (λ zs. y ∷ zs) later ∙ sym (ap (λ b. cond b (y ∷ filter p (filter q ys)) (filter p (filter q ys))) h)
      at true h false later = later
      at false h true later = later ∙ sym (ap (λ b. cond b (y ∷ filter p (filter q ys)) (filter p (filter q ys))) h)
      at false h false later = later

  pub on_unit_is : (set : BTreeSet Place) → AreListed at_unit xs set → IsOrdered place_cmp set → (source unit : ℕ) → numbers_under set unit source ≡ map number_of (filter (is_on unit) (filter (is_of source) xs))
  on_unit_is set listed ordered source unit =
      read at_unit set listed ordered unit source (λ a. is_on unit a && is_of source a) (λ a. same_is (at_unit a) ((unit, source), a.number) ∙ own_number (is_on unit a && is_of source a) a.number)
      ∙ ap (map number_of) (both (is_on unit) (is_of source) xs)
