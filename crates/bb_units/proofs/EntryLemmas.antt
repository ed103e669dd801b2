-- Keys in a list by their numbers: where one stands, and which units the slab has under them.
use Rattle.std.proofs.Common.{◌≡◌, ℕ, zero, suc, ◌+◌, ◌<◌, ◌≤◌, Bool, true, false, cond, List, [], ◌∷◌, length, get_or, Option, Some, None, Result, Ok, Err, Ordering, Less, Equal, Greater, inl, inr, refl, sym, ap, subst, ◌∙◌, arith, eq-eqb, ne_eqb}
use Rattle.std.specs.Prelude.{◌==◌, option_map, option_and_then}
use Rattle.std.specs.List.{AllByRecursion, position_from}
use Rattle.std.specs.List.Sorted.{IsStrictlySortedBy, IsSearchInRange, IsBinarySearchResult, IsNonDecreasingBy}
use Rattle.std.specs.Map.{keys_of, lookup}
use Rattle.std.specs.Ordering.{nat_cmp, ordering_index}
use Rattle.std.proofs.lemmas.Option.{slice_get-get_or}
use Rattle.std.proofs.lemmas.Map.Entries.{length-keys_of}
use Rattle.std.specs.Cmp.{nat_cmp_total, unsigned_tied}
use Rattle.std.specs.Result.{result_ok}
use Rattle.std.specs.FinMap.{get, find, get-from_entries}
use Rattle.std.proofs.lemmas.Bool.{eqb-true, cases_lt}
use Rattle.std.proofs.lemmas.Cmp.{ranked}
use Rattle.std.proofs.lemmas.List.{get_or-map}
use Rattle.std.proofs.lemmas.List.Sorted.{IsNonDecreasingBy-from_default}
use Rattle.std.proofs.lemmas.Map.Keys.{below_from_sorted}
use Rattle.std.proofs.lemmas.Map.Made.{lookup-map_values}
use Rattle.std.proofs.lemmas.Iterator.Adapters.{position_from-zero}
use Rattle.slab.specs.Slab.{get as under}
use Rattle.bb_units.specs.proving.Numbered.{UnitSlab, held, stored, units_in, Rise, IsAt, place_in, key_in}

abbrev pub Entries : Type 0
Entries = List (ℕ × Option ℕ)

-- ---- what the list holds

-- what an entry that was looked up has
abbrev pub content : {X : Type 0} → Option (Option X) → Option X
content o = option_and_then (λ x. x) o

module _ {X : Type 0} where
  -- a number below those of all entries
  above_holds_none : (n : ℕ) (es : List (ℕ × Option X)) → AllByRecursion (λ k. nat_cmp n k ≡ Less) (keys_of es) → find nat_cmp n (held es) ≡ None
  above_holds_none n [] above = refl
  above_holds_none n ((k, None) ∷ es) above = above_holds_none n es above.1
  above_holds_none n ((k, Some x) ∷ es) above = rw above.0 (above_holds_none n es above.1)

  gap_by : (n k : ℕ) (es : List (ℕ × Option X)) (b : Bool) → (n == k) ≡ b → AllByRecursion (λ j. nat_cmp k j ≡ Less) (keys_of es) → find nat_cmp n (held es) ≡ content (lookup (λ j. n == j) es) → find nat_cmp n (held es) ≡ content (cond b (Some None) (lookup (λ j. n == j) es))
  gap_by n k es true same above rest = above_holds_none n es (subst (λ m. AllByRecursion (λ j. nat_cmp m j ≡ Less) (keys_of es)) (sym (eqb-true n k same)) above)
  gap_by n k es false other above rest = rest

  content_by : (b : Bool) (x : X) (found : Option X) (seen : Option (Option X)) → found ≡ content seen → cond b (Some x) found ≡ content (cond b (Some (Some x)) seen)
  content_by true x found seen rest = refl
  content_by false x found seen rest = rest

  pub found_in : (es : List (ℕ × Option X)) (n : ℕ) → Rise es → find nat_cmp n (held es) ≡ content (lookup (λ k. n == k) es)
  unfolding IsStrictlySortedBy
  found_in [] n rise = refl
  found_in ((k, None) ∷ es) n rise = gap_by n k es (n == k) refl rise.0 (found_in es n rise.1)
  found_in ((k, Some x) ∷ es) n rise = rw (unsigned_tied n k) (content_by (n == k) x (find nat_cmp n (held es)) (lookup (λ k. n == k) es) (found_in es n rise.1))

keys_stored : (s : UnitSlab) (es : Entries) → keys_of (stored s es) ≡ keys_of es
keys_stored s [] = refl
keys_stored s (e ∷ es) = ap (λ ks. e.0 ∷ ks) (keys_stored s es)

content_under : (s : UnitSlab) (o : Option (Option ℕ)) → content (option_map (λ c. option_and_then (under s) c) o) ≡ option_and_then (under s) (content o)
content_under s None = refl
content_under s (Some c) = refl

-- the unit of a number is what the slab has under its key
pub get_is_under : (s : UnitSlab) (es : Entries) (n : ℕ) → Rise es → get (units_in s es) n ≡ option_and_then (under s) (key_in n es)
get_is_under s es n rise =
    get-from_entries nat_cmp_total (held (stored s es)) n
    ∙ (found_in (stored s es) n (subst (IsStrictlySortedBy nat_cmp) (sym (keys_stored s es)) rise)
    ∙ (ap content (lookup-map_values (λ c. option_and_then (under s) c) (λ k. n == k) es) ∙ content_under s (lookup (λ k. n == k) es)))

-- ---- where an entry stands

lies : (P : ℕ → Type 0) (es : Entries) (i n : ℕ) → AllByRecursion P (keys_of es) → IsAt es i n → P n
lies P [] i n all at = absurd cc
lies P (e ∷ es) zero n all at = let same : e.0 ≡ n = cc in subst P same all.0
lies P (e ∷ es) (suc i) n all at = lies P es i n all.1 at

spot : (es : Entries) (i n m : ℕ) → Rise es → IsAt es i n → position_from (λ e. n == e.0) m es ≡ Some (m + i)
unfolding IsStrictlySortedBy
spot [] i n m rise at = absurd cc
spot (e ∷ es) zero n m rise at = let same : n ≡ e.0 = cc in rw (eq-eqb n e.0 same) (ap Some (omega arith))
spot (e ∷ es) (suc i) n m rise at =
    let lt : e.0 < n = ranked e.0 n Less (sym (lies (λ k. nat_cmp e.0 k ≡ Less) es i n rise.0 at)) in
    rw (ne_eqb n e.0 (λ same. omega (arith, lt, same))) (spot es i n (m + 1) rise.1 at ∙ ap Some (omega arith))

-- where the numbers rise, an entry of the number is the first one
pub place_here : (es : Entries) (i n : ℕ) → Rise es → IsAt es i n → Some i ≡ place_in n es
place_here es i n rise at = sym (position_from-zero (λ e. n == e.0) es ∙ (spot es i n 0 rise at ∙ ap Some (omega arith)))

no_spot : (es : Entries) (n m : ℕ) → ((j : ℕ) → j < length es → n ≡ (get_or es j (0, None)).0 → ⊥) → position_from (λ e. n == e.0) m es ≡ None
no_spot [] n m nowhere = refl
no_spot (e ∷ es) n m nowhere = rw (ne_eqb n e.0 (nowhere 0 (omega arith))) (no_spot es n (m + 1) (λ j lt. nowhere (suc j) (omega (arith, lt))))

-- ---- what a binary search finds

abbrev number_at : Entries → ℕ → ℕ
number_at es i = (get_or es i (0, None)).0

number_rises : (es : Entries) (i j : ℕ) → Rise es → i < j → j < length es → number_at es i < number_at es j
number_rises es i j rise lt within =
    let first = get_or-map (λ (e : ℕ × Option ℕ). e.0) es i (0, None) 0 (omega (arith, lt, within)) in
    let second = get_or-map (λ (e : ℕ × Option ℕ). e.0) es j (0, None) 0 within in
    rw (← first, ← second) (below_from_sorted (keys_of es) i j 0 rise lt (rw (length-keys_of es) within))

number_le : (es : Entries) (i j : ℕ) → Rise es → i ≤ j → j < length es → number_at es i ≤ number_at es j
number_le es i j rise le within = elim (cases_lt i j) [
  | inl lt ↦ omega (arith, number_rises es i j rise lt within)
  | inr not ↦ let same : i ≡ j = omega (arith, le, not) in rw same (omega arith)
]

answers_rise : (a b n : ℕ) (r s : Ordering) → r ≡ nat_cmp a n → s ≡ nat_cmp b n → a ≤ b → ordering_index r ≤ ordering_index s
answers_rise a b n Less s is that le = omega arith
answers_rise a b n Equal Less is that le = absurd (omega (arith, ranked a n Equal is, ranked b n Less that, le))
answers_rise a b n Equal Equal is that le = omega arith
answers_rise a b n Equal Greater is that le = omega arith
answers_rise a b n Greater Less is that le = absurd (omega (arith, ranked a n Greater is, ranked b n Less that, le))
answers_rise a b n Greater Equal is that le = absurd (omega (arith, ranked a n Greater is, ranked b n Equal that, le))
answers_rise a b n Greater Greater is that le = omega arith

search_rises : (es : Entries) (n : ℕ) → Rise es → IsNonDecreasingBy (λ e. ordering_index (nat_cmp e.0 n)) es
search_rises es n rise =
    IsNonDecreasingBy-from_default (λ e. ordering_index (nat_cmp e.0 n)) es (0, None)
    (λ i j le within. answers_rise (number_at es i) (number_at es j) n _ _ refl refl (number_le es i j rise le within))

pub place_found : (es : Entries) (n : ℕ) (r : Result ℕ ℕ) → Rise es → IsSearchInRange r (length es) → IsBinarySearchResult (λ e. nat_cmp e.0 n) es r → result_ok r ≡ place_in n es
place_found es n (Ok i) rise within equal =
    let same : number_at es i ≡ n = ranked (number_at es i) n Equal (sym (equal (0, None))) in
    place_here es i n rise (ap (option_map (λ e. e.0)) (slice_get-get_or es i (0, None) within) ∙ ap Some same)
place_found es n (Err i) rise within parted =
    let parts = parted (search_rises es n rise) in
    sym (position_from-zero (λ e. n == e.0) es ∙ no_spot es n 0 (λ j lt same. elim (cases_lt j i) [
      | inl before ↦ omega (arith, same, ranked (number_at es j) n Less (sym (parts.0 j (0, None) (omega arith) before)))
      | inr behind ↦ omega (arith, same, ranked (number_at es j) n Greater (sym (parts.1 j (0, None) (omega (arith, behind)) lt)))
    ]))
