-- A relation that was closed step by step holds wherever steps of the first one lead.
use Rattle.std.proofs.Common.{◌≡◌, ◌⊎◌, inl, inr, ℕ, zero, suc, ◌+◌, ◌<◌, ◌≤◌, ◌&&◌, ◌||◌, Bool, true, false, List, [], ◌∷◌, ◌++◌, map, length, take, drop, get_or, add-one, Option, Some, None, refl, sym, ap, subst, ◌∙◌, arith}
use Rattle.std.specs.Prelude.{◌==◌, slice_get, set, option_map}
use Rattle.std.specs.List.{range_with_len}
use Rattle.std.specs.Option.{option_map_or}
use Rattle.std.proofs.Math.Bool.{or_assoc}
use Rattle.std.proofs.lemmas.Bool.{or_left, eqb-true, eqb-false, cases_lt}
use Rattle.std.proofs.lemmas.List.{length-map, map_more, take_all, drop_all, length-set, get_or_default, get_or-set_same, get_or-set_other}
use Rattle.std.proofs.lemmas.List.FromFn.{length-range_with_len, get_or-range_with_len, length-map-range_with_len, map-range_with_len_more}
use Rattle.std.proofs.lemmas.Option.{slice_get-map, slice_get-get_or}
use Rattle.bb_basis.proofs.BoolLemmas.{or_false, or_true, or_right_and}
use Rattle.bb_basis.proofs.ClosureLemmas.{has}
use Rattle.bb_basis.proofs.IntoMapLemmas.{next_one}
use Rattle.bb_schema.specs.proving.Relation.{row_has, row_at, through, passed, closed_by}
use Rattle.bb_schema.specs.proving.Struck.{marked, all_marked}

-- what leads on by way of a number
abbrev pub by_way : (ℕ → ℕ → Bool) → (way : ℕ) → ℕ → ℕ → Bool
by_way leads way m n = leads m n || (leads m way && leads way n)

-- what leads on by way of the numbers below one
unfoldable pub ways : (ℕ → ℕ → Bool) → (count : ℕ) → ℕ → ℕ → Bool
ways leads zero = leads
ways leads (suc k) = by_way (ways leads k) k

-- ---- lists that are made item by item

-- one item more of those that are made of a list
pub made_more : {A X : Type 0} (f : A → X) (all : List A) (front new : List X) (i : ℕ) (a : A) (x : X) → i < length all → a ≡ get_or all i a → new ≡ front ++ x ∷ [] → x ≡ f a
    → front ≡ map f (take i all) → new ≡ map f (take (i + 1) all)
made_more f all front new i a x lt is pushed gives so_far =
    pushed ∙ (ap (λ ys. ys ++ x ∷ []) so_far ∙ (ap (λ y. map f (take i all) ++ y ∷ []) (gives ∙ ap f is) ∙ sym (map_more f all i a lt)))

pub made_all : {A X : Type 0} (f : A → X) (all : List A) (front : List X) (i : ℕ) → length all ≤ i → front ≡ map f (take i all) → front ≡ map f all
made_all f all front i le so_far = so_far ∙ ap (map f) (take_all i all le)

-- and of those that are made of numbers
pub made_one : {X : Type 0} (f : ℕ → X) (front new : List X) (i : ℕ) (x : X) → new ≡ front ++ x ∷ [] → x ≡ f i → front ≡ map f (range_with_len 0 i) → new ≡ map f (range_with_len 0 (i + 1))
made_one f front new i x pushed gives so_far =
    pushed ∙ (ap (λ ys. ys ++ x ∷ []) so_far ∙ (ap (λ y. map f (range_with_len 0 i) ++ y ∷ []) gives ∙ sym (map-range_with_len_more f 0 i i (omega arith))))

-- ---- tables

-- the rows are a table of the relation of the numbers below one
pub record IsTable (count : ℕ) (leads : ℕ → ℕ → Bool) (rows : List (List Bool)) : Type 0 where
  pub long : length rows ≡ count
  pub wide : (m : ℕ) → m < count → length (row_at rows m) ≡ count
  pub tell : (m n : ℕ) → m < count → n < count → row_has (row_at rows m) n ≡ leads m n

at_range : (n k : ℕ) → k < n → slice_get (range_with_len 0 n) k ≡ Some k
at_range n k lt =
    slice_get-get_or (range_with_len 0 n) k 0 (omega (arith, lt, length-range_with_len 0 n))
    ∙ ap (λ (i : ℕ). Some i) (get_or-range_with_len 0 n k 0 lt ∙ (let e : 0 + k ≡ k = omega arith in e))

pub made_at : {X : Type 0} (f : ℕ → X) (n k : ℕ) → k < n → slice_get (map f (range_with_len 0 n)) k ≡ Some (f k)
made_at f n k lt = slice_get-map f (range_with_len 0 n) k ∙ ap (option_map f) (at_range n k lt)

made_row : (rows : List (List Bool)) (m : ℕ) (row : List Bool) → slice_get rows m ≡ Some row → row_at rows m ≡ row
made_row rows m row at = ap (λ (o : Option (List Bool)). option_map_or (λ r. r) o []) at

made_number : (row : List Bool) (n : ℕ) (b : Bool) → slice_get row n ≡ Some b → row_has row n ≡ b
made_number row n b at = ap (λ (o : Option Bool). option_map_or (λ c. c) o false) at

-- the row of a number that the table has
pub row_there : (rows : List (List Bool)) (m : ℕ) → m < length rows → slice_get rows m ≡ Some (row_at rows m)
row_there rows m lt =
    let at = slice_get-get_or rows m [] lt in
    at ∙ ap (λ (r : List Bool). Some r) (sym (made_row rows m (get_or rows m []) at))

-- the row has those of the numbers below count that pass
pub record IsRow (count : ℕ) (passes : ℕ → Bool) (row : List Bool) : Type 0 where
  pub wide : length row ≡ count
  pub tell : (n : ℕ) → n < count → row_has row n ≡ passes n

pub made_row_of : (count : ℕ) (passes : ℕ → Bool) → IsRow count passes (map passes (range_with_len 0 count))
made_row_of count passes = record {
  wide = length-map-range_with_len passes 0 count;
  tell = λ n lt. made_number (map passes (range_with_len 0 count)) n (passes n) (made_at passes count n lt);
}

read : (row : List Bool) (n : ℕ) → n < length row → row_has row n ≡ get_or row n false
read row n lt = made_number row n (get_or row n false) (slice_get-get_or row n false lt)

pub marked_by : (row : List Bool) (m n : ℕ) (b : Bool) → n < length row → (m == n) ≡ b → row_has (set row m true) n ≡ (row_has row n || b)
marked_by row m n true lt same =
    let there : n < length (set row m true) = omega (arith, lt, length-set row m true) in
    let is = eqb-true m n same in
    read (set row m true) n there ∙ (ap (λ k. get_or (set row k true) n false) is ∙ get_or-set_same row n true false lt) ∙ sym (or_true (row_has row n))
marked_by row m n false lt other =
    let there : n < length (set row m true) = omega (arith, lt, length-set row m true) in
    read (set row m true) n there ∙ (get_or-set_other row m n true false (λ e. eqb-false m n other (sym e)) ∙ sym (read row n lt)) ∙ sym (or_false (row_has row n))

-- a row in which some numbers are noted
pub marked_row : (count : ℕ) (passes : ℕ → Bool) (row : List Bool) (ns : List ℕ) → IsRow count passes row → IsRow count (λ n. passes n || has ns n) (all_marked row ns)
unfolding all_marked
marked_row count passes row [] is = record { wide = is.wide; tell = λ n lt. is.tell n lt ∙ sym (or_false (passes n)) }
marked_row count passes row (m ∷ ms) is =
    let more = marked_row count (λ n. passes n || (m == n)) (set row m true) ms (record {
      wide = length-set row m true ∙ is.wide;
      tell = λ n lt. marked_by row m n (m == n) (omega (arith, lt, is.wide)) refl ∙ ap (λ b. b || (m == n)) (is.tell n lt);
    }) in
    record { wide = more.wide; tell = λ n lt. more.tell n lt ∙ or_assoc (passes n) (m == n) (has ms n) }

-- notes one after another
pub mark_next : (row new : List Bool) (all : List ℕ) (i : ℕ) (total : List Bool) → i < length all → new ≡ marked row (get_or all i 0)
    → all_marked row (drop i all) ≡ total → all_marked new (drop (i + 1) all) ≡ total
unfolding all_marked
mark_next row new all i total lt noted so_far =
    let a = get_or all i 0 in
    let one : all_marked row (drop i all) ≡ all_marked (marked row a) (drop (i + 1) all) = ap (all_marked row) (next_one all i a lt (get_or_default all i 0 a lt)) in
    ap (λ r. all_marked r (drop (i + 1) all)) noted ∙ (sym one ∙ so_far)

pub mark_end : (row : List Bool) (all : List ℕ) (i : ℕ) (total : List Bool) → length all ≤ i → all_marked row (drop i all) ≡ total → row ≡ total
unfolding all_marked
mark_end row all i total le so_far = sym (ap (all_marked row) (drop_all i all le)) ∙ so_far

-- a table that is made of rows
pub made_table : (n : ℕ) (leads : ℕ → ℕ → Bool) (row : ℕ → List Bool) → ((m : ℕ) → IsRow n (leads m) (row m)) → IsTable n leads (map row (range_with_len 0 n))
made_table n leads row each =
    let rows = map row (range_with_len 0 n) in
    let at = λ (m : ℕ) (lt : m < n). made_row rows m (row m) (made_at row n m lt) in
    record {
      long = length-map-range_with_len row 0 n;
      wide = λ m lt. ap length (at m lt) ∙ (each m).wide;
      tell = λ m k lt lt_k. ap (λ (r : List Bool). row_has r k) (at m lt) ∙ (each m).tell k lt_k;
    }

passed_row : (other : List Bool) (number : ℕ) (o : Option (List Bool)) → option_map_or (λ r. r) (option_map (λ row. through row other number) o) [] ≡ through (option_map_or (λ r. r) o []) other number
passed_row other number None = refl
passed_row other number (Some row) = refl

same_way : (a b c d e f : Bool) → a ≡ d → b ≡ e → c ≡ f → (a || (b && c)) ≡ (d || (e && f))
same_way a b c d e f p q r = rw (p, q, r) refl

pub passed_table : (n number : ℕ) (leads : ℕ → ℕ → Bool) (rows : List (List Bool)) → number < n → IsTable n leads rows → IsTable n (by_way leads number) (passed number rows)
passed_table n number leads rows within is =
    let other = row_at rows number in
    let row = λ (m : ℕ). ap (λ (o : Option (List Bool)). option_map_or (λ r. r) o []) (slice_get-map (λ r. through r other number) rows m) ∙ passed_row other number (slice_get rows m) in
    let to = λ (r : List Bool) (k : ℕ). row_has r k || (row_has r number && row_has other k) in
    record {
      long = length-map rows (λ r. through r other number) ∙ is.long;
      wide = λ m lt. ap length (row m) ∙ (length-map-range_with_len (to (row_at rows m)) 0 (length (row_at rows m)) ∙ is.wide m lt);
      tell = λ m k lt lt_k.
          ap (λ (r : List Bool). row_has r k) (row m)
          ∙ (made_number (through (row_at rows m) other number) k (to (row_at rows m) k) (made_at (to (row_at rows m)) (length (row_at rows m)) k (omega (arith, lt_k, is.wide m lt)))
          ∙ same_way (row_has (row_at rows m) k) (row_has (row_at rows m) number) (row_has other k) (leads m k) (leads m number) (leads number k) (is.tell m k lt lt_k) (is.tell m number lt within) (is.tell number k within lt_k));
    }

pub closed_none : (rows : List (List Bool)) → rows ≡ closed_by 0 rows
unfolding closed_by
closed_none rows = refl

pub closed_more : (n : ℕ) (rows : List (List Bool)) → passed n (closed_by n rows) ≡ closed_by (n + 1) rows
unfolding closed_by
closed_more n rows = sym (ap (λ k. closed_by k rows) (add-one n))

pub closed_table : (n k : ℕ) (leads : ℕ → ℕ → Bool) (rows : List (List Bool)) → k ≤ n → IsTable n leads rows → IsTable n (ways leads k) (closed_by k rows)
unfolding closed_by ways
closed_table n zero leads rows le is = is
closed_table n (suc k) leads rows le is = passed_table n k (ways leads k) (closed_by k rows) (omega (arith, le)) (closed_table n k leads rows (omega (arith, le)) is)

-- ---- ways

way_by : (a b c : Bool) → (a || (b && c)) ≡ true → (a ≡ true) ⊎ ((b ≡ true) × (c ≡ true))
way_by true b c h = inl refl
way_by false true c h = inr (refl, h)
way_by false false c h = absurd cc

module _ (leads : ℕ → ℕ → Bool) where
  -- what leads at first leads on
  pub ways_begin : (k m n : ℕ) → leads m n ≡ true → ways leads k m n ≡ true
  unfolding ways
  ways_begin zero m n h = h
  ways_begin (suc k) m n h = or_left (ways leads k m n) (ways leads k m k && ways leads k k n) (ways_begin k m n h)

  to_way : (k m : ℕ) → (ways leads k m k || (ways leads k m k && ways leads k k k)) ≡ true → ways leads k m k ≡ true
  to_way k m h = elim (way_by (ways leads k m k) (ways leads k m k) (ways leads k k k) h) [ inl is ↦ is | inr both ↦ both.0 ]

  from_way : (k n : ℕ) → (ways leads k k n || (ways leads k k k && ways leads k k n)) ≡ true → ways leads k k n ≡ true
  from_way k n h = elim (way_by (ways leads k k n) (ways leads k k k) (ways leads k k n) h) [ inl is ↦ is | inr both ↦ both.1 ]

  -- ways that meet at a number below make one way
  pub ways_join : (k m way n : ℕ) → way < k → ways leads k m way ≡ true → ways leads k way n ≡ true → ways leads k m n ≡ true
  unfolding ways
  ways_join zero m way n lt to on = absurd (omega (arith, lt))
  ways_join (suc k) m way n lt to on =
      let w = ways leads k in
      let by = or_right_and (w m n) (w m k) (w k n) in
      elim (cases_lt way k) [
        | inl below ↦ elim (way_by (w m way) (w m k) (w k way) to) [
          | inl to_it ↦ elim (way_by (w way n) (w way k) (w k n) on) [
            | inl on_it ↦ or_left (w m n) (w m k && w k n) (ways_join k m way n below to_it on_it)
            | inr on_both ↦ by (ways_join k m way k below to_it on_both.0) on_both.1
          ]
          | inr to_both ↦ elim (way_by (w way n) (w way k) (w k n) on) [
            | inl on_it ↦ by to_both.0 (ways_join k k way n below to_both.1 on_it)
            | inr on_both ↦ by to_both.0 on_both.1
          ]
        ]
        | inr le ↦
            let same : way ≡ k = omega (arith, le, lt) in
            by (to_way k m (subst (λ i. (w m i || (w m k && w k i)) ≡ true) same to)) (from_way k n (subst (λ i. (w i n || (w i k && w k n)) ≡ true) same on))
      ]

  -- a relation that holds where the first one leads, and of ways that meet, holds of all ways
  pub ways_lead : (P : ℕ → ℕ → Type 0) → ((m n : ℕ) → leads m n ≡ true → P m n) → ((m k n : ℕ) → P m k → P k n → P m n) → (k m n : ℕ) → ways leads k m n ≡ true → P m n
  unfolding ways
  ways_lead P first joins zero m n h = first m n h
  ways_lead P first joins (suc k) m n h = elim (way_by (ways leads k m n) (ways leads k m k) (ways leads k k n) h) [
    | inl is ↦ ways_lead P first joins k m n is
    | inr both ↦ joins m k n (ways_lead P first joins k m k both.0) (ways_lead P first joins k k n both.1)
  ]
