-- The couples in which a unit may stand, after each change.
use Rattle.std.proofs.Common.{◌≡◌, ℕ, zero, suc, ◌+◌, ◌<◌, ◌≤◌, ◌==◌, ◌⊎◌, inl, inr, Bool, true, false, not, cond, ◌&&◌, ◌||◌, List, [], ◌∷◌, ◌++◌, map, filter, length, take, get_or, Option, Some, None, refl, sym, ap, subst, ◌∙◌, arith, add-one}
use Rattle.std.specs.Prelude.{slice_get, slice_set, option_map}
use Rattle.std.specs.List.{list_any}
use Rattle.std.proofs.Math.Seq.{take-suc}
use Rattle.std.proofs.lemmas.Bool.{eqb-true, eq-eqb, ne_eqb, or_cases, or_parts, or_left, or_right, cases_eq}
use Rattle.std.proofs.lemmas.List.{take_all}
use Rattle.std.proofs.lemmas.List.Elements.{filter_agree}
use Rattle.std.proofs.lemmas.List.Folds.{list_any-append}
use Rattle.std.proofs.lemmas.Option.{slice_get-map, slice_get_past}
use Rattle.bb_schema.specs.declared.couple.Side.TheVariants.{A, B}
use Rattle.bb_links.specs.declared.couple.Singular.{Singular}
use Rattle.bb_links.specs.declared.lists.Lists.{Lists}
use Rattle.bb_links.specs.Pairs.{same_pair, has_pair, without_old, old_pair}
use Rattle.bb_links.specs.Couples.{Couple, no_pairs, with_pairs, linked, unlinked, forgotten}
use Rattle.bb_links.specs.proving.Lists.{listed, none_left}
use Rattle.bb_links.specs.proving.Standing.{stands_in, is_in, HasEach, AreListed, forgotten_if}
use Rattle.bb_links.proofs.CutLemmas.{filter-filter}

-- ---- tests and filters

module _ {X : Type 0} (t : X → Bool) where
  -- what is left was there
  pub any_left : (q : X → Bool) (xs : List X) → list_any t (filter q xs) ≡ true → list_any t xs ≡ true
  any_left q [] is = is
  any_left q (x ∷ xs) is = at (q x) is (λ rest. any_left q xs rest)
    where
      at : (b : Bool) → list_any t (cond b (x ∷ filter q xs) (filter q xs)) ≡ true → (list_any t (filter q xs) ≡ true → list_any t xs ≡ true) → list_any t (x ∷ xs) ≡ true
      at true is rest = elim (or_cases (t x) (list_any t (filter q xs)) is) [
        | inl here ↦ or_left (t x) (list_any t xs) here
        | inr later ↦ or_right (t x) (list_any t xs) (rest later)
      ]
      at false is rest = or_right (t x) (list_any t xs) (rest is)

  -- where none passes, all that do not are all
  none_filtered : (xs : List X) → list_any t xs ≡ false → filter (λ x. not (t x)) xs ≡ xs
  none_filtered [] none = refl
  none_filtered (x ∷ xs) none =
      let parts = or_parts (t x) (list_any t xs) none in
      rw parts.0 (ap (λ ys. x ∷ ys) (none_filtered xs parts.1))

  -- none passes of those that do not
  none_left_over : (xs : List X) → list_any t (filter (λ x. not (t x)) xs) ≡ false
  none_left_over [] = refl
  none_left_over (x ∷ xs) = at (t x) refl (none_left_over xs)
    where
      at : (b : Bool) → t x ≡ b → list_any t (filter (λ y. not (t y)) xs) ≡ false → list_any t (filter (λ y. not (t y)) (x ∷ xs)) ≡ false
      at true h later = rw h later
      at false h later = rw (h, h) later

  twice : (xs : List X) → filter t (filter t xs) ≡ filter t xs
  twice xs = filter-filter t t xs ∙ filter_agree (λ x. t x && t x) t (λ x. both (t x)) xs
    where
      both : (b : Bool) → (b && b) ≡ b
      both true = refl
      both false = refl

-- ---- a couple and a unit

unmoved : (n : ℕ) (k : Couple) → stands_in n k.pairs ≡ false → forgotten n k ≡ k
unmoved n k none = ap (with_pairs k) (none_filtered (λ (p : ℕ × ℕ). p.0 == n || p.1 == n) k.pairs none)

forgotten_twice : (n : ℕ) (k : Couple) → forgotten n (forgotten n k) ≡ forgotten n k
forgotten_twice n k = ap (with_pairs k) (twice (λ (p : ℕ × ℕ). not (p.0 == n || p.1 == n)) k.pairs)

old_left : (n : ℕ) (old : Option (ℕ × ℕ)) (pairs : List (ℕ × ℕ)) → stands_in n (without_old old pairs) ≡ true → stands_in n pairs ≡ true
old_left n None pairs is = is
old_left n (Some p) pairs is = any_left (λ (q : ℕ × ℕ). q.0 == n || q.1 == n) (λ q. not (same_pair p q)) pairs is

-- who stands in a couple after a link did before, or is one of both
pub stood : (n a b : ℕ) (k : Couple) → stands_in n (linked a b k).pairs ≡ true → (stands_in n k.pairs ≡ true) ⊎ ((a ≡ n) ⊎ (b ≡ n))
stood n a b k is = at (has_pair (a, b) k.pairs) is
  where
    one : (a == n || b == n) ≡ true → (a ≡ n) ⊎ (b ≡ n)
    one h = elim (or_cases (a == n) (b == n) h) [
      | inl first ↦ inl (eqb-true a n first)
      | inr second ↦ inr (eqb-true b n second)
    ]

    or_nothing : (c : Bool) → (c || false) ≡ c
    or_nothing true = refl
    or_nothing false = refl

    put : (rest : List (ℕ × ℕ)) → (stands_in n rest ≡ true → stands_in n k.pairs ≡ true) → stands_in n (rest ++ (a, b) ∷ []) ≡ true → (stands_in n k.pairs ≡ true) ⊎ ((a ≡ n) ⊎ (b ≡ n))
    put rest left h = elim (or_cases (stands_in n rest) (a == n || b == n) (ap (λ c. stands_in n rest || c) (sym (or_nothing (a == n || b == n))) ∙ (sym (list_any-append (λ (p : ℕ × ℕ). p.0 == n || p.1 == n) rest ((a, b) ∷ [])) ∙ h))) [
      | inl there ↦ inl (left there)
      | inr new ↦ inr (one new)
    ]

    at : (c : Bool) → stands_in n (cond c k.pairs (without_old (old_pair k.singular B b k.pairs) (without_old (old_pair k.singular A a k.pairs) k.pairs) ++ (a, b) ∷ [])) ≡ true → (stands_in n k.pairs ≡ true) ⊎ ((a ≡ n) ⊎ (b ≡ n))
    at true h = inl h
    at false h =
        put (without_old (old_pair k.singular B b k.pairs) (without_old (old_pair k.singular A a k.pairs) k.pairs))
        (λ there. old_left n (old_pair k.singular A a k.pairs) k.pairs (old_left n (old_pair k.singular B b k.pairs) (without_old (old_pair k.singular A a k.pairs) k.pairs) there)) h

-- who stands in a couple after an unlink did before
pub stood_unlinked : (n a b : ℕ) (k : Couple) → stands_in n (unlinked a b k).pairs ≡ true → stands_in n k.pairs ≡ true
stood_unlinked n a b k is = any_left (λ (p : ℕ × ℕ). p.0 == n || p.1 == n) (λ q. not (same_pair (a, b) q)) k.pairs is

stood_forgotten : (m n : ℕ) (k : Couple) → stands_in m (forgotten n k).pairs ≡ true → stands_in m k.pairs ≡ true
stood_forgotten m n k is = any_left (λ (p : ℕ × ℕ). p.0 == m || p.1 == m) (λ p. not (p.0 == n || p.1 == n)) k.pairs is

-- ---- a list with one item set

module _ {X : Type 0} where
  pub at_set : (xs : List X) (j : ℕ) (v : X) → j < length xs → slice_get (slice_set xs j v) j ≡ Some v
  at_set [] j v lt = absurd (omega (arith, lt))
  at_set (x ∷ xs) zero v lt = refl
  at_set (x ∷ xs) (suc j) v lt = at_set xs j v (omega (arith, lt))

  pub beside_set : (xs : List X) (j i : ℕ) (v : X) → (i ≡ j → ⊥) → slice_get (slice_set xs j v) i ≡ slice_get xs i
  beside_set [] zero i v apart = refl
  beside_set [] (suc j) i v apart = refl
  beside_set (x ∷ xs) zero zero v apart = absurd (apart refl)
  beside_set (x ∷ xs) zero (suc i) v apart = refl
  beside_set (x ∷ xs) (suc j) zero v apart = refl
  beside_set (x ∷ xs) (suc j) (suc i) v apart = beside_set xs j i v (λ same. apart (ap (λ n. suc n) same))

  same_items : (xs ys : List X) → ((i : ℕ) → slice_get xs i ≡ slice_get ys i) → xs ≡ ys
  same_items [] [] same = refl
  same_items [] (y ∷ ys) same = absurd (let e : None ≡ Some y = same 0 in cc)
  same_items (x ∷ xs) [] same = absurd (let e : Some x ≡ None = same 0 in cc)
  same_items (x ∷ xs) (y ∷ ys) same = let e : Some x ≡ Some y = same 0 in let here : x ≡ y = cc in ap (λ z. z ∷ xs) here ∙ ap (λ zs. y ∷ zs) (same_items xs ys (λ i. same (suc i)))

-- ---- the lists of units, after each change

pub none_stand : (ss : List Singular) (s : Lists) → AreListed (map no_pairs ss) s
none_stand ss s n i k is stands = at (slice_get ss i) (sym (slice_get-map no_pairs ss i) ∙ is)
  where
    at : (o : Option Singular) → option_map no_pairs o ≡ Some k → is_in (listed s.lists n) i ≡ true
    at None is = absurd cc
    at (Some x) is =
        let same : no_pairs x ≡ k = cc in
        absurd (let e : false ≡ true = ap (λ (c : Couple). stands_in n c.pairs) same ∙ stands in cc)

pub one_changed : (couples : List Couple) (s : Lists) (j : ℕ) (k old : Couple) → j < length couples → slice_get couples j ≡ Some old → AreListed couples s
    → ((n : ℕ) → stands_in n k.pairs ≡ true → (stands_in n old.pairs ≡ true) ⊎ (is_in (listed s.lists n) j ≡ true)) → AreListed (slice_set couples j k) s
one_changed couples s j k old lt there each from n i m is stands = elim (cases_eq i j) [
  | inl same ↦ here same
  | inr apart ↦ each n i m (sym (beside_set couples j i k apart) ∙ is) stands
]
  where
    here : i ≡ j → is_in (listed s.lists n) i ≡ true
    here same =
        let e : Some k ≡ Some m = sym (at_set couples j k lt) ∙ (ap (slice_get (slice_set couples j k)) (sym same) ∙ is) in
        let new : m ≡ k = cc in
        ap (is_in (listed s.lists n)) same ∙ elim (from n (ap (λ (c : Couple). stands_in n c.pairs) (sym new) ∙ stands)) [
          | inl did ↦ each n j old there did
          | inr noted ↦ noted
        ]

pub all_forgotten : (couples : List Couple) (n : ℕ) (s t : Lists) → AreListed couples s → ((m : ℕ) → listed t.lists m ≡ none_left s.lists n m) → AreListed (map (forgotten n) couples) t
all_forgotten couples n s t each less m i k is stands = at (slice_get couples i) refl (sym (slice_get-map (forgotten n) couples i) ∙ is)
  where
    by : (o : Couple) → slice_get couples i ≡ Some o → forgotten n o ≡ k → (b : Bool) → (m == n) ≡ b → is_in (listed t.lists m) i ≡ true
    by o there made true h =
        let none : stands_in n (forgotten n o).pairs ≡ false = none_left_over (λ (p : ℕ × ℕ). p.0 == n || p.1 == n) o.pairs in
        let some : stands_in n (forgotten n o).pairs ≡ true = ap (λ (c : Couple). stands_in n c.pairs) made ∙ (ap (λ j. stands_in j k.pairs) (sym (eqb-true m n h)) ∙ stands) in
        absurd (let e : false ≡ true = sym none ∙ some in cc)
    by o there made false h =
        let did : stands_in m o.pairs ≡ true = stood_forgotten m n o (ap (λ (c : Couple). stands_in m c.pairs) made ∙ stands) in
        ap (λ l. is_in l i) (less m ∙ ap (λ b. cond b [] (listed s.lists m)) h) ∙ each m i o there did

    at : (o : Option Couple) → slice_get couples i ≡ o → option_map (forgotten n) o ≡ Some k → is_in (listed t.lists m) i ≡ true
    at None there made = absurd cc
    at (Some o) there made = let e : forgotten n o ≡ k = cc in by o there e (m == n) refl

-- ---- a unit is forgotten, couple by couple

-- each couple as it is once those of a list are done
abbrev pub Cleared : ℕ → List ℕ → List Couple → List Couple → Type 0
Cleared n list old now = (i : ℕ) → slice_get now i ≡ option_map (forgotten_if n list i) (slice_get old i)

module _ (n : ℕ) (list : List ℕ) (at d j : ℕ) (old now : List Couple) (within : at < length list) (is : j ≡ get_or list at d) (so_far : Cleared n (take at list) old now) where
  abbrev done : List ℕ
  done = take at list

  one_done : take (at + 1) list ≡ done ++ j ∷ []
  one_done = ap (λ k. take k list) (add-one at) ∙ (take-suc list at d within ∙ ap (λ k. done ++ k ∷ []) (sym is))

  or_nothing : (b : Bool) → (b || false) ≡ b
  or_nothing true = refl
  or_nothing false = refl

  is_in-last : (i : ℕ) → is_in (done ++ j ∷ []) i ≡ (is_in done i || (j == i))
  is_in-last i = list_any-append (λ k. k == i) done (j ∷ []) ∙ ap (λ b. is_in done i || b) (or_nothing (j == i))

  beside : (i : ℕ) → (i ≡ j → ⊥) → is_in (take (at + 1) list) i ≡ is_in done i
  beside i apart = ap (λ l. is_in l i) one_done ∙ (is_in-last i ∙ (ap (λ b. is_in done i || b) (ne_eqb j i (λ same. apart (sym same))) ∙ or_nothing (is_in done i)))

  or_yes : (b : Bool) → (b || true) ≡ true
  or_yes true = refl
  or_yes false = refl

  in_now : is_in (take (at + 1) list) j ≡ true
  in_now = ap (λ l. is_in l j) one_done ∙ (is_in-last j ∙ (ap (λ b. is_in done j || b) (eq-eqb j j refl) ∙ or_yes (is_in done j)))

  others : (i : ℕ) → (i ≡ j → ⊥) → slice_get now i ≡ option_map (forgotten_if n (take (at + 1) list) i) (slice_get old i)
  others i apart = so_far i ∙ ap (λ b. option_map (λ k. cond b (forgotten n k) k) (slice_get old i)) (sym (beside i apart))

  -- a number of a couple
  pub cleared_one : (k : Couple) (after : List Couple) → j < length now → slice_get now j ≡ Some k → after ≡ slice_set now j (forgotten n k) → Cleared n (take (at + 1) list) old after
  cleared_one k after lt there new i = ap (λ (ks : List Couple). slice_get ks i) new ∙ elim (cases_eq i j) [
    | inl same ↦ subst (λ m. slice_get (slice_set now j (forgotten n k)) m ≡ option_map (forgotten_if n (take (at + 1) list) m) (slice_get old m)) (sym same) (here (slice_get old j) refl (sym there ∙ so_far j))
    | inr apart ↦ beside_set now j i (forgotten n k) apart ∙ others i apart
  ]
    where
      again : (b : Bool) (o : Couple) → forgotten n (cond b (forgotten n o) o) ≡ forgotten n o
      again true o = forgotten_twice n o
      again false o = refl

      here : (o : Option Couple) → slice_get old j ≡ o → Some k ≡ option_map (forgotten_if n done j) (slice_get old j) → slice_get (slice_set now j (forgotten n k)) j ≡ option_map (forgotten_if n (take (at + 1) list) j) (slice_get old j)
      here None was e = absurd (let f : Some k ≡ None = e ∙ ap (option_map (forgotten_if n done j)) was in cc)
      here (Some o) was e =
          let f : Some k ≡ Some (forgotten_if n done j o) = e ∙ ap (option_map (forgotten_if n done j)) was in
          let same : k ≡ forgotten_if n done j o = cc in
          at_set now j (forgotten n k) lt
          ∙ (ap (λ c. Some c) (ap (forgotten n) same ∙ (again (is_in done j) o ∙ ap (λ b. cond b (forgotten n o) o) (sym in_now)))
          ∙ ap (option_map (forgotten_if n (take (at + 1) list) j)) (sym was))

  -- a number past all couples
  pub cleared_past : length now ≤ j → Cleared n (take (at + 1) list) old now
  cleared_past past i = elim (cases_eq i j) [
    | inl same ↦ subst (λ m. slice_get now m ≡ option_map (forgotten_if n (take (at + 1) list) m) (slice_get old m)) (sym same) (here (slice_get old j) refl (sym (slice_get_past now j past) ∙ so_far j))
    | inr apart ↦ others i apart
  ]
    where
      here : (o : Option Couple) → slice_get old j ≡ o → None ≡ option_map (forgotten_if n done j) (slice_get old j) → slice_get now j ≡ option_map (forgotten_if n (take (at + 1) list) j) (slice_get old j)
      here None was e = slice_get_past now j past ∙ ap (option_map (forgotten_if n (take (at + 1) list) j)) (sym was)
      here (Some o) was e = absurd (let f : None ≡ Some (forgotten_if n done j o) = e ∙ ap (option_map (forgotten_if n done j)) was in cc)

-- once the whole list is done, where it has each couple in which the unit stands
pub cleared_all : (n : ℕ) (list : List ℕ) (at : ℕ) (old now : List Couple) → length list ≤ at → HasEach n old list → Cleared n (take at list) old now → now ≡ map (forgotten n) old
cleared_all n list at old now le each so_far = same_items now (map (forgotten n) old) (λ i. so_far i ∙ (ap (λ l. option_map (forgotten_if n l i) (slice_get old i)) (take_all at list le) ∙ (by i (slice_get old i) refl ∙ sym (slice_get-map (forgotten n) old i))))
  where
    moved : (i : ℕ) (o : Couple) → slice_get old i ≡ Some o → (b : Bool) → is_in list i ≡ b → forgotten_if n list i o ≡ forgotten n o
    moved i o was true h = ap (λ b. cond b (forgotten n o) o) h
    moved i o was false h = ap (λ b. cond b (forgotten n o) o) h ∙ still (stands_in n o.pairs) refl
      where
        still : (b : Bool) → stands_in n o.pairs ≡ b → o ≡ forgotten n o
        still true stands = absurd (let e : true ≡ false = sym (each i o was stands) ∙ h in cc)
        still false apart = sym (unmoved n o apart)

    by : (i : ℕ) (o : Option Couple) → slice_get old i ≡ o → option_map (forgotten_if n list i) (slice_get old i) ≡ option_map (forgotten n) (slice_get old i)
    by i None was = rw was refl
    by i (Some o) was = rw was (ap (λ c. Some c) (moved i o was (is_in list i) refl))
