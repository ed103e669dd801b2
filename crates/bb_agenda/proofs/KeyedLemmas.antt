-- Activations that are kept under their numbers, and their list.
use Rattle.std.proofs.Common.{◌≡◌, ℕ, ℤ, ◌<◌, ◌==◌, Bool, true, false, cond, not, List, [], ◌∷◌, ◌++◌, map, filter, find, Some, None, refl, sym, ap, subst, ◌∙◌, arith, eqb-true, eq-eqb, ne_eqb}
use Rattle.std.specs.List.{AllByRecursion, list_any}
use Rattle.std.specs.Map.{lookup, keys_of, values_of, remove_entry, set_value}
use Rattle.std.specs.Ordering.{is_eq, nat_cmp}
use Rattle.std.specs.declared.cmp.Ordering.TheVariants.{Less, Equal, Greater}
use Rattle.std.specs.BTreeMap.{is_at, insert_entry}
use Rattle.std.specs.Prelude.{nat_lt}
use Rattle.std.proofs.lemmas.Bool.{le-ltb, or_parts}
use Rattle.bb_agenda.specs.declared.focusing.activation.Activation.{Activation}
use Rattle.bb_agenda.specs.Agenda.{number_of, has_number}
use Rattle.bb_agenda.specs.Changes.{other_than, based_at, rebased}
use Rattle.bb_agenda.specs.Fits.{RisesBy}
use Rattle.bb_agenda.specs.proving.Filed.{AreKeyed}
use Rattle.bb_agenda.proofs.RisingLemmas.{above_absent, without_absent}
use Rattle.bb_agenda.proofs.ChosenLemmas.{each_more}

abbrev Entries : Type 0
Entries = List (ℕ × Activation)

-- the test of a key
at_number : (n m : ℕ) → is_at (nat_cmp n) m ≡ (m == n)
at_number n m = by (m == n) refl
  where
    by : (b : Bool) → (m == n) ≡ b → is_at (nat_cmp n) m ≡ b
    by true is =
        let same : m ≡ n = eqb-true m n is in
        rw (le-ltb n m (omega (arith, same)), eq-eqb n m (sym same)) refl
    by false is =
        let apart : (n == m) ≡ false = ne_eqb n m (λ same. let e : (m == n) ≡ true = eq-eqb m n (sym same) in absurd cc) in
        rw apart (unequal (nat_lt n m))
      where
        unequal : (t : Bool) → is_eq (cond t Less (cond false Equal Greater)) ≡ false
        unequal true = refl
        unequal false = refl

-- what is found under a number
pub lookup_is_find : (n : ℕ) (es : Entries) → AreKeyed es → lookup (is_at (nat_cmp n)) es ≡ find (has_number n) (values_of es)
lookup_is_find n [] keyed = refl
lookup_is_find n (e ∷ es) keyed = ap (λ b. cond b (Some e.1) (lookup (is_at (nat_cmp n)) es)) (at_number n e.0 ∙ ap (λ m. m == n) keyed.0) ∙ ap (cond (has_number n e.1) (Some e.1)) (lookup_is_find n es keyed.1)

-- the keys are the numbers
pub keys_are : (es : Entries) → AreKeyed es → keys_of es ≡ map number_of (values_of es)
keys_are [] keyed = refl
keys_are (e ∷ es) keyed = ap (λ n. n ∷ keys_of es) keyed.0 ∙ ap (λ ns. e.1.number ∷ ns) (keys_are es keyed.1)

-- ---- one more, above all

pub keys_below : (n : ℕ) (es : Entries) → AreKeyed es → AllByRecursion (λ a. a.number < n) (values_of es) → AllByRecursion (λ e. e.0 < n) es
keys_below n [] keyed below = tt
keys_below n (e ∷ es) keyed below = (subst (λ m. m < n) (sym keyed.0) below.0, keys_below n es keyed.1 below.1)

pub insert_last : (k : ℕ) (v : Activation) (es : Entries) → AllByRecursion (λ e. e.0 < k) es → insert_entry nat_cmp es k v ≡ es ++ (k, v) ∷ []
insert_last k v [] below = refl
insert_last k v (e ∷ es) below =
    let lt : e.0 < k = below.0 in
    rw (le-ltb k e.0 (omega (arith, lt)), ne_eqb k e.0 (λ same. omega (arith, lt, same))) (ap (λ fs. e ∷ fs) (insert_last k v es below.1))

pub remove_last : (k : ℕ) (v : Activation) (es : Entries) → AllByRecursion (λ e. e.0 < k) es → remove_entry (is_at (nat_cmp k)) (es ++ (k, v) ∷ []) ≡ es
remove_last k v [] below = rw (at_number k k, eq-eqb k k refl) refl
remove_last k v (e ∷ es) below =
    let lt : e.0 < k = below.0 in
    rw (at_number k e.0, ne_eqb e.0 k (λ same. omega (arith, lt, same))) (ap (λ fs. e ∷ fs) (remove_last k v es below.1))

values_last : (k : ℕ) (v : Activation) (es : Entries) → values_of (es ++ (k, v) ∷ []) ≡ values_of es ++ v ∷ []
values_last k v [] = refl
values_last k v (e ∷ es) = ap (λ vs. e.1 ∷ vs) (values_last k v es)

module _ (es : Entries) (keyed : AreKeyed es) where
  module _ (a : Activation) (below : AllByRecursion (λ b. b.number < a.number) (values_of es)) where
    put_is : insert_entry nat_cmp es a.number a ≡ es ++ (a.number, a) ∷ []
    put_is = insert_last a.number a es (keys_below a.number es keyed below)

    pub values_put : values_of (insert_entry nat_cmp es a.number a) ≡ values_of es ++ a ∷ []
    values_put = ap values_of put_is ∙ values_last a.number a es

    pub keyed_put : AreKeyed (insert_entry nat_cmp es a.number a)
    keyed_put = subst AreKeyed (sym put_is) (each_more (λ (e : ℕ × Activation). e.0 ≡ e.1.number) es (a.number, a) keyed refl)

pub keyed_less : (n : ℕ) (es : Entries) → AreKeyed es → AreKeyed (remove_entry (is_at (nat_cmp n)) es)
keyed_less n [] keyed = tt
keyed_less n (e ∷ es) keyed = at (is_at (nat_cmp n) e.0) (keyed_less n es keyed.1)
  where
    at : (b : Bool) → AreKeyed (remove_entry (is_at (nat_cmp n)) es) → AreKeyed (cond b es (e ∷ remove_entry (is_at (nat_cmp n)) es))
    at true later = keyed.1
    at false later = (keyed.0, later)

rest_absent : (n : ℕ) (e : ℕ × Activation) (es : Entries) → RisesBy number_of (values_of (e ∷ es)) → has_number n e.1 ≡ true → list_any (has_number n) (values_of es) ≡ false
rest_absent n e es rising is = above_absent number_of n (values_of es) (subst (λ m. AllByRecursion (λ (y : Activation). m < y.number) (values_of es)) (eqb-true e.1.number n is) rising.0)

pub values_less : (n : ℕ) (es : Entries) → AreKeyed es → RisesBy number_of (values_of es) → values_of (remove_entry (is_at (nat_cmp n)) es) ≡ filter (other_than n) (values_of es)
values_less n [] keyed rising = refl
values_less n (e ∷ es) keyed rising =
    ap (λ b. values_of (cond b es (e ∷ remove_entry (is_at (nat_cmp n)) es))) (at_number n e.0 ∙ ap (λ m. m == n) keyed.0)
    ∙ by (has_number n e.1) refl (values_less n es keyed.1 rising.1)
  where
    by : (b : Bool) → has_number n e.1 ≡ b → values_of (remove_entry (is_at (nat_cmp n)) es) ≡ filter (other_than n) (values_of es)
        → values_of (cond b es (e ∷ remove_entry (is_at (nat_cmp n)) es)) ≡ cond (not b) (e.1 ∷ filter (other_than n) (values_of es)) (filter (other_than n) (values_of es))
    by true is later = sym (without_absent number_of n (values_of es) (rest_absent n e es rising is))
    by false is later = ap (λ vs. e.1 ∷ vs) later

-- ---- another base for one

unchanged : (n : ℕ) (base : ℤ) (xs : List Activation) → list_any (has_number n) xs ≡ false → map (rebased n base) xs ≡ xs
unchanged n base [] none = refl
unchanged n base (x ∷ xs) none =
    let parts = or_parts (has_number n x) (list_any (has_number n) xs) none in
    rw parts.0 (ap (λ ys. x ∷ ys) (unchanged n base xs parts.1))

-- no activation has the number
pub nothing_rebased : (n : ℕ) (base : ℤ) (xs : List Activation) → find (has_number n) xs ≡ None → map (rebased n base) xs ≡ xs
nothing_rebased n base [] none = refl
nothing_rebased n base (x ∷ xs) none = at (has_number n x) refl none (nothing_rebased n base xs)
  where
    at : (b : Bool) → has_number n x ≡ b → cond b (Some x) (find (has_number n) xs) ≡ None → (find (has_number n) xs ≡ None → map (rebased n base) xs ≡ xs) → map (rebased n base) (x ∷ xs) ≡ x ∷ xs
    at true h none later = absurd cc
    at false h none later = rw h (ap (λ ys. x ∷ ys) (later none))

-- an activation that gets the base that it has stays as it is
pub same_base : (n : ℕ) (xs : List Activation) (a : Activation) → RisesBy number_of xs → find (has_number n) xs ≡ Some a → map (rebased n a.base) xs ≡ xs
same_base n [] a rising is = refl
same_base n (x ∷ xs) a rising is = at (has_number n x) refl is (same_base n xs a rising.1)
  where
    at : (b : Bool) → has_number n x ≡ b → cond b (Some x) (find (has_number n) xs) ≡ Some a → (find (has_number n) xs ≡ Some a → map (rebased n a.base) xs ≡ xs) → map (rebased n a.base) (x ∷ xs) ≡ x ∷ xs
    at true h is later =
        let own : x ≡ a = cc in
        let rest = above_absent number_of n xs (subst (λ m. AllByRecursion (λ (y : Activation). m < y.number) xs) (eqb-true x.number n h) rising.0) in
        rw (h, unchanged n a.base xs rest) (ap (λ (y : Activation). based_at y.base x ∷ xs) (sym own))
    at false h is later = rw h (ap (λ ys. x ∷ ys) (later is))

module _ (n : ℕ) (base : ℤ) (a : Activation) where
  abbrev with_it : Entries → Entries
  with_it es = set_value (is_at (nat_cmp n)) es (based_at base a)

  pub values_rebased : (es : Entries) → AreKeyed es → RisesBy number_of (values_of es) → find (has_number n) (values_of es) ≡ Some a → values_of (with_it es) ≡ map (rebased n base) (values_of es)
  values_rebased [] keyed rising is = refl
  values_rebased (e ∷ es) keyed rising is =
      ap (λ b. values_of (cond b ((e.0, based_at base a) ∷ es) (e ∷ with_it es))) (at_number n e.0 ∙ ap (λ m. m == n) keyed.0)
      ∙ by (has_number n e.1) refl is (values_rebased es keyed.1 rising.1)
    where
      by : (b : Bool) → has_number n e.1 ≡ b → cond b (Some e.1) (find (has_number n) (values_of es)) ≡ Some a → (find (has_number n) (values_of es) ≡ Some a → values_of (with_it es) ≡ map (rebased n base) (values_of es))
          → values_of (cond b ((e.0, based_at base a) ∷ es) (e ∷ with_it es)) ≡ based_at (cond b base e.1.base) e.1 ∷ map (rebased n base) (values_of es)
      by true h is later =
          let own : e.1 ≡ a = cc in
          ap (λ (y : Activation). based_at base y ∷ values_of es) (sym own) ∙ ap (λ ys. based_at base e.1 ∷ ys) (sym (unchanged n base (values_of es) (rest_absent n e es rising h)))
      by false h is later = ap (λ vs. e.1 ∷ vs) (later is)

  pub keyed_rebased : (es : Entries) → AreKeyed es → find (has_number n) (values_of es) ≡ Some a → AreKeyed (with_it es)
  keyed_rebased [] keyed is = tt
  keyed_rebased (e ∷ es) keyed is = subst (λ b. AreKeyed (cond b ((e.0, based_at base a) ∷ es) (e ∷ with_it es))) (sym (at_number n e.0 ∙ ap (λ m. m == n) keyed.0)) (by (has_number n e.1) is (keyed_rebased es keyed.1))
    where
      by : (b : Bool) → cond b (Some e.1) (find (has_number n) (values_of es)) ≡ Some a → (find (has_number n) (values_of es) ≡ Some a → AreKeyed (with_it es)) → AreKeyed (cond b ((e.0, based_at base a) ∷ es) (e ∷ with_it es))
      by true is later =
          let own : e.1 ≡ a = cc in
          (keyed.0 ∙ ap number_of own, keyed.1)
      by false is later = (keyed.0, later is)
