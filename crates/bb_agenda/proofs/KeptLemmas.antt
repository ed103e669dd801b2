-- What the code keeps of an agenda, after each change.
use Rattle.std.proofs.Common.{◌≡◌, ℕ, zero, suc, ◌+◌, ◌≤◌, ℤ, Bool, true, false, cond, ◌==◌, List, [], ◌∷◌, ◌++◌, length, map, filter, find, Option, Some, None, refl, sym, ap, subst, ◌∙◌, arith, ◌<◌, ◌||◌, ◌⊎◌, inl, inr, eqb-true, eq-eqb, ne_eqb, leb-false}
use Rattle.std.specs.List.{AllByRecursion, filter_map, range_with_len}
use Rattle.std.specs.Option.{option_map_or, option_or}
use Rattle.std.specs.Prelude.{nat_le, option_map, is_some}
use Rattle.std.proofs.lemmas.Bool.{or_parts, cases_lt}
use Rattle.std.proofs.lemmas.List.Elements.{filter_map-append}
use Rattle.std.proofs.lemmas.List.Folds.{find-append}
use Rattle.std.proofs.lemmas.List.FromFn.{length-map-range_with_len, map-range_with_len_more, get_or-map-range_with_len}
use Rattle.std.proofs.lemmas.Option.{slice_get-get_or, slice_get_past}
use Rattle.bb_agenda.specs.declared.focusing.activation.Activation.{Activation}
use Rattle.bb_agenda.specs.declared.status.Status.{Status}
use Rattle.bb_agenda.specs.declared.status.Status.TheVariants as statuses
use Rattle.bb_agenda.specs.Agenda.{Agenda, Entry, pending, executed, obviated, if_pending, status_of, entry_of, status, is_full, has_number, number_of, pending_at}
use Rattle.bb_agenda.specs.focusing.Foci.{Foci, Setting}
use Rattle.bb_agenda.specs.Changes.{with_activation, becoming, based_at, other_than, rebased}
use Rattle.bb_agenda.specs.declared.agenda.TheConstants.{PENDING_LIMIT, NUMBER_LIMIT}
use Rattle.bb_agenda.specs.Fits.{RisesBy, Fits}
use Rattle.bb_agenda.specs.proving.Kept.{entry_in, entries_of, IsKept}
use Rattle.bb_agenda.proofs.AgendaLemmas.{pending_over, pending_changed, entry_rebased}
use Rattle.bb_agenda.proofs.ChosenLemmas.{each_more, each_weaker, find_none, found_passes, found_holds}
use Rattle.bb_agenda.proofs.FoundLemmas.{not_found_less, found_less, found_rebased}
use Rattle.bb_agenda.proofs.RisingLemmas.{each_filter}

-- by whether a number was obviated
by_gone : (t : Bool) (e f : Entry) → (t ≡ false → e ≡ f) → cond t obviated e ≡ cond t obviated f
by_gone true e f same = refl
by_gone false e f same = same refl

-- ---- the lists

pub given_kept : (given : ℕ) (kept : List Activation) (gone : ℕ → Bool) → length (entries_of given kept gone) ≡ given
unfolding entries_of
given_kept given kept gone = length-map-range_with_len (entry_in kept gone) 1 given

-- a change of each entry
pub entries_become : (given : ℕ) (kept left : List Activation) (gone went : ℕ → Bool) (f : Entry → Entry) → ((n : ℕ) → entry_in left went n ≡ f (entry_in kept gone n))
    → entries_of given left went ≡ map f (entries_of given kept gone)
unfolding entries_of
entries_become given kept left gone went f each = all (range_with_len 1 given)
  where
    all : (ns : List ℕ) → map (entry_in left went) ns ≡ map f (map (entry_in kept gone) ns)
    all [] = refl
    all (n ∷ ns) = ap (λ e. e ∷ map (entry_in left went) ns) (each n) ∙ ap (λ es. f (entry_in kept gone n) ∷ es) (all ns)

-- the agenda is full, by what the code keeps
pub full_kept : (given : ℕ) (kept : List Activation) (gone : ℕ → Bool) (foci : Foci) (setting : Setting) (refused : Bool) → IsKept given kept gone
    → is_full (record { given = entries_of given kept gone; foci = foci; setting = setting; refused = refused }) ≡ (nat_le PENDING_LIMIT (length kept) || nat_le NUMBER_LIMIT given)
full_kept given kept gone foci setting refused k =
    ap (λ l. nat_le PENDING_LIMIT (length l) || nat_le NUMBER_LIMIT (length (entries_of given kept gone))) k.all
    ∙ ap (λ n. nat_le PENDING_LIMIT (length kept) || nat_le NUMBER_LIMIT n) (given_kept given kept gone)

pub more_numbers : (given : ℕ) (kept : List Activation) (gone : ℕ → Bool) (foci : Foci) (setting : Setting) (refused : Bool) → IsKept given kept gone
    → is_full (record { given = entries_of given kept gone; foci = foci; setting = setting; refused = refused }) ≡ false → given < NUMBER_LIMIT
more_numbers given kept gone foci setting refused k room =
    leb-false NUMBER_LIMIT given (or_parts (nat_le PENDING_LIMIT (length kept)) (nat_le NUMBER_LIMIT given) (sym (full_kept given kept gone foci setting refused k) ∙ room)).1

-- ---- no activation was given

pub kept_first : (gone : ℕ → Bool) → ((n : ℕ) → gone n ≡ false) → IsKept 0 [] gone
unfolding entries_of
kept_first gone none = record { numbers = tt; gone_given = λ n lt. none n; all = refl }

pub none_kept : (gone : ℕ → Bool) → entries_of 0 [] gone ≡ []
unfolding entries_of
none_kept gone = refl

-- ---- an activation is added

or_none : (o : Option Activation) → option_or o None ≡ o
or_none (Some a) = refl
or_none None = refl

entry_before : (kept : List Activation) (gone : ℕ → Bool) (a : Activation) (n : ℕ) → has_number n a ≡ false → entry_in (kept ++ a ∷ []) gone n ≡ entry_in kept gone n
entry_before kept gone a n other =
    ap (λ o. cond (gone n) obviated (option_map_or pending o executed))
    (find-append (has_number n) kept (a ∷ []) ∙ ap (option_or (find (has_number n) kept)) (ap (λ b. cond b (Some a) None) other) ∙ or_none (find (has_number n) kept))

entry_last : (kept : List Activation) (gone : ℕ → Bool) (a : Activation) (n : ℕ) → a.number ≡ n → gone n ≡ false → find (has_number n) kept ≡ None → entry_in (kept ++ a ∷ []) gone n ≡ pending a
entry_last kept gone a n is stays none =
    ap (λ b. cond b obviated (option_map_or pending (find (has_number n) (kept ++ a ∷ [])) executed)) stays
    ∙ ap (λ o. option_map_or pending o executed)
    (find-append (has_number n) kept (a ∷ []) ∙ ap (λ o. option_or o (find (has_number n) (a ∷ []))) none ∙ ap (λ b. cond b (Some a) None) (eq-eqb a.number n is))

entries_before : (kept : List Activation) (gone : ℕ → Bool) (a : Activation) (n : ℕ) → n + 1 ≤ a.number → map (entry_in (kept ++ a ∷ []) gone) (range_with_len 1 n) ≡ map (entry_in kept gone) (range_with_len 1 n)
entries_before kept gone a zero le = refl
entries_before kept gone a (suc n) le =
    let e : suc n ≡ n + 1 = omega arith in
    let below : 1 + n ≡ suc n = omega arith in
    subst (λ m. map (entry_in (kept ++ a ∷ []) gone) (range_with_len 1 m) ≡ map (entry_in kept gone) (range_with_len 1 m)) (sym e)
    (map-range_with_len_more (entry_in (kept ++ a ∷ []) gone) 1 n (suc n) below
    ∙ ap (λ l. l ++ entry_in (kept ++ a ∷ []) gone (suc n) ∷ []) (entries_before kept gone a n (omega (arith, le)))
    ∙ ap (λ s. map (entry_in kept gone) (range_with_len 1 n) ++ s ∷ []) (entry_before kept gone a (suc n) (ne_eqb a.number (suc n) (λ is. omega (arith, is, le))))
    ∙ sym (map-range_with_len_more (entry_in kept gone) 1 n (suc n) below))

module _ (given : ℕ) (kept : List Activation) (gone : ℕ → Bool) (k : IsKept given kept gone) (a : Activation) (is : a.number ≡ given + 1) where
  pub all_below : AllByRecursion (λ b. b.number < a.number) kept
  all_below = each_weaker (λ b. b.number ≤ given) (λ b. b.number < a.number) (λ b le. omega (arith, is, le)) kept k.numbers

  entries_more : entries_of (given + 1) (kept ++ a ∷ []) gone ≡ entries_of given kept gone ++ pending a ∷ []
  unfolding entries_of
  entries_more =
      let next : 1 + given ≡ a.number = omega (arith, is) in
      let none : find (has_number a.number) kept ≡ None =
      find_none (has_number a.number) kept (each_weaker (λ b. b.number < a.number) (λ b. has_number a.number b ≡ false) (λ b lt. ne_eqb b.number a.number (λ same. omega (arith, same, lt))) kept all_below) in
      map-range_with_len_more (entry_in (kept ++ a ∷ []) gone) 1 given a.number next
      ∙ ap (λ l. l ++ entry_in (kept ++ a ∷ []) gone a.number ∷ []) (entries_before kept gone a given (omega (arith, is)))
      ∙ ap (λ s. map (entry_in kept gone) (range_with_len 1 given) ++ s ∷ []) (entry_last kept gone a a.number refl (k.gone_given a.number (omega (arith, is))) none)

  pub kept_more : IsKept (given + 1) (kept ++ a ∷ []) gone
  kept_more = record {
    numbers = each_more (λ b. b.number ≤ given + 1) kept a (each_weaker (λ b. b.number ≤ given) (λ b. b.number ≤ given + 1) (λ b le. omega (arith, le)) kept k.numbers) (omega (arith, is));
    gone_given = λ n lt. k.gone_given n (omega (arith, lt));
    all = ap (filter_map if_pending) entries_more ∙ filter_map-append if_pending (entries_of given kept gone) (pending a ∷ []) ∙ ap (λ l. l ++ a ∷ []) k.all;
  }

  pub added_kept : (foci : Foci) (setting : Setting) (refused : Bool) (source unit : ℕ) (base : ℤ) → a ≡ record { number = given + 1; source = source; unit = unit; base = base }
      → record { given = entries_of (given + 1) (kept ++ a ∷ []) gone; foci = foci; setting = setting; refused = refused } ≡ with_activation (record { given = entries_of given kept gone; foci = foci; setting = setting; refused = refused }) source unit base
  added_kept foci setting refused source unit base new =
      let of_given : List Entry → Agenda = λ l. record { given = l; foci = foci; setting = setting; refused = refused } in
      let of_number : ℕ → Activation = λ n. record { number = n; source = source; unit = unit; base = base } in
      ap of_given (entries_more ∙ ap (λ b. entries_of given kept gone ++ pending b ∷ []) (new ∙ ap (λ n. of_number (n + 1)) (sym (given_kept given kept gone))))

-- ---- one is executed or obviated

pub is_there : (o : Option Activation) → is_some o ≡ true → (a : Activation) × (o ≡ Some a)
is_there None there = absurd cc
is_there (Some a) there = (a, refl)

pub is_absent : (o : Option Activation) → is_some o ≡ false → o ≡ None
is_absent None absent = refl
is_absent (Some a) absent = absurd cc

-- the entry that an activation gets, if it is the one of the number
found_entry : (number n : ℕ) (kept : List Activation) (f : Activation → Entry) → (n == number) ≡ false
    → becoming number f (option_map_or pending (find (has_number n) kept) executed) ≡ option_map_or pending (find (has_number n) kept) executed
found_entry number n kept f other = at (find (has_number n) kept) refl
  where
    at : (o : Option Activation) → find (has_number n) kept ≡ o → becoming number f (option_map_or pending o executed) ≡ option_map_or pending o executed
    at None is = refl
    at (Some a) is =
        let own : a.number ≡ n = eqb-true a.number n (found_passes (has_number n) kept a is) in
        ap (λ b. cond b (f a) (pending a)) (ap (λ m. m == number) own ∙ other)

-- a becoming of an entry that may be obviated
becoming_gone : (number : ℕ) (f : Activation → Entry) (t : Bool) (e : Entry) → becoming number f (cond t obviated e) ≡ cond t obviated (becoming number f e)
becoming_gone number f true e = refl
becoming_gone number f false e = refl

entry_executed : (number n : ℕ) (kept : List Activation) (gone : ℕ → Bool) (t : Bool) → (n == number) ≡ t → entry_in (filter (other_than number) kept) gone n ≡ becoming number (λ _. executed) (entry_in kept gone n)
entry_executed number n kept gone true same =
    by_gone (gone n) (option_map_or pending (find (has_number n) (filter (other_than number) kept)) executed) (becoming number (λ _. executed) (option_map_or pending (find (has_number n) kept) executed))
    (λ stays. ap (λ o. option_map_or pending o executed) (subst (λ m. find (has_number m) (filter (other_than number) kept) ≡ None) (sym is) (not_found_less number kept)) ∙ sym (at (find (has_number n) kept) refl))
    ∙ sym (becoming_gone number (λ _. executed) (gone n) (option_map_or pending (find (has_number n) kept) executed))
  where
    is : n ≡ number
    is = eqb-true n number same

    at : (o : Option Activation) → find (has_number n) kept ≡ o → becoming number (λ _. executed) (option_map_or pending o executed) ≡ executed
    at None found = refl
    at (Some a) found = ap (λ b. cond b executed (pending a)) (subst (λ m. has_number m a ≡ true) is (found_passes (has_number n) kept a found))
entry_executed number n kept gone false other =
    ap (λ o. cond (gone n) obviated (option_map_or pending o executed)) (found_less number n kept other)
    ∙ ap (λ e. cond (gone n) obviated e) (sym (found_entry number n kept (λ _. executed) other))
    ∙ sym (becoming_gone number (λ _. executed) (gone n) (option_map_or pending (find (has_number n) kept) executed))

module _ (given : ℕ) (kept : List Activation) (gone : ℕ → Bool) (number : ℕ) where
  pub executed_kept : entries_of given (filter (other_than number) kept) gone ≡ map (becoming number (λ _. executed)) (entries_of given kept gone)
  executed_kept = entries_become given kept (filter (other_than number) kept) gone gone (becoming number (λ _. executed)) (λ n. entry_executed number n kept gone (n == number) refl)

  pub kept_executed : IsKept given kept gone → IsKept given (filter (other_than number) kept) gone
  kept_executed k = record {
    numbers = each_filter (λ a. a.number ≤ given) (other_than number) kept k.numbers;
    gone_given = k.gone_given;
    all = ap (filter_map if_pending) executed_kept ∙ pending_over executed refl number (entries_of given kept gone) ∙ ap (filter (other_than number)) k.all;
  }

-- the numbers that were obviated, with one more
abbrev pub IsOneMore : ℕ → (gone went : ℕ → Bool) → Type 0
IsOneMore number gone went = (n : ℕ) → went n ≡ cond (n == number) true (gone n)

module _ (given : ℕ) (kept : List Activation) (gone went : ℕ → Bool) (number : ℕ) (a : Activation) (there : find (has_number number) kept ≡ Some a) (more : IsOneMore number gone went) where
  entry_obviated : (n : ℕ) (t : Bool) → (n == number) ≡ t → entry_in (filter (other_than number) kept) went n ≡ becoming number (λ _. obviated) (entry_in kept gone n)
  entry_obviated n true same =
      ap (λ b. cond b obviated (option_map_or pending (find (has_number n) (filter (other_than number) kept)) executed)) (more n ∙ ap (λ b. cond b true (gone n)) same)
      ∙ sym (becoming_gone number (λ _. obviated) (gone n) (option_map_or pending (find (has_number n) kept) executed) ∙ at (gone n))
    where
      is : n ≡ number
      is = eqb-true n number same

      found : becoming number (λ _. obviated) (option_map_or pending (find (has_number n) kept) executed) ≡ obviated
      found =
          ap (λ o. becoming number (λ _. obviated) (option_map_or pending o executed)) (subst (λ m. find (has_number m) kept ≡ Some a) (sym is) there)
          ∙ ap (λ b. cond b obviated (pending a)) (found_passes (has_number number) kept a there)

      at : (b : Bool) → cond b obviated (becoming number (λ _. obviated) (option_map_or pending (find (has_number n) kept) executed)) ≡ obviated
      at true = refl
      at false = found
  entry_obviated n false other =
      ap (λ b. cond b obviated (option_map_or pending (find (has_number n) (filter (other_than number) kept)) executed)) (more n ∙ ap (λ b. cond b true (gone n)) other)
      ∙ ap (λ o. cond (gone n) obviated (option_map_or pending o executed)) (found_less number n kept other)
      ∙ ap (λ e. cond (gone n) obviated e) (sym (found_entry number n kept (λ _. obviated) other))
      ∙ sym (becoming_gone number (λ _. obviated) (gone n) (option_map_or pending (find (has_number n) kept) executed))

  pub obviated_kept : entries_of given (filter (other_than number) kept) went ≡ map (becoming number (λ _. obviated)) (entries_of given kept gone)
  obviated_kept = entries_become given kept (filter (other_than number) kept) gone went (becoming number (λ _. obviated)) (λ n. entry_obviated n (n == number) refl)

  pub kept_obviated : IsKept given kept gone → IsKept given (filter (other_than number) kept) went
  kept_obviated k = record {
    numbers = each_filter (λ b. b.number ≤ given) (other_than number) kept k.numbers;
    gone_given = λ n lt. more n ∙ ap (λ b. cond b true (gone n)) (ne_eqb n number (λ same. let le = within k in omega (arith, lt, same, le))) ∙ k.gone_given n lt;
    all = ap (filter_map if_pending) obviated_kept ∙ pending_over obviated refl number (entries_of given kept gone) ∙ ap (filter (other_than number)) k.all;
  }
    where
      within : IsKept given kept gone → number ≤ given
      within k =
          let own : a.number ≡ number = eqb-true a.number number (found_passes (has_number number) kept a there) in
          subst (λ m. m ≤ given) own (found_holds (has_number number) (λ b. b.number ≤ given) kept a k.numbers there)

-- ---- one gets another base

entry_changed : (number n : ℕ) (base : ℤ) (kept : List Activation) (gone : ℕ → Bool) → entry_in (map (rebased number base) kept) gone n ≡ becoming number (λ x. pending (based_at base x)) (entry_in kept gone n)
entry_changed number n base kept gone =
    ap (λ o. cond (gone n) obviated (option_map_or pending o executed)) (found_rebased number n base kept)
    ∙ ap (λ e. cond (gone n) obviated e) (at (find (has_number n) kept))
    ∙ sym (becoming_gone number (λ x. pending (based_at base x)) (gone n) (option_map_or pending (find (has_number n) kept) executed))
  where
    at : (o : Option Activation) → option_map_or pending (option_map (rebased number base) o) executed ≡ becoming number (λ x. pending (based_at base x)) (option_map_or pending o executed)
    at None = refl
    at (Some a) = sym (entry_rebased number base a)

module _ (given : ℕ) (kept : List Activation) (gone : ℕ → Bool) (number : ℕ) (base : ℤ) where
  pub rebased_kept : entries_of given (map (rebased number base) kept) gone ≡ map (becoming number (λ x. pending (based_at base x))) (entries_of given kept gone)
  rebased_kept = entries_become given kept (map (rebased number base) kept) gone gone (becoming number (λ x. pending (based_at base x))) (λ n. entry_changed number n base kept gone)

  pub kept_rebased : IsKept given kept gone → IsKept given (map (rebased number base) kept) gone
  kept_rebased k = record {
    numbers = each kept k.numbers;
    gone_given = k.gone_given;
    all = ap (filter_map if_pending) rebased_kept ∙ pending_changed number base (entries_of given kept gone) ∙ ap (map (rebased number base)) k.all;
  }
    where
      each : (as' : List Activation) → AllByRecursion (λ a. a.number ≤ given) as' → AllByRecursion (λ a. a.number ≤ given) (map (rebased number base) as')
      each [] all = tt
      each (a ∷ as') all = (all.0, each as' all.1)

-- ---- no activation of the number is pending

pub absent_kept : (given : ℕ) (kept : List Activation) (gone : ℕ → Bool) (number : ℕ) (f : Activation → Entry) → find (has_number number) kept ≡ None
    → entries_of given kept gone ≡ map (becoming number f) (entries_of given kept gone)
absent_kept given kept gone number f none = entries_become given kept kept gone gone (becoming number f) (λ n. each n (n == number) refl)
  where
    each : (n : ℕ) (t : Bool) → (n == number) ≡ t → entry_in kept gone n ≡ becoming number f (entry_in kept gone n)
    each n true same =
        let absent : find (has_number n) kept ≡ None = subst (λ m. find (has_number m) kept ≡ None) (sym (eqb-true n number same)) none in
        ap (λ e. cond (gone n) obviated e) (ap (λ o. option_map_or pending o executed) absent ∙ sym (ap (λ o. becoming number f (option_map_or pending o executed)) absent))
        ∙ sym (becoming_gone number f (gone n) (option_map_or pending (find (has_number n) kept) executed))
    each n false other =
        ap (λ e. cond (gone n) obviated e) (sym (found_entry number n kept f other))
        ∙ sym (becoming_gone number f (gone n) (option_map_or pending (find (has_number n) kept) executed))

-- ---- what holds at any time

-- the number of what is pending was given, and was not obviated
abbrev IsKnown : (gone : ℕ → Bool) → Activation → Type 0
IsKnown gone a = (0 < a.number) × (gone a.number ≡ false)

module _ (kept : List Activation) (gone : ℕ → Bool) where
  each_known : (ns : List ℕ) → AllByRecursion (λ n. 0 < n) ns → AllByRecursion (IsKnown gone) (filter_map if_pending (map (entry_in kept gone) ns))
  each_known [] all = tt
  each_known (n ∷ ns) all = at (gone n) refl (find (has_number n) kept) refl (each_known ns all.1)
    where
      at : (b : Bool) → gone n ≡ b → (o : Option Activation) → find (has_number n) kept ≡ o → AllByRecursion (IsKnown gone) (filter_map if_pending (map (entry_in kept gone) ns))
          → AllByRecursion (IsKnown gone) (filter_map if_pending (cond b obviated (option_map_or pending o executed) ∷ map (entry_in kept gone) ns))
      at true h o found later = later
      at false h None found later = later
      at false h (Some a) found later =
          let own : n ≡ a.number = sym (eqb-true a.number n (found_passes (has_number n) kept a found)) in
          ((subst (λ m. 0 < m) own all.0, subst (λ m. gone m ≡ false) own h), later)

  above_nought : (a n : ℕ) → 0 < a → AllByRecursion (λ m. 0 < m) (range_with_len a n)
  above_nought a zero lt = tt
  above_nought a (suc n) lt = (lt, above_nought (a + 1) n (omega (arith, lt)))

  pub all_known : (given : ℕ) → IsKept given kept gone → AllByRecursion (IsKnown gone) kept
  unfolding entries_of
  all_known given k = subst (AllByRecursion (IsKnown gone)) k.all (each_known (range_with_len 1 given) (above_nought 1 given (omega arith)))

  -- the entry of a number
  pub entry_kept : (given : ℕ) (foci : Foci) (setting : Setting) (refused : Bool) (i : ℕ) → i < given → entry_of (record { given = entries_of given kept gone; foci = foci; setting = setting; refused = refused }) (suc i) ≡ Some (entry_in kept gone (suc i))
  unfolding entries_of
  entry_kept given foci setting refused i lt =
      let within : i < length (map (entry_in kept gone) (range_with_len 1 given)) = omega (arith, lt, length-map-range_with_len (entry_in kept gone) 1 given) in
      let place : 1 + i ≡ suc i = omega arith in
      slice_get-get_or (map (entry_in kept gone) (range_with_len 1 given)) i executed within ∙ ap (λ e. Some e) (get_or-map-range_with_len (entry_in kept gone) 1 given i (suc i) executed lt place)

  pub entry_past : (given : ℕ) (foci : Foci) (setting : Setting) (refused : Bool) (i : ℕ) → given ≤ i → entry_of (record { given = entries_of given kept gone; foci = foci; setting = setting; refused = refused }) (suc i) ≡ None
  unfolding entries_of
  entry_past given foci setting refused i le =
      slice_get_past (map (entry_in kept gone) (range_with_len 1 given)) i (omega (arith, le, length-map-range_with_len (entry_in kept gone) 1 given))

-- ---- what became of an activation

module _ (given : ℕ) (kept : List Activation) (gone : ℕ → Bool) (foci : Foci) (setting : Setting) (refused : Bool) where
  -- the agenda that is kept so
  abbrev kept_agenda : Agenda
  kept_agenda = record { given = entries_of given kept gone; foci = foci; setting = setting; refused = refused }

  status_found : (o : Option Activation) (h : Bool) → is_some o ≡ h → status_of (option_map_or pending o executed) ≡ cond h statuses.Pending statuses.Executed
  status_found None true there = absurd cc
  status_found None false there = refl
  status_found (Some a) true there = refl
  status_found (Some a) false there = absurd cc

  status_by : (n : ℕ) (g h : Bool) → gone n ≡ g → is_some (find (has_number n) kept) ≡ h → status_of (entry_in kept gone n) ≡ cond g statuses.Obviated (cond h statuses.Pending statuses.Executed)
  status_by n true h is there = ap (λ b. status_of (cond b obviated (option_map_or pending (find (has_number n) kept) executed))) is
  status_by n false h is there =
      ap (λ b. status_of (cond b obviated (option_map_or pending (find (has_number n) kept) executed))) is ∙ status_found (find (has_number n) kept) h there

  pub status_kept : (n i : ℕ) (g h : Bool) → n ≡ suc i → i < given → gone n ≡ g → is_some (find (has_number n) kept) ≡ h → status kept_agenda n ≡ Some (cond g statuses.Obviated (cond h statuses.Pending statuses.Executed))
  status_kept n i g h is lt gone_is there =
      subst (λ m. status kept_agenda m ≡ Some (status_of (entry_in kept gone m))) (sym is) (ap (option_map status_of) (entry_kept kept gone given foci setting refused i lt)) ∙ ap (λ s. Some s) (status_by n g h gone_is there)

  pub status_past : (n i : ℕ) → n ≡ suc i → given ≤ i → status kept_agenda n ≡ None
  status_past n i is le = subst (λ m. status kept_agenda m ≡ None) (sym is) (ap (option_map status_of) (entry_past kept gone given foci setting refused i le))

  module _ (k : IsKept given kept gone) where
    pub pending_kept : (n : ℕ) → pending_at kept_agenda n ≡ find (has_number n) kept
    pending_kept n = ap (find (has_number n)) k.all

    known_some : (n : ℕ) (o : Option Activation) → find (has_number n) kept ≡ o → is_some o ≡ true → status kept_agenda n ≡ Some statuses.Pending
    known_some n None found there = absurd cc
    known_some zero (Some a) found there =
        let own : a.number ≡ 0 = eqb-true a.number 0 (found_passes (has_number 0) kept a found) in
        let above : 0 < a.number = (found_holds (has_number 0) (IsKnown gone) kept a (all_known kept gone given k) found).0 in
        absurd (omega (arith, own, above))
    known_some (suc i) (Some a) found there =
        let own : a.number ≡ suc i = eqb-true a.number (suc i) (found_passes (has_number (suc i)) kept a found) in
        let le : a.number ≤ given = found_holds (has_number (suc i)) (λ b. b.number ≤ given) kept a k.numbers found in
        let stays : gone (suc i) ≡ false = subst (λ m. gone m ≡ false) own (found_holds (has_number (suc i)) (IsKnown gone) kept a (all_known kept gone given k) found).1 in
        status_kept (suc i) i false true refl (omega (arith, own, le)) stays (ap is_some found)

    known_status : (n : ℕ) → status kept_agenda n ≡ Some statuses.Pending → is_some (find (has_number n) kept) ≡ true
    known_status zero is = absurd cc
    known_status (suc i) is = at (cases_lt i given)
      where
        by : (g h : Bool) → Some (cond g statuses.Obviated (cond h statuses.Pending statuses.Executed)) ≡ Some statuses.Pending → h ≡ true
        by true h same = absurd cc
        by false true same = refl
        by false false same = absurd cc

        at : (i < given) ⊎ (given ≤ i) → is_some (find (has_number (suc i)) kept) ≡ true
        at (inl lt) = by (gone (suc i)) (is_some (find (has_number (suc i)) kept)) (sym (status_kept (suc i) i (gone (suc i)) (is_some (find (has_number (suc i)) kept)) refl lt refl refl) ∙ is)
        at (inr le) = absurd (let none = status_past (suc i) i refl le in let same : ◌≡◌ {A = Option Status} None (Some statuses.Pending) = sym none ∙ is in cc)

    pub fits_kept : RisesBy number_of kept → Fits kept_agenda
    fits_kept rising = record {
      rising = subst (RisesBy number_of) (sym k.all) rising;
      known = λ n. (λ there. known_some n (find (has_number n) kept) refl (ap is_some (sym (pending_kept n)) ∙ there), λ is. ap is_some (pending_kept n) ∙ known_status n is);
    }
