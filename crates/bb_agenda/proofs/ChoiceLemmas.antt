-- What is chosen is the best of all that are pending.
use Rattle.std.proofs.Common.{◌≡◌, ℕ, zero, suc, ℤ, ◌<ℤ◌, ◌≤ℤ◌, Bool, true, false, not, cond, ◌&&◌, List, [], ◌∷◌, find, Option, Some, None, refl, sym, ap, subst, ◌∙◌, arith, eqb-true, eq-eqb, int_lt}
use Rattle.std.specs.Prelude.{Contains, IfSome, nat_lt}
use Rattle.std.specs.List.{AllByRecursion, list_all}
use Rattle.std.specs.Option.{option_map_or}
use Rattle.std.specs.Ordering.{int_eq}
use Rattle.std.specs.BTreeSet.{BTreeSet}
use Rattle.std.proofs.lemmas.Bool.{and_parts, or_parts, not-true, not_from_false, false_from_ne_true}
use Rattle.std.proofs.lemmas.Int.{ints, by_lt_z}
use Rattle.bb_agenda.specs.declared.focusing.activation.Activation.{Activation}
use Rattle.bb_agenda.specs.declared.choosing.Candidate.{Candidate}
use Rattle.bb_agenda.specs.declared.rank.Rank.{Rank}
use Rattle.bb_agenda.specs.Agenda.{number_of, has_number, is_of}
use Rattle.bb_agenda.specs.Chosen.{is_before, is_best, chosen}
use Rattle.bb_agenda.specs.Fits.{RisesBy}
use Rattle.bb_agenda.specs.proving.Best.{precedes, StandsFor, IsFirst}
use Rattle.bb_agenda.specs.proving.Ranks.{rank_of, same_rank, is_ranked, AreRanked}
use Rattle.bb_agenda.proofs.ChosenLemmas.{find_none, not_before, contained_passes, found_in, found_passes, lt_decides}
use Rattle.bb_agenda.proofs.RankLemmas.{same_itself, same_parts, has_rank}
use Rattle.bb_agenda.proofs.RisingLemmas.{found_contained}

module _ {X : Type 0} where
  contains_later : (x : X) (xs : List X) (a : X) → Contains xs a → Contains (x ∷ xs) a
  contains_later x xs a (k, lt, is) = (suc k, omega (arith, lt), is)

  -- what holds of each that is there
  each_contained : (P : X → Type 0) (xs : List X) → ((a : X) → Contains xs a → P a) → AllByRecursion P xs
  each_contained P [] all = tt
  each_contained P (x ∷ xs) all = (all x (0, omega arith, refl), each_contained P xs (λ a there. all a (contains_later x xs a there)))

  all_contained : (p : X → Bool) (xs : List X) → ((a : X) → Contains xs a → p a ≡ true) → list_all p xs ≡ true
  all_contained p [] all = refl
  all_contained p (x ∷ xs) all = ap (λ b. b && list_all p xs) (all x (0, omega arith, refl)) ∙ all_contained p xs (λ a there. all a (contains_later x xs a there))

  -- the only one that passes is found
  found_only : (p : X → Bool) (xs : List X) (a : X) → Contains xs a → p a ≡ true → ((b : X) → Contains xs b → p b ≡ true → b ≡ a) → find p xs ≡ Some a
  found_only p [] a (k, lt, is) passes only = absurd (omega (arith, lt))
  found_only p (x ∷ xs) a there passes only = at (p x) refl there (λ rest. found_only p xs a rest passes (λ b more. only b (contains_later x xs b more)))
    where
      at : (t : Bool) → p x ≡ t → Contains (x ∷ xs) a → (Contains xs a → find p xs ≡ Some a) → cond t (Some x) (find p xs) ≡ Some a
      at true h there rest = ap (λ y. Some y) (only x (0, omega arith, refl) h)
      at false h (zero, lt, is) rest = absurd (let e : p x ≡ true = ap p is ∙ passes in cc)
      at false h (suc k, lt, is) rest = rest (k, omega (arith, lt), is)

-- the activation of a rank of a source
record Behind (xs : List Activation) (s : ℕ) (r : Rank) : Type 0 where
  a : Activation
  there : Contains xs a
  found : find (has_number r.number) xs ≡ Some a
  source : a.source ≡ s
  base : a.base ≡ r.base.0

-- the number of what is chosen
pub record IsChoice (rate : Activation → ℤ) (floor : ℤ) (xs : List Activation) (n : ℕ) : Type 0 where
  pub a : Activation
  pub chosen_it : chosen rate floor xs ≡ Some a
  pub found : find (has_number n) xs ≡ Some a
  pub number : a.number ≡ n

-- ---- by any rating

-- where one does not come before another, it is rated no higher
not_higher : (r : ℤ) (m : ℕ) (s : ℤ) (n : ℕ) → precedes r m s n ≡ false → r ≤ℤ s
not_higher r m s n apart =
    let parts = or_parts (int_lt s r) (int_eq s r && nat_lt m n) apart in
    by_lt_z s r (λ lt. absurd (let e : int_lt s r ≡ true = (lt_decides s r).1 lt in let f = parts.0 in cc)) (λ le. le)

module _ (rate : Activation → ℤ) (floor : ℤ) (xs : List Activation) (rising : RisesBy number_of xs) where
  -- one that is enough, and none comes before it
  chosen_is : (a : Activation) → Contains xs a → floor ≤ℤ rate a → ((b : Activation) → Contains xs b → is_before rate b a ≡ false) → chosen rate floor xs ≡ Some a
  chosen_is a there enough first =
      let high : int_lt (rate a) floor ≡ false = false_from_ne_true (int_lt (rate a) floor) (λ e. let u = (lt_decides (rate a) floor).0 e in omega (arith, ints)) in
      let none : list_all (λ b. not (is_before rate b a)) xs ≡ true = all_contained (λ b. not (is_before rate b a)) xs (λ b in_it. not_from_false (is_before rate b a) (first b in_it)) in
      found_only (is_best rate floor xs) xs a there (ap (λ t. not t && list_all (λ b. not (is_before rate b a)) xs) high ∙ none) (λ b in_it best. only b in_it best)
    where
      some_same : (b c : Activation) → Some b ≡ Some c → b ≡ c
      some_same b c e = cc

      only : (b : Activation) → Contains xs b → is_best rate floor xs b ≡ true → b ≡ a
      only b in_it best =
          let clear = (and_parts (not (int_lt (rate b) floor)) (list_all (λ d. not (is_before rate d b)) xs) best).1 in
          let behind : is_before rate a b ≡ false = not-true (is_before rate a b) (contained_passes (λ d. not (is_before rate d b)) xs a clear there) in
          let one = not_before rate a b behind in
          let other = not_before rate b a (first b in_it) in
          let same : rate b ≡ rate a = let x = one.0 in let y = other.0 in omega (arith, ints) in
          let le = one.1 (sym same) in
          let ge = other.1 same in
          let number : b.number ≡ a.number = omega (arith, le, ge) in
          some_same b a (sym (found_contained number_of xs b rising in_it) ∙ ap (λ n. find (has_number n) xs) number ∙ found_contained number_of xs a rising there)

  -- all are rated too low
  chosen_low : ((b : Activation) → Contains xs b → rate b <ℤ floor) → chosen rate floor xs ≡ None
  chosen_low low = find_none (is_best rate floor xs) xs (each_contained (λ b. is_best rate floor xs b ≡ false) xs (λ b there. ap (λ t. not t && list_all (λ d. not (is_before rate d b)) xs) ((lt_decides (rate b) floor).1 (low b there))))

  -- ---- by the orders of sources

  module _ (orders : List (BTreeSet Rank)) (ranked : AreRanked xs orders) (by : ℕ → ℤ → ℤ) (rates : (a : Activation) → by a.source a.base ≡ rate a) where
    contained_ranked : (a : Activation) → Contains xs a → is_ranked orders a.source (rank_of a) ≡ true
    contained_ranked a there =
        ranked.ranked a.source (rank_of a) ∙ ap (λ o. option_map_or (has_rank a.source (rank_of a)) o false) (found_contained number_of xs a rising there)
        ∙ ap (λ b. b && same_rank (rank_of a) (rank_of a)) (eq-eqb a.source a.source refl) ∙ same_itself (rank_of a)

    ranked_contained : (s : ℕ) (r : Rank) → is_ranked orders s r ≡ true → Behind xs s r
    ranked_contained s r is = at (find (has_number r.number) xs) refl (sym (ranked.ranked s r) ∙ is)
      where
        at : (o : Option Activation) → find (has_number r.number) xs ≡ o → option_map_or (has_rank s r) o false ≡ true → Behind xs s r
        at None found h = absurd cc
        at (Some a) found h =
            let parts = and_parts (is_of s a) (same_rank r (rank_of a)) h in
            record {
              a = a;
              there = found_in (has_number r.number) xs a found;
              found = found;
              source = eqb-true a.source s parts.0;
              base = sym (same_parts r (rank_of a) parts.1).0;
            }

    -- one comes before none
    none_precedes_best : (c : Activation) → Contains xs c → (b : Candidate) → IsFirst (by c.source c.base) c.number (Some b) → precedes (rate c) c.number b.rating b.number ≡ false
    none_precedes_best c there b first = subst (λ z. precedes z c.number b.rating b.number ≡ false) (rates c) first

    -- nothing is pending
    pub no_best : ((s : ℕ) (r : Rank) → is_ranked orders s r ≡ true → IsFirst (by s r.base.0) r.number None) → chosen rate floor xs ≡ None
    no_best all = chosen_low (λ b there. absurd (all b.source (rank_of b) (contained_ranked b there)))

    pub too_low : (b : Candidate) → b.rating <ℤ floor → ((s : ℕ) (r : Rank) → is_ranked orders s r ≡ true → IsFirst (by s r.base.0) r.number (Some b)) → chosen rate floor xs ≡ None
    too_low b low all = chosen_low (λ c there. lower c (none_precedes_best c there b (all c.source (rank_of c) (contained_ranked c there))))
      where
        lower : (c : Activation) → precedes (rate c) c.number b.rating b.number ≡ false → rate c <ℤ floor
        lower c apart = let le = (not_higher (rate c) c.number b.rating b.number apart) in omega (arith, ints)

    pub best_is : (b : Candidate) → floor ≤ℤ b.rating → StandsFor by orders b → ((s : ℕ) (r : Rank) → is_ranked orders s r ≡ true → IsFirst (by s r.base.0) r.number (Some b)) → IsChoice rate floor xs b.number
    best_is b enough (s, r, is, rated, numbered) all =
        let it = ranked_contained s r is in
        let number : it.a.number ≡ b.number = eqb-true it.a.number r.number (found_passes (has_number r.number) xs it.a it.found) ∙ sym numbered in
        let same : rate it.a ≡ b.rating = sym (rates it.a) ∙ ap (λ n. by n it.a.base) it.source ∙ ap (by s) it.base ∙ sym rated in
        record {
          a = it.a;
          chosen_it = chosen_is it.a it.there (subst (λ z. floor ≤ℤ z) (sym same) enough)
              (λ c there. subst (λ n. precedes (rate c) c.number (rate it.a) n ≡ false) (sym number) (subst (λ z. precedes (rate c) c.number z b.number ≡ false) (sym same) (none_precedes_best c there b (all c.source (rank_of c) (contained_ranked c there)))));
          found = subst (λ n. find (has_number n) xs ≡ Some it.a) (sym numbered) it.found;
          number = number;
        }

-- of an equal list
pub same_choice : (rate : Activation → ℤ) (floor : ℤ) (number : Option ℕ) (xs ys : List Activation) → xs ≡ ys → IfSome number (λ n. find (has_number n) xs ≡ chosen rate floor xs) → IfSome number (λ n. find (has_number n) ys ≡ chosen rate floor ys)
same_choice rate floor number xs ys same = subst (λ zs. IfSome number (λ n. find (has_number n) zs ≡ chosen rate floor zs)) same
