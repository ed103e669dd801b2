-- The ranks of what is pending, after each change.
use Rattle.std.proofs.Common.{◌≡◌, ℕ, ℤ, ◌<◌, ◌==◌, Bool, true, false, cond, ◌&&◌, List, [], ◌∷◌, ◌++◌, map, filter, find, Option, Some, None, refl, sym, ap, subst, ◌∙◌, arith, eqb-true, eq-eqb, ne_eqb}
use Rattle.std.specs.Prelude.{option_map}
use Rattle.std.specs.List.{AllByRecursion}
use Rattle.std.specs.Option.{option_map_or, option_or}
use Rattle.std.specs.declared.cmp.Ordering.{Ordering}
use Rattle.std.specs.Ordering.{is_eq, int_cmp, nat_cmp}
use Rattle.std.specs.declared.cmp.Ordering.TheVariants.{Less, Equal, Greater}
use Rattle.std.specs.Cmp.{IsTotalOrder, tied_then}
use Rattle.std.specs.BTreeSet.{BTreeSet}
use Rattle.std.proofs.lemmas.Bool.{and_parts}
use Rattle.std.proofs.lemmas.Cmp.{int_cmp_total, nat_cmp_total, on_total, back_total, then_total, eq_by_cmp_equiv}
use Rattle.std.proofs.lemmas.List.Folds.{find-append}
use Rattle.std.proofs.lemmas.Map.Lookups.{exact_signed, exact_unsigned}
use Rattle.bb_basis.proofs.BoolLemmas.{and_false}
use Rattle.bb_agenda.specs.declared.focusing.activation.Activation.{Activation}
use Rattle.bb_agenda.specs.declared.rank.Rank.{Rank}
use Rattle.bb_agenda.specs.Agenda.{has_number, is_of}
use Rattle.bb_agenda.specs.Changes.{other_than, based_at, rebased}
use Rattle.bb_agenda.specs.proving.Ranks.{rank_of, rank_cmp, same_rank, is_ranked, ranked_more, ranked_less, reranked, AreRanked}
use Rattle.bb_agenda.proofs.ChosenLemmas.{each_weaker, find_none, found_passes}
use Rattle.bb_agenda.proofs.FoundLemmas.{not_found_less, found_less, found_rebased}

-- ---- ranks

pub rank_total : IsTotalOrder rank_cmp
rank_total = then_total (back_total (on_total (λ (r : Rank). r.base.0) int_cmp_total)) (on_total (λ (r : Rank). r.number) nat_cmp_total)

pub same_back : (r q : Rank) → same_rank r q ≡ same_rank q r
same_back = (eq_by_cmp_equiv rank_total).symm

pub same_itself : (r : Rank) → same_rank r r ≡ true
same_itself = (eq_by_cmp_equiv rank_total).refl

is_equal : (o : Ordering) → is_eq o ≡ true → o ≡ Equal
is_equal Less h = absurd cc
is_equal Equal h = refl
is_equal Greater h = absurd cc

-- equal ranks have the same base and number
pub same_parts : (r q : Rank) → same_rank r q ≡ true → (r.base.0 ≡ q.base.0) × (r.number ≡ q.number)
same_parts r q same =
    let parts = and_parts (is_eq (int_cmp q.base.0 r.base.0)) (is_eq (nat_cmp r.number q.number)) (tied_then (int_cmp q.base.0 r.base.0) (nat_cmp r.number q.number) ∙ same) in
    (sym (exact_signed q.base.0 r.base.0 (is_equal _ parts.0)), exact_unsigned r.number q.number (is_equal _ parts.1))

other_rank : (r q : Rank) → (r.number ≡ q.number → ⊥) → same_rank r q ≡ false
other_rank r q apart = by (same_rank r q) refl
  where
    by : (t : Bool) → same_rank r q ≡ t → t ≡ false
    by true h = absurd (apart (same_parts r q h).1)
    by false h = refl

-- ---- what stands in the orders

-- the activation has a source and a rank
abbrev pub has_rank : ℕ → Rank → Activation → Bool
has_rank s r a = is_of s a && same_rank r (rank_of a)

-- the activation has a source, and its own rank is this one
abbrev pub ranks_as : Activation → ℕ → Rank → Bool
ranks_as a s r = a.source == s && same_rank (rank_of a) r

has_rank_ranks : (a : Activation) (s : ℕ) (r : Rank) → has_rank s r a ≡ ranks_as a s r
has_rank_ranks a s r = ap (λ b. is_of s a && b) (same_back r (rank_of a))

ranks_not : (a : Activation) (s : ℕ) (r : Rank) → (a.number ≡ r.number → ⊥) → ranks_as a s r ≡ false
ranks_not a s r apart = ap (λ b. a.source == s && b) (other_rank (rank_of a) r apart) ∙ and_false (a.source == s)

abbrev if_found : ℕ → Rank → Option Activation → Bool
if_found s r o = option_map_or (has_rank s r) o false

or_none : (o : Option Activation) → option_or o None ≡ o
or_none (Some a) = refl
or_none None = refl

by_number : (a : Activation) (r : Rank) (G : Type 0) → (has_number r.number a ≡ true → a.number ≡ r.number → G) → (has_number r.number a ≡ false → (a.number ≡ r.number → ⊥) → G) → G
by_number a r G same other = at (has_number r.number a) refl
  where
    at : (b : Bool) → has_number r.number a ≡ b → G
    at true h = same h (eqb-true a.number r.number h)
    at false h = other h (λ e. let is : has_number r.number a ≡ true = eq-eqb a.number r.number e in absurd cc)

cond_off : (b : Bool) → cond b false b ≡ false
cond_off true = refl
cond_off false = refl

module _ (xs : List Activation) (os : List (BTreeSet Rank)) (k : AreRanked xs os) where
  -- ---- one more
  module _ (a : Activation) (below : AllByRecursion (λ b. b.number < a.number) xs) where
    none_yet : (n : ℕ) → a.number ≡ n → find (has_number n) xs ≡ None
    none_yet n is = find_none (has_number n) xs (each_weaker (λ b. b.number < a.number) (λ b. has_number n b ≡ false) (λ b lt. ne_eqb b.number n (λ same. omega (arith, same, lt, is))) xs below)

    pub not_ranked_yet : (s : ℕ) (r : Rank) → ranks_as a s r ≡ true → is_ranked os s r ≡ false
    not_ranked_yet s r is =
        let number = (same_parts (rank_of a) r (and_parts (a.source == s) (same_rank (rank_of a) r) is).1).1 in
        k.ranked s r ∙ ap (if_found s r) (none_yet r.number number)

    pub ranked_put : (ps : List (BTreeSet Rank)) → ((s : ℕ) (r : Rank) → is_ranked ps s r ≡ ranked_more os a.source (rank_of a) s r) → AreRanked (xs ++ a ∷ []) ps
    ranked_put ps more = record { ranked = λ s r. more s r ∙ at s r }
      where
        at : (s : ℕ) (r : Rank) → ranked_more os a.source (rank_of a) s r ≡ if_found s r (find (has_number r.number) (xs ++ a ∷ []))
        at s r = by_number a r _
            (λ h is.
            let none = none_yet r.number is in
            let found : find (has_number r.number) (xs ++ a ∷ []) ≡ Some a = find-append (has_number r.number) xs (a ∷ []) ∙ ap (λ o. option_or o (find (has_number r.number) (a ∷ []))) none ∙ ap (λ b. cond b (Some a) None) h in
            ap (cond (ranks_as a s r) true) (k.ranked s r ∙ ap (if_found s r) none) ∙ on_true (ranks_as a s r) ∙ sym (has_rank_ranks a s r) ∙ ap (if_found s r) (sym found))
            (λ h apart.
            let found : find (has_number r.number) (xs ++ a ∷ []) ≡ find (has_number r.number) xs =
            find-append (has_number r.number) xs (a ∷ []) ∙ ap (option_or (find (has_number r.number) xs)) (ap (λ b. cond b (Some a) None) h) ∙ or_none (find (has_number r.number) xs) in
            ap (λ b. cond b true (is_ranked os s r)) (ranks_not a s r apart) ∙ k.ranked s r ∙ ap (if_found s r) (sym found))
          where
            on_true : (b : Bool) → cond b true false ≡ b
            on_true true = refl
            on_true false = refl

  -- ---- the one of a number
  module _ (n : ℕ) (a : Activation) (found : find (has_number n) xs ≡ Some a) where
    own : a.number ≡ n
    own = eqb-true a.number n (found_passes (has_number n) xs a found)

    is_ranked_ranks : (s : ℕ) (r : Rank) → a.number ≡ r.number → is_ranked os s r ≡ ranks_as a s r
    is_ranked_ranks s r is = k.ranked s r ∙ ap (if_found s r) (subst (λ m. find (has_number m) xs ≡ Some a) (sym own ∙ is) found) ∙ has_rank_ranks a s r

    differs : (r : Rank) → (a.number ≡ r.number → ⊥) → (r.number == n) ≡ false
    differs r apart = ne_eqb r.number n (λ e. apart (own ∙ sym e))

    pub ranked_gone : (ps : List (BTreeSet Rank)) → ((s : ℕ) (r : Rank) → is_ranked ps s r ≡ ranked_less os a.source (rank_of a) s r) → AreRanked (filter (other_than n) xs) ps
    ranked_gone ps less = record { ranked = λ s r. less s r ∙ at s r }
      where
        at : (s : ℕ) (r : Rank) → ranked_less os a.source (rank_of a) s r ≡ if_found s r (find (has_number r.number) (filter (other_than n) xs))
        at s r = by_number a r _
            (λ h is.
            ap (cond (ranks_as a s r) false) (is_ranked_ranks s r is) ∙ cond_off (ranks_as a s r)
            ∙ ap (if_found s r) (sym (subst (λ m. find (has_number m) (filter (other_than n) xs) ≡ None) (sym own ∙ is) (not_found_less n xs))))
            (λ h apart.
            ap (λ b. cond b false (is_ranked os s r)) (ranks_not a s r apart) ∙ k.ranked s r ∙ ap (if_found s r) (sym (found_less n r.number xs (differs r apart))))

    pub ranked_rebased : (base : ℤ) (ps : List (BTreeSet Rank)) → (a.base ≡ base → ⊥) → ((s : ℕ) (r : Rank) → is_ranked ps s r ≡ reranked os a base s r) → AreRanked (map (rebased n base) xs) ps
    ranked_rebased base ps new changed = record { ranked = λ s r. changed s r ∙ at s r }
      where
        b : Activation
        b = based_at base a

        both : (s : ℕ) (r : Rank) (t u : Bool) → ranks_as a s r ≡ t → ranks_as b s r ≡ u → cond t false (cond u true t) ≡ u
        both s r true true h g =
            let old = same_parts (rank_of a) r (and_parts (a.source == s) (same_rank (rank_of a) r) h).1 in
            let now = same_parts (rank_of b) r (and_parts (b.source == s) (same_rank (rank_of b) r) g).1 in
            absurd (new (old.0 ∙ sym now.0))
        both s r true false h g = refl
        both s r false true h g = refl
        both s r false false h g = refl

        same_base : (s : ℕ) (r : Rank) (o : Option Activation) → ((c : Activation) → o ≡ Some c → has_number n c ≡ false) → if_found s r (option_map (rebased n base) o) ≡ if_found s r o
        same_base s r None apart = refl
        same_base s r (Some c) apart = ap (λ t. has_rank s r (based_at (cond t base c.base) c)) (apart c refl)

        at : (s : ℕ) (r : Rank) → reranked os a base s r ≡ if_found s r (find (has_number r.number) (map (rebased n base) xs))
        at s r = by_number a r _
            (λ h is.
            let there : find (has_number r.number) (map (rebased n base) xs) ≡ Some b =
            found_rebased n r.number base xs ∙ ap (option_map (rebased n base)) (subst (λ m. find (has_number m) xs ≡ Some a) (sym own ∙ is) found) ∙ ap (λ t. Some (based_at (cond t base a.base) a)) (eq-eqb a.number n own) in
            ap (λ t. cond (ranks_as a s r) false (cond (ranks_as b s r) true t)) (is_ranked_ranks s r is) ∙ both s r (ranks_as a s r) (ranks_as b s r) refl refl
            ∙ sym (has_rank_ranks b s r) ∙ ap (if_found s r) (sym there))
            (λ h apart.
            let others : (c : Activation) → find (has_number r.number) xs ≡ Some c → has_number n c ≡ false = λ c e. ne_eqb c.number n (λ same. apart (own ∙ sym same ∙ eqb-true c.number r.number (found_passes (has_number r.number) xs c e))) in
            ap (λ t. cond t false (cond (ranks_as b s r) true (is_ranked os s r))) (ranks_not a s r apart)
            ∙ ap (λ t. cond t true (is_ranked os s r)) (ranks_not b s r apart) ∙ k.ranked s r
            ∙ sym (same_base s r (find (has_number r.number) xs) others) ∙ ap (if_found s r) (sym (found_rebased n r.number base xs)))

-- nothing is pending, and no order is there
pub ranked_none : AreRanked [] []
ranked_none = record { ranked = λ s r. refl }
