-- The order in which the pending activations of a source are executed, after each change.
use Rattle.std.proofs.Common.{◌≡◌, ℕ, zero, suc, ◌<◌, ◌==◌, Bool, true, false, cond, ◌&&◌, List, [], ◌∷◌, length, set, Some, None, refl, sym, ap, subst, ◌∙◌, arith, eqb-true, eq-eqb, ne_eqb}
use Rattle.std.specs.Prelude.{slice_get}
use Rattle.std.specs.Option.{option_map_or}
use Rattle.std.proofs.lemmas.Bool.{and_parts}
use Rattle.std.proofs.lemmas.Option.{slice_get_within}
use Rattle.std.specs.BTreeSet.{BTreeSet, contains, Updates}
use Rattle.bb_agenda.specs.declared.rank.Rank.{Rank}
use Rattle.bb_agenda.specs.proving.Ranks.{rank_cmp, same_rank, is_ranked, ranked_more, ranked_less}

after_both : (i s : ℕ) → (suc i == suc s) ≡ (i == s)
after_both i s = by (i == s) refl
  where
    by : (b : Bool) → (i == s) ≡ b → (suc i == suc s) ≡ b
    by true is = eq-eqb (suc i) (suc s) (ap suc (eqb-true i s is))
    by false is = ne_eqb (suc i) (suc s) (λ same. let e : (i == s) ≡ true = eq-eqb i s (omega (arith, same)) in absurd cc)

-- another order of one source
pub changed_at : (orders : List (BTreeSet Rank)) (i : ℕ) (o : BTreeSet Rank) (s : ℕ) (r : Rank) → i < length orders → is_ranked (set orders i o) s r ≡ cond (i == s) (contains rank_cmp o r) (is_ranked orders s r)
changed_at [] i o s r lt = absurd (omega (arith, lt))
changed_at (x ∷ xs) zero o zero r lt = refl
changed_at (x ∷ xs) zero o (suc s) r lt = rw (ne_eqb 0 (suc s) (λ e. omega (arith, e))) refl
changed_at (x ∷ xs) (suc i) o zero r lt = rw (ne_eqb (suc i) 0 (λ e. omega (arith, e))) refl
changed_at (x ∷ xs) (suc i) o (suc s) r lt = rw (after_both i s) (changed_at xs i o s r (omega (arith, lt)))

-- a source without an order
nothing_ranked : (orders : List (BTreeSet Rank)) (i : ℕ) (r : Rank) → slice_get orders i ≡ None → is_ranked orders i r ≡ false
nothing_ranked orders i r none = ap (λ o. option_map_or (λ x. contains rank_cmp x r) o false) none

is_ranked_contains : (orders : List (BTreeSet Rank)) (i : ℕ) (o : BTreeSet Rank) (r : Rank) → slice_get orders i ≡ Some o → is_ranked orders i r ≡ contains rank_cmp o r
is_ranked_contains orders i o r is = ap (λ x. option_map_or (λ x. contains rank_cmp x r) x false) is

-- a change of the order of one source
changed : (b : Bool) (orders : List (BTreeSet Rank)) (i : ℕ) (rank : Rank) (o p : BTreeSet Rank) → slice_get orders i ≡ Some o → Updates rank_cmp o p rank b
    → (s : ℕ) (r : Rank) → is_ranked (set orders i p) s r ≡ cond (i == s && same_rank rank r) b (is_ranked orders s r)
changed b orders i rank o p is update s r = changed_at orders i p s r (slice_get_within orders i o is) ∙ by (i == s) refl
  where
    by : (t : Bool) → (i == s) ≡ t → cond t (contains rank_cmp p r) (is_ranked orders s r) ≡ cond (t && same_rank rank r) b (is_ranked orders s r)
    by true e = update.0 r ∙ ap (cond (same_rank rank r) b) (sym (subst (λ n. is_ranked orders n r ≡ contains rank_cmp o r) (eqb-true i s e) (is_ranked_contains orders i o r is)))
    by false e = refl

pub changed_more : (orders : List (BTreeSet Rank)) (i : ℕ) (rank : Rank) (o p : BTreeSet Rank) → slice_get orders i ≡ Some o → Updates rank_cmp o p rank true
    → (s : ℕ) (r : Rank) → is_ranked (set orders i p) s r ≡ ranked_more orders i rank s r
changed_more = changed true

pub changed_less : (orders : List (BTreeSet Rank)) (i : ℕ) (rank : Rank) (o p : BTreeSet Rank) → slice_get orders i ≡ Some o → Updates rank_cmp o p rank false
    → (s : ℕ) (r : Rank) → is_ranked (set orders i p) s r ≡ ranked_less orders i rank s r
changed_less = changed false

pub gone_less : (orders : List (BTreeSet Rank)) (i : ℕ) (rank : Rank) → slice_get orders i ≡ None → (s : ℕ) (r : Rank) → is_ranked orders s r ≡ ranked_less orders i rank s r
gone_less orders i rank none s r = by (i == s && same_rank rank r) refl
  where
    by : (t : Bool) → (i == s && same_rank rank r) ≡ t → is_ranked orders s r ≡ cond t false (is_ranked orders s r)
    by true e = subst (λ n. is_ranked orders n r ≡ false) (eqb-true i s (and_parts (i == s) (same_rank rank r) e).0) (nothing_ranked orders i r none)
    by false e = refl
