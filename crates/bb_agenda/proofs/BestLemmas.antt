-- The best of all that are pending is the best of the first of each source.
use Rattle.std.proofs.Common.{◌≡◌, ℕ, ◌+◌, ◌<◌, ◌≤◌, ◌⊎◌, inl, inr, ℤ, ◌+ℤ◌, ◌<ℤ◌, Bool, true, false, cond, List, [], ◌∷◌, length, Option, Some, None, refl, sym, ap, subst, ◌∙◌, arith, filter}
use Rattle.std.specs.Prelude.{slice_get, IfSome}
use Rattle.std.specs.List.{list_any}
use Rattle.std.specs.Option.{option_map_or}
use Rattle.std.specs.Ordering.{int_cmp, nat_cmp, is_eq, is_gt, ordering_then, MatchOrdering}
use Rattle.std.specs.declared.cmp.Ordering.{Ordering}
use Rattle.std.specs.declared.cmp.Ordering.TheVariants.{Less, Equal, Greater}
use Rattle.std.specs.Cmp.{int_ranks, ranks}
use Rattle.std.specs.BTreeSet.{BTreeSet, contains}
use Rattle.std.specs.FinMap as fin
use Rattle.std.proofs.lemmas.Bool.{false_from_ne_true, cases_lt}
use Rattle.std.proofs.lemmas.Bool.Decides.{not_from_Decides}
use Rattle.std.proofs.lemmas.Option.{slice_get_past}
use Rattle.std.proofs.lemmas.Int.{ints}
use Rattle.bb_agenda.specs.declared.choosing.Candidate.{Candidate}
use Rattle.bb_agenda.specs.declared.rank.Rank.{Rank}
use Rattle.bb_agenda.specs.focusing.Foci.{Steered}
use Rattle.bb_agenda.specs.focusing.Rating.{total_weight}
use Rattle.bb_agenda.specs.proving.Best.{rate_by, precedes, better, StandsFor, IsFirst, BestOf}
use Rattle.bb_agenda.specs.proving.Ranks.{rank_cmp, is_ranked}
use Rattle.bb_agenda.specs.focusing.Matching.{matches_at}
use Rattle.bb_agenda.proofs.focusing_lemmas.Laws.{rating_by_weight}
use Rattle.bb_agenda.proofs.ChosenLemmas.{Precedes, precedes_decides, precedes_further, precedes_past}

-- a rating is a base and what all activations of the source get
pub rate_is : (s : Steered) (place : ℕ) (base : ℤ) → rate_by s place base ≡ base +ℤ total_weight (filter (matches_at s.setting.schema s.setting.sources place) (fin.values s.foci))
rate_is s place base = rating_by_weight s.setting.schema s.setting.sources s.foci place base

-- ---- ratings and numbers

not_precedes : (r : ℤ) (m : ℕ) (s : ℤ) (n : ℕ) → precedes r m s n ≡ false → Precedes r m s n → ⊥
not_precedes r m s n = not_from_Decides (precedes r m s n) (precedes_decides r m s n)

no_precedes : (r : ℤ) (m : ℕ) (s : ℤ) (n : ℕ) → (Precedes r m s n → ⊥) → precedes r m s n ≡ false
no_precedes r m s n apart = false_from_ne_true (precedes r m s n) (λ t. apart ((precedes_decides r m s n).0 t))

-- what none comes before
weaker : (r : ℤ) (m : ℕ) (best : Option Candidate) (next : Candidate) → IsFirst r m best → IsFirst r m (Some (better best next))
weaker r m None next first = absurd first
weaker r m (Some b) next first = at (precedes next.rating next.number b.rating b.number) refl
  where
    at : (t : Bool) → precedes next.rating next.number b.rating b.number ≡ t → IsFirst r m (Some (cond t next b))
    at true h = no_precedes r m next.rating next.number (λ p. not_precedes r m b.rating b.number first (precedes_further r m next.rating next.number b.rating b.number p ((precedes_decides next.rating next.number b.rating b.number).0 h)))
    at false h = first

newer : (r : ℤ) (m : ℕ) (best : Option Candidate) (next : Candidate) → precedes r m next.rating next.number ≡ false → IsFirst r m (Some (better best next))
newer r m None next first = first
newer r m (Some b) next first = at (precedes next.rating next.number b.rating b.number) refl
  where
    at : (t : Bool) → precedes next.rating next.number b.rating b.number ≡ t → IsFirst r m (Some (cond t next b))
    at true h = first
    at false h = no_precedes r m b.rating b.number (λ p. not_precedes r m next.rating next.number first (precedes_past r m b.rating b.number next.rating next.number p (not_precedes next.rating next.number b.rating b.number h)))

-- ---- the order of one source

pub no_keys : (ks : List Rank) → (0 < length ks → false ≡ true) → ks ≡ []
no_keys [] none = refl
no_keys (k ∷ ks) none = absurd (let e : false ≡ true = none (omega arith) in cc)

module _ (rate : ℕ → ℤ → ℤ) (weight : ℕ → ℤ) (sums : (s : ℕ) (base : ℤ) → rate s base ≡ base +ℤ weight s) where
  -- the first of an order is rated no lower than another
  leads : (s : ℕ) (k r : Rank) → is_gt (rank_cmp k r) ≡ false → precedes (rate s r.base.0) r.number (rate s k.base.0) k.number ≡ false
  unfolding Precedes
  leads s k r least = no_precedes (rate s r.base.0) r.number (rate s k.base.0) k.number (at (int_cmp r.base.0 k.base.0) (int_ranks r.base.0 k.base.0) least)
    where
      of_number : (o : Ordering) → MatchOrdering o (k.number < r.number) (k.number ≡ r.number) (r.number < k.number) → is_gt o ≡ false → k.number ≤ r.number
      of_number Less h g = omega (arith, h)
      of_number Equal h g = omega (arith, h)
      of_number Greater h g = absurd cc

      at : (o : Ordering) → MatchOrdering o (r.base.0 <ℤ k.base.0) (r.base.0 ≡ k.base.0) (k.base.0 <ℤ r.base.0) → is_gt (ordering_then o (nat_cmp k.number r.number)) ≡ false → Precedes (rate s r.base.0) r.number (rate s k.base.0) k.number → ⊥
      at Less h g (inl p) = let x = sums s r.base.0 in let y = sums s k.base.0 in omega (arith, ints)
      at Less h g (inr p) = let x = sums s r.base.0 in let y = sums s k.base.0 in let q = p.0 in omega (arith, ints)
      at Equal h g (inl p) = let x = sums s r.base.0 in let y = sums s k.base.0 in omega (arith, ints)
      at Equal h g (inr p) = let le = of_number (nat_cmp k.number r.number) (ranks k.number r.number) g in omega (arith, le, p.1)
      at Greater h g p = absurd cc

  module _ (orders : List (BTreeSet Rank)) where
    is_ranked_contains : (i : ℕ) (o : BTreeSet Rank) (r : Rank) → slice_get orders i ≡ Some o → is_ranked orders i r ≡ contains rank_cmp o r
    is_ranked_contains i o r is = ap (λ x. option_map_or (λ y. contains rank_cmp y r) x false) is

    -- a source of which none is pending
    pub best_same : (i : ℕ) (o : BTreeSet Rank) (best : Option Candidate) → slice_get orders i ≡ Some o → o.keys ≡ [] → BestOf rate orders i best → BestOf rate orders (i + 1) best
    best_same i o best is none b = record {
      stands = b.stands;
      first = λ s r lt ranked. by s r ranked (cases_lt s i) lt;
    }
      where
        by : (s : ℕ) (r : Rank) → is_ranked orders s r ≡ true → (s < i) ⊎ (i ≤ s) → s < i + 1 → IsFirst (rate s r.base.0) r.number best
        by s r ranked (inl lt) _ = b.first s r lt ranked
        by s r ranked (inr le) lt =
            let same : s ≡ i = omega (arith, le, lt) in
            absurd (let e : is_ranked orders i r ≡ true = subst (λ n. is_ranked orders n r ≡ true) same ranked in
            let f : is_ranked orders i r ≡ false = is_ranked_contains i o r is ∙ ap (λ ks. list_any (λ q. is_eq (rank_cmp r q)) ks) none in cc)

    -- a source whose first is compared
    pub best_more : (i : ℕ) (o : BTreeSet Rank) (k : Rank) (best : Option Candidate) (next : Candidate) → slice_get orders i ≡ Some o → contains rank_cmp o k ≡ true
        → ((q : Rank) → contains rank_cmp o q ≡ true → is_gt (rank_cmp k q) ≡ false) → next.rating ≡ rate i k.base.0 → next.number ≡ k.number
        → BestOf rate orders i best → BestOf rate orders (i + 1) (Some (better best next))
    best_more i o k best next is member least rated numbered b = record {
      stands = λ c e. stands best refl c e;
      first = λ s r lt ranked. by s r ranked (cases_lt s i) lt;
    }
      where
        itself : StandsFor rate orders next
        itself = (i, k, is_ranked_contains i o k is ∙ member, rated, numbered)

        chosen_one : (t : Bool) (c d : Candidate) → StandsFor rate orders c → Some (cond t next c) ≡ Some d → StandsFor rate orders d
        chosen_one true c d old e = let same : next ≡ d = cc in subst (StandsFor rate orders) same itself
        chosen_one false c d old e = let same : c ≡ d = cc in subst (StandsFor rate orders) same old

        stands : (o : Option Candidate) → o ≡ best → (d : Candidate) → Some (better o next) ≡ Some d → StandsFor rate orders d
        stands None was d e = let same : next ≡ d = cc in subst (StandsFor rate orders) same itself
        stands (Some c) was d e = chosen_one (precedes next.rating next.number c.rating c.number) c d (b.stands c (sym was)) e

        by : (s : ℕ) (r : Rank) → is_ranked orders s r ≡ true → (s < i) ⊎ (i ≤ s) → s < i + 1 → IsFirst (rate s r.base.0) r.number (Some (better best next))
        by s r ranked (inl lt) _ = weaker (rate s r.base.0) r.number best next (b.first s r lt ranked)
        by s r ranked (inr le) lt =
            let same : i ≡ s = omega (arith, le, lt) in
            let here : contains rank_cmp o r ≡ true = sym (is_ranked_contains i o r is) ∙ subst (λ n. is_ranked orders n r ≡ true) (sym same) ranked in
            let led : precedes (rate i r.base.0) r.number (rate i k.base.0) k.number ≡ false = leads i k r (least r here) in
            subst (λ n. IsFirst (rate n r.base.0) r.number (Some (better best next))) same
            (newer (rate i r.base.0) r.number best next (ap (λ z. precedes (rate i r.base.0) r.number z next.number) rated ∙ ap (precedes (rate i r.base.0) r.number (rate i k.base.0)) numbered ∙ led))

    pub it_stands : (count : ℕ) (best : Option Candidate) → BestOf rate orders count best → IfSome best (λ b. StandsFor rate orders b)
    it_stands count None b = tt
    it_stands count (Some c) b = b.stands c refl

    -- all sources were compared
    pub best_all : (count : ℕ) (best : Option Candidate) → length orders ≤ count → BestOf rate orders count best → (s : ℕ) (r : Rank) → is_ranked orders s r ≡ true → IsFirst (rate s r.base.0) r.number best
    best_all count best le b s r ranked = b.first s r (at (cases_lt s (length orders))) ranked
      where
        at : (s < length orders) ⊎ (length orders ≤ s) → s < count
        at (inl lt) = omega (arith, lt, le)
        at (inr past) = absurd (let f : is_ranked orders s r ≡ false = ap (λ x. option_map_or (λ y. contains rank_cmp y r) x false) (slice_get_past orders s past) in cc)
