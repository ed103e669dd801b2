-- The pairs of a unit at a side go one after another.
use Rattle.std.proofs.Common.{◌≡◌, ℕ, ◌<◌, ◌≤◌, ◌==◌, Bool, true, false, not, cond, ◌&&◌, List, [], ◌∷◌, filter, length, Some, None, refl, sym, ap, subst, ◌∙◌, arith}
use Rattle.std.specs.Prelude.{find, slice_get, option_map}
use Rattle.std.proofs.lemmas.Bool.{eq-eqb}
use Rattle.std.proofs.lemmas.List.Elements.{filter_agree}
use Rattle.bb_schema.specs.declared.couple.Side.{Side}
use Rattle.bb_schema.specs.declared.couple.Side.TheVariants.{A, B}
use Rattle.bb_schema.specs.Couples.{pair_of}
use Rattle.bb_links.specs.Pairs.{near, same_pair, without_pair}
use Rattle.bb_links.specs.Links.{partners}
use Rattle.bb_links.specs.proving.Stamps.{without_at}
use Rattle.bb_links.proofs.PairLemmas.{find-first, same_itself}
use Rattle.bb_links.proofs.CutLemmas.{filter-filter}
use Rattle.bb_links.proofs.FitLemmas.{is_same}

few : {X : Type 0} (t : X → Bool) (xs : List X) → length (filter t xs) ≤ length xs
few t [] = omega arith
few t (x ∷ xs) = at (t x) (few t xs)
  where
    at : (b : Bool) → length (filter t xs) ≤ length xs → length (cond b (x ∷ filter t xs) (filter t xs)) ≤ length (x ∷ xs)
    at true le = omega (arith, le)
    at false le = omega (arith, le)

-- a pair that is found makes the list shorter when it goes
shorter : (t : ℕ × ℕ → Bool) (p : ℕ × ℕ) (pairs : List (ℕ × ℕ)) → find t pairs ≡ Some p → length (without_pair p pairs) < length pairs
shorter t p [] is = absurd cc
shorter t p (q ∷ qs) is = at (t q) is (shorter t p qs)
  where
    first : (b : Bool) → length (without_pair p qs) < length qs → length (cond b (q ∷ without_pair p qs) (without_pair p qs)) < length (q ∷ qs)
    first true lt = omega (arith, lt)
    first false lt = omega (arith, lt)

    at : (b : Bool) → cond b (Some q) (find t qs) ≡ Some p → (find t qs ≡ Some p → length (without_pair p qs) < length qs) → length (without_pair p (q ∷ qs)) < length (q ∷ qs)
    at true is rest =
        let same : q ≡ p = cc in
        let le = few (λ r. not (same_pair p r)) qs in
        rw (subst (λ r. same_pair p r ≡ true) (sym same) (same_itself p)) (omega (arith, le))
    at false is rest = first (not (same_pair p q)) (rest is)

near_is : (side : Side) (n m : ℕ) → near side (pair_of side n m) ≡ n
near_is A n m = refl
near_is B n m = refl

module _ (side : Side) (n : ℕ) where
  abbrev here : ℕ × ℕ → Bool
  here p = near side p == n

  -- one pair of the unit goes
  pub one_gone : (m : ℕ) (pairs : List (ℕ × ℕ)) → without_at side n (without_pair (pair_of side n m) pairs) ≡ without_at side n pairs
  unfolding without_at
  one_gone m pairs =
      let p = pair_of side n m in
      filter-filter (λ q. not (here q)) (λ q. not (same_pair p q)) pairs
      ∙ filter_agree (λ q. not (same_pair p q) && not (here q)) (λ q. not (here q)) (λ q. at q (same_pair p q) refl) pairs
    where
      at : (q : ℕ × ℕ) (b : Bool) → same_pair (pair_of side n m) q ≡ b → (not b && not (here q)) ≡ not (here q)
      at q true h = sym (ap not (eq-eqb (near side q) n (ap (near side) (is_same (pair_of side n m) q h) ∙ near_is side n m)))
      at q false h = refl

  pub fewer_left : (m : ℕ) (pairs : List (ℕ × ℕ)) → slice_get (partners side n pairs) 0 ≡ Some m → length (without_pair (pair_of side n m) pairs) < length pairs
  fewer_left m pairs first = shorter here (pair_of side n m) pairs (find-first side n pairs ∙ ap (option_map (pair_of side n)) first)

  none_found : (pairs : List (ℕ × ℕ)) → find here pairs ≡ None → filter (λ p. not (here p)) pairs ≡ pairs
  none_found [] none = refl
  none_found (q ∷ qs) none = at (here q) none (none_found qs)
    where
      at : (b : Bool) → cond b (Some q) (find here qs) ≡ None → (find here qs ≡ None → filter (λ p. not (here p)) qs ≡ qs) → cond (not b) (q ∷ filter (λ p. not (here p)) qs) (filter (λ p. not (here p)) qs) ≡ q ∷ qs
      at true none rest = absurd cc
      at false none rest = ap (λ rs. q ∷ rs) (rest none)

  -- the last has gone
  pub all_gone : (pairs : List (ℕ × ℕ)) → slice_get (partners side n pairs) 0 ≡ None → without_at side n pairs ≡ pairs
  unfolding without_at
  all_gone pairs none = none_found pairs (find-first side n pairs ∙ ap (option_map (pair_of side n)) none)
