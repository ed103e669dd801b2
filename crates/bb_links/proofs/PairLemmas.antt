-- The partners of a unit, after each change of the pairs.
use Rattle.std.proofs.Common.{◌≡◌, ℕ, ◌==◌, Bool, true, false, List, [], ◌∷◌, Some, refl, ap}
use Rattle.std.specs.Prelude.{slice_get, option_map, find}
use Rattle.std.proofs.lemmas.Bool.{eqb-true, eq-eqb, or_parts}
use Rattle.bb_schema.specs.declared.couple.Side.{Side}
use Rattle.bb_schema.specs.declared.couple.Side.TheVariants.{A, B}
use Rattle.bb_schema.specs.Couples.{pair_of}
use Rattle.bb_links.specs.Pairs.{near, far, same_pair, has_pair, without_pair}
use Rattle.bb_links.specs.Links.{partners}

-- ---- one pair among pairs

-- pairs without one that is not there
pub without_absent : (p : ℕ × ℕ) (pairs : List (ℕ × ℕ)) → has_pair p pairs ≡ false → without_pair p pairs ≡ pairs
without_absent p [] absent = refl
without_absent p (q ∷ qs) absent =
    let parts = or_parts (same_pair p q) (has_pair p qs) absent in
    rw parts.0 (ap (λ rs. q ∷ rs) (without_absent p qs parts.1))

pub same_itself : (p : ℕ × ℕ) → same_pair p p ≡ true
same_itself p = rw (eq-eqb p.0 p.0 refl, eq-eqb p.1 p.1 refl) refl

-- a pair is that of its unit and its partner
made : (side : Side) (q : ℕ × ℕ) (n : ℕ) → near side q ≡ n → q ≡ pair_of side n (far side q)
made A q n e = ap (λ k. (k, q.1)) e
made B q n e = ap (λ k. (q.0, k)) e

-- ---- the partners of a unit

module _ (side : Side) (n : ℕ) where
  abbrev here : ℕ × ℕ → Bool
  here p = near side p == n

  -- the first pair of the unit is that with its first partner
  pub find-first : (pairs : List (ℕ × ℕ)) → find here pairs ≡ option_map (pair_of side n) (slice_get (partners side n pairs) 0)
  find-first [] = refl
  find-first (q ∷ qs) = at (near side q == n) refl (find-first qs)
    where
      at : (b : Bool) → (near side q == n) ≡ b → find here qs ≡ option_map (pair_of side n) (slice_get (partners side n qs) 0) → find here (q ∷ qs) ≡ option_map (pair_of side n) (slice_get (partners side n (q ∷ qs)) 0)
      at true h later = rw h (ap (λ p. Some p) (made side q n (eqb-true (near side q) n h)))
      at false h later = rw h later
