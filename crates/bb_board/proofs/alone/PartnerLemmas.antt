-- The partners of a unit among pairs of which some are kept, and the pairs of a unit that go one after another.
use Rattle.std.proofs.Common.{◌≡◌, ℕ, ◌≤◌, ◌&&◌, ◌||◌, not, Bool, true, false, cond, List, [], ◌∷◌, filter, map, length, refl, sym, ap, ◌∙◌, arith}
use Rattle.std.specs.Prelude.{◌==◌}
use Rattle.std.specs.List.{list_all, list_any}
use Rattle.std.proofs.lemmas.Bool.{and_parts, and_from, eqb-true, eq-eqb}
use Rattle.std.proofs.lemmas.Bool.Decides.{nat_tests}
use Rattle.std.proofs.lemmas.Map.Views.{any-filter_same}
use Rattle.bb_basis.proofs.BoolLemmas.{or_true}
use Rattle.bb_schema.specs.declared.couple.Side.{Side}
use Rattle.bb_schema.specs.declared.couple.Side.TheVariants.{A, B}
use Rattle.bb_schema.specs.Couples.{pair_of}
use Rattle.bb_links.specs.Pairs.{near, far, same_pair, has_pair}
use Rattle.bb_links.specs.Links.{partners}
use Rattle.bb_board.proofs.alone.KeptLemmas.{filter_filter}

abbrev pub is_in : List ℕ → ℕ → Bool
is_in ms m = list_any (λ k. k == m) ms

-- ---- counts

module _ {X : Type 0} (p q : X → Bool) (from : (x : X) → p x ≡ true → q x ≡ true) where
  fewer_by : (x : X) (b c : Bool) (ps qs : List X) → (b ≡ true → c ≡ true) → length ps ≤ length qs → length (cond b (x ∷ ps) ps) ≤ length (cond c (x ∷ qs) qs)
  fewer_by x true true ps qs h le = omega (arith, le)
  fewer_by x true false ps qs h le = let e = h refl in absurd cc
  fewer_by x false true ps qs h le = omega (arith, le)
  fewer_by x false false ps qs h le = le

  pub fewer_pass : (xs : List X) → length (filter p xs) ≤ length (filter q xs)
  fewer_pass [] = omega arith
  fewer_pass (x ∷ xs) = fewer_by x (p x) (q x) (filter p xs) (filter q xs) (from x) (fewer_pass xs)

second : (a b : Bool) → (a && b) ≡ true → b ≡ true
second true b h = h
second false b h = absurd cc

-- no pair stands twice among those that are kept
pub once_kept : (t : ℕ × ℕ → Bool) (pairs : List (ℕ × ℕ)) → ((p : ℕ × ℕ) → length (filter (same_pair p) pairs) ≤ 1) → (p : ℕ × ℕ) → length (filter (same_pair p) (filter t pairs)) ≤ 1
once_kept t pairs once p =
    let one = once p in
    let fewer = fewer_pass (λ x. t x && same_pair p x) (same_pair p) (λ x. second (t x) (same_pair p x)) pairs in
    let same = ap (λ (xs : List (ℕ × ℕ)). length xs) (filter_filter (same_pair p) t pairs) in
    omega (arith, one, fewer, same)

-- ---- partners

module _ (side : Side) (n : ℕ) where
  abbrev at : ℕ × ℕ → Bool
  at p = near side p == n

  partners_by : (t : ℕ × ℕ → Bool) (r : ℕ → Bool) (p : ℕ × ℕ) (ps : List (ℕ × ℕ)) (a b : Bool) → at p ≡ a → t p ≡ b → (a ≡ true → b ≡ r (far side p))
      → partners side n (filter t ps) ≡ filter r (partners side n ps)
      → map (far side) (filter at (cond b (p ∷ filter t ps) (filter t ps))) ≡ filter r (map (far side) (cond a (p ∷ filter at ps) (filter at ps)))
  partners_by t r p ps true true here passes alike rest = rw here (ap (λ b. cond b (far side p ∷ map (far side) (filter at (filter t ps))) (map (far side) (filter at (filter t ps)))) (alike refl) ∙ ap (λ ms. cond (r (far side p)) (far side p ∷ ms) ms) rest)
  partners_by t r p ps true false here passes alike rest = rest ∙ ap (λ b. cond b (far side p ∷ filter r (partners side n ps)) (filter r (partners side n ps))) (alike refl)
  partners_by t r p ps false true here passes alike rest = rw here rest
  partners_by t r p ps false false here passes alike rest = rest

  -- where what is kept of a unit's pairs goes by the partner, the partners are filtered by it
  pub partners_kept : (t g : ℕ × ℕ → Bool) (r : ℕ → Bool) → ((p : ℕ × ℕ) → g p ≡ true → near side p ≡ n → t p ≡ r (far side p))
      → (pairs : List (ℕ × ℕ)) → list_all g pairs ≡ true → partners side n (filter t pairs) ≡ filter r (partners side n pairs)
  partners_kept t g r alike [] all = refl
  partners_kept t g r alike (p ∷ ps) all =
      let parts = and_parts (g p) (list_all g ps) all in
      partners_by t r p ps (at p) (t p) refl refl (λ here. alike p parts.0 (eqb-true (near side p) n here)) (partners_kept t g r alike ps parts.1)

  pair_there : (p : ℕ × ℕ) → near side p ≡ n → same_pair (pair_of side n (far side p)) p ≡ true
  pair_there p is = there_by side p is
    where
      there_by : (d : Side) (q : ℕ × ℕ) → near d q ≡ n → same_pair (pair_of d n (far d q)) q ≡ true
      there_by A q is = grind (arith, nat_tests)
      there_by B q is = grind (arith, nat_tests)

  more_pairs : (p : ℕ × ℕ) (ps : List (ℕ × ℕ)) (ms : List ℕ) → list_all (λ m. has_pair (pair_of side n m) ps) ms ≡ true → list_all (λ m. has_pair (pair_of side n m) (p ∷ ps)) ms ≡ true
  more_pairs p ps [] all = refl
  more_pairs p ps (m ∷ ms) all =
      let parts = and_parts (has_pair (pair_of side n m) ps) (list_all (λ k. has_pair (pair_of side n k) ps) ms) all in
      and_from (same_pair (pair_of side n m) p || has_pair (pair_of side n m) ps) (list_all (λ k. has_pair (pair_of side n k) (p ∷ ps)) ms)
      (ap (λ b. same_pair (pair_of side n m) p || b) parts.0 ∙ or_true (same_pair (pair_of side n m) p)) (more_pairs p ps ms parts.1)

  linked_by : (p : ℕ × ℕ) (ps : List (ℕ × ℕ)) (b : Bool) → at p ≡ b → list_all (λ m. has_pair (pair_of side n m) (p ∷ ps)) (partners side n ps) ≡ true
      → list_all (λ m. has_pair (pair_of side n m) (p ∷ ps)) (map (far side) (cond b (p ∷ filter at ps) (filter at ps))) ≡ true
  linked_by p ps true here rest =
      and_from (has_pair (pair_of side n (far side p)) (p ∷ ps)) (list_all (λ m. has_pair (pair_of side n m) (p ∷ ps)) (partners side n ps))
      (ap (λ b. b || has_pair (pair_of side n (far side p)) ps) (pair_there p (eqb-true (near side p) n here))) rest
  linked_by p ps false here rest = rest

  -- a unit is linked to each of its partners
  pub partners_linked : (pairs : List (ℕ × ℕ)) → list_all (λ m. has_pair (pair_of side n m) pairs) (partners side n pairs) ≡ true
  partners_linked [] = refl
  partners_linked (p ∷ ps) = linked_by p ps (at p) refl (more_pairs p ps (partners side n ps) (partners_linked ps))

  -- each pair of a unit leads to one of its partners
  abbrev pub is_listed : List ℕ → ℕ × ℕ → Bool
  is_listed ms p = not (at p) || is_in ms (far side p)

  longer : (m : ℕ) (ms : List ℕ) (ps : List (ℕ × ℕ)) → list_all (is_listed ms) ps ≡ true → list_all (is_listed (m ∷ ms)) ps ≡ true
  longer m ms [] all = refl
  longer m ms (p ∷ ps) all =
      let parts = and_parts (is_listed ms p) (list_all (is_listed ms) ps) all in
      and_from (is_listed (m ∷ ms) p) (list_all (is_listed (m ∷ ms)) ps) (wider (at p) (m == far side p) (is_in ms (far side p)) parts.0) (longer m ms ps parts.1)
    where
      wider : (a b c : Bool) → (not a || c) ≡ true → (not a || (b || c)) ≡ true
      wider false b c h = refl
      wider true true c h = refl
      wider true false c h = h

  listed_by : (p : ℕ × ℕ) (ps : List (ℕ × ℕ)) (b : Bool) → at p ≡ b → list_all (is_listed (partners side n ps)) ps ≡ true
      → list_all (is_listed (map (far side) (cond b (p ∷ filter at ps) (filter at ps)))) (p ∷ ps) ≡ true
  listed_by p ps true here rest =
      and_from (is_listed (far side p ∷ partners side n ps) p) (list_all (is_listed (far side p ∷ partners side n ps)) ps)
      (rw (eq-eqb (far side p) (far side p) refl, or_true (not (at p))) refl) (longer (far side p) (partners side n ps) ps rest)
  listed_by p ps false here rest = and_from (is_listed (partners side n ps) p) (list_all (is_listed (partners side n ps)) ps) (rw here refl) rest

  pub pairs_listed : (pairs : List (ℕ × ℕ)) → list_all (is_listed (partners side n pairs)) pairs ≡ true
  pairs_listed [] = refl
  pairs_listed (p ∷ ps) = listed_by p ps (at p) refl (pairs_listed ps)

-- ---- one pair, seen from a side

eqb_turned : (a b : ℕ) → (a == b) ≡ (b == a)
eqb_turned a b = grind (arith, nat_tests)

-- a pair of a unit is one by its partner
pub same_pair_at : (side : Side) (n m : ℕ) (p : ℕ × ℕ) → same_pair (pair_of side n m) p ≡ (near side p == n && m == far side p)
same_pair_at A n m p = ap (λ b. (p.0 == n) && b) (eqb_turned p.1 m)
same_pair_at B n m p = turned (p.0 == m) (p.1 == n) (m == p.0) (eqb_turned p.0 m)
  where
    turned : (a b c : Bool) → a ≡ c → (a && b) ≡ (b && c)
    turned true true c e = e
    turned true false c e = refl
    turned false true c e = e
    turned false false c e = refl

either_gone : (a b c d : Bool) → (not (a && (b && c)) && not (a && (b && d))) ≡ not (a && (b && (c || d)))
either_gone false b c d = refl
either_gone true false c d = refl
either_gone true true true d = refl
either_gone true true false d = refl

-- a pair that goes after others of the unit by the same slot
pub one_more_gone : (couple : ℕ) (side : Side) (n m : ℕ) (ms : List ℕ) (j : ℕ) (p : ℕ × ℕ)
    → (not (j == couple && same_pair (pair_of side n m) p) && not (j == couple && (near side p == n && is_in ms (far side p))))
    ≡ not (j == couple && (near side p == n && is_in (m ∷ ms) (far side p)))
one_more_gone couple side n m ms j p =
    ap (λ b. not (j == couple && b) && not (j == couple && (near side p == n && is_in ms (far side p)))) (same_pair_at side n m p)
    ∙ either_gone (j == couple) (near side p == n) (m == far side p) (is_in ms (far side p))

-- another pair of the unit is there as before
pub others_linked : (couple : ℕ) (side : Side) (n m k : ℕ) (pairs : List (ℕ × ℕ)) → (m == k) ≡ false
    → has_pair (pair_of side n k) (filter (λ p. not (couple == couple && same_pair (pair_of side n m) p)) pairs) ≡ has_pair (pair_of side n k) pairs
others_linked couple side n m k pairs apart =
    any-filter_same (same_pair (pair_of side n k)) (λ p. not (couple == couple && same_pair (pair_of side n m) p)) true
    (λ p is. other p (sym (same_pair_at side n k p) ∙ is)) pairs
  where
    other_by : (a b c d : Bool) → (b && c) ≡ true → (c ≡ true → d ≡ false) → not (a && (b && d)) ≡ true
    other_by false b c d h from = refl
    other_by true false c d h from = refl
    other_by true true c d h from = ap not (from h)

    other : (p : ℕ × ℕ) → (near side p == n && k == far side p) ≡ true → not (couple == couple && same_pair (pair_of side n m) p) ≡ true
    other p is =
        ap (λ b. not (couple == couple && b)) (same_pair_at side n m p)
        ∙ other_by (couple == couple) (near side p == n) (k == far side p) (m == far side p) is (λ e. ap (λ f. m == f) (sym (eqb-true k (far side p) e)) ∙ apart)
