-- Couples that fit stay so.
use Rattle.std.proofs.Common.{◌≡◌, ℕ, ◌+◌, ◌≤◌, ◌==◌, Bool, true, false, not, cond, ◌&&◌, ◌||◌, List, [], ◌∷◌, ◌++◌, filter, length, Option, Some, None, refl, sym, ap, subst, ◌∙◌, arith, length-append}
use Rattle.std.specs.Prelude.{find}
use Rattle.std.proofs.Math.Bool.{and_comm}
use Rattle.std.proofs.lemmas.Bool.{eqb-true, and_parts, or_parts}
use Rattle.std.proofs.lemmas.List.{length-map}
use Rattle.std.proofs.lemmas.List.Elements.{filter_agree, filter-append}
use Rattle.bb_schema.specs.declared.couple.Side.{Side}
use Rattle.bb_schema.specs.declared.couple.Side.TheVariants.{A, B}
use Rattle.bb_links.specs.declared.couple.Singular.{Singular}
use Rattle.bb_links.specs.Pairs.{near, far, same_pair, has_pair, without_pair, without_old, is_singular, old_pair}
use Rattle.bb_links.specs.Links.{partners}
use Rattle.bb_links.specs.Couples.{Couple, no_pairs, linked, unlinked, forgotten}
use Rattle.bb_links.specs.Fits.{FitsCouple}
use Rattle.bb_links.proofs.PairLemmas.{same_itself}
use Rattle.bb_links.proofs.CutLemmas.{filter-filter}

module _ {X : Type 0} (p : X → Bool) where
  -- a filter has no more of what passes
  fewer_pass : (q : X → Bool) (xs : List X) → length (filter p (filter q xs)) ≤ length (filter p xs)
  fewer_pass q [] = omega arith
  fewer_pass q (x ∷ xs) = at (q x) refl (p x) refl (fewer_pass q xs)
    where
      at : (b : Bool) → q x ≡ b → (c : Bool) → p x ≡ c → length (filter p (filter q xs)) ≤ length (filter p xs) → length (filter p (filter q (x ∷ xs))) ≤ length (filter p (x ∷ xs))
      at true h true k less = rw (h, k) (omega (arith, less))
      at true h false k less = rw (h, k) less
      at false h true k less = rw (h, k) (omega (arith, less))
      at false h false k less = rw (h, k) less

  -- one more may pass
  pass_put : (xs : List X) (x : X) → length (filter p (xs ++ x ∷ [])) ≡ length (filter p xs) + cond (p x) 1 0
  pass_put xs x = ap length (filter-append p xs (x ∷ [])) ∙ (length-append (filter p xs) (filter p (x ∷ [])) ∙ ap (λ n. length (filter p xs) + n) (one (p x)))
    where
      one : (b : Bool) → length (cond b (x ∷ []) []) ≡ cond b 1 0
      one true = refl
      one false = refl

abbrev Test : Type 0
Test = ℕ × ℕ → Bool

fewer_old : (t : Test) (old : Option (ℕ × ℕ)) (pairs : List (ℕ × ℕ)) → length (filter t (without_old old pairs)) ≤ length (filter t pairs)
fewer_old t None pairs = omega arith
fewer_old t (Some p) pairs = fewer_pass t (λ q. not (same_pair p q)) pairs

-- the order in which two go
old_swap : (o r : Option (ℕ × ℕ)) (pairs : List (ℕ × ℕ)) → without_old o (without_old r pairs) ≡ without_old r (without_old o pairs)
old_swap None r pairs = refl
old_swap (Some p) None pairs = refl
old_swap (Some p) (Some q) pairs =
    filter-filter (λ r. not (same_pair p r)) (λ r. not (same_pair q r)) pairs
    ∙ (filter_agree (λ r. not (same_pair q r) && not (same_pair p r)) (λ r. not (same_pair p r) && not (same_pair q r)) (λ r. and_comm (not (same_pair q r)) (not (same_pair p r))) pairs
    ∙ sym (filter-filter (λ r. not (same_pair q r)) (λ r. not (same_pair p r)) pairs))

-- where one at most passes, none does once the first that does is gone
found_gone : (t : Test) (pairs : List (ℕ × ℕ)) → length (filter t pairs) ≤ 1 → length (filter t (without_old (find t pairs) pairs)) ≤ 0
found_gone t [] few = omega arith
found_gone t (q ∷ qs) few = at (t q) refl (λ few. found_gone t qs few)
  where
    passed : (b : Bool) → t q ≡ b → length (filter t (q ∷ qs)) ≡ cond b 1 0 + length (filter t qs)
    passed true h = rw h (omega arith)
    passed false h = rw h (omega arith)

    later : (o : Option (ℕ × ℕ)) → t q ≡ false → length (filter t (without_old o qs)) ≤ 0 → length (filter t (without_old o (q ∷ qs))) ≤ 0
    later None h none = rw h none
    later (Some r) h none = by (same_pair r q) refl
      where
        by : (b : Bool) → same_pair r q ≡ b → length (filter t (without_pair r (q ∷ qs))) ≤ 0
        by true k = rw k none
        by false k = rw (k, h) none

    at : (b : Bool) → t q ≡ b → (length (filter t qs) ≤ 1 → length (filter t (without_old (find t qs) qs)) ≤ 0) → length (filter t (without_old (find t (q ∷ qs)) (q ∷ qs))) ≤ 0
    at true h rest = rw (h, same_itself q) (omega (arith, fewer_pass t (λ r. not (same_pair q r)) qs, passed true h, few))
    at false h rest = rw h (later (find t qs) h (rest (omega (arith, passed false h, few))))

-- none passes that is not there
none_same : (p : ℕ × ℕ) (pairs : List (ℕ × ℕ)) → has_pair p pairs ≡ false → length (filter (same_pair p) pairs) ≡ 0
none_same p [] absent = refl
none_same p (q ∷ qs) absent =
    let parts = or_parts (same_pair p q) (has_pair p qs) absent in
    rw parts.0 (none_same p qs parts.1)

pub is_same : (p q : ℕ × ℕ) → same_pair p q ≡ true → q ≡ p
is_same p q h =
    let parts = and_parts (q.0 == p.0) (q.1 == p.1) h in
    ap (λ n. (n, q.1)) (eqb-true q.0 p.0 parts.0) ∙ ap (λ n. (p.0, n)) (eqb-true q.1 p.1 parts.1)

module _ (k : Couple) (fits : FitsCouple k) where
  -- ---- fewer pairs

  filtered_once : (q : Test) (p : ℕ × ℕ) → length (filter (same_pair p) (filter q k.pairs)) ≤ 1
  filtered_once q p = omega (arith, fewer_pass (same_pair p) q k.pairs, fits.once p)

  few_at : (side : Side) (n : ℕ) → is_singular k.singular side ≡ true → length (filter (λ p. near side p == n) k.pairs) ≤ 1
  few_at side n single = omega (arith, fits.single side n single, length-map (filter (λ p. near side p == n) k.pairs) (far side))

  filtered_single : (q : Test) (side : Side) (n : ℕ) → is_singular k.singular side ≡ true → length (partners side n (filter q k.pairs)) ≤ 1
  filtered_single q side n single = omega (arith, few_at side n single, fewer_pass (λ p. near side p == n) q k.pairs, length-map (filter (λ p. near side p == n) (filter q k.pairs)) (far side))

  pub unlinked_fits : (a b : ℕ) → FitsCouple (unlinked a b k)
  unlinked_fits a b = record { once = filtered_once (λ q. not (same_pair (a, b) q)); single = filtered_single (λ q. not (same_pair (a, b) q)) }

  pub forgotten_fits : (n : ℕ) → FitsCouple (forgotten n k)
  forgotten_fits n = record { once = filtered_once (λ p. not (p.0 == n || p.1 == n)); single = filtered_single (λ p. not (p.0 == n || p.1 == n)) }

  -- ---- one pair more

  module _ (a b : ℕ) (absent : has_pair (a, b) k.pairs ≡ false) where
    abbrev old_a : Option (ℕ × ℕ)
    old_a = old_pair k.singular A a k.pairs

    abbrev old_b : Option (ℕ × ℕ)
    old_b = old_pair k.singular B b k.pairs

    abbrev rest : List (ℕ × ℕ)
    rest = without_old old_b (without_old old_a k.pairs)

    fewer_left : (t : Test) → length (filter t rest) ≤ length (filter t k.pairs)
    fewer_left t = omega (arith, fewer_old t old_b (without_old old_a k.pairs), fewer_old t old_a k.pairs)

    put_once : (p : ℕ × ℕ) → length (filter (same_pair p) (rest ++ (a, b) ∷ [])) ≤ 1
    put_once p = at (same_pair p (a, b)) refl
      where
        at : (c : Bool) → same_pair p (a, b) ≡ c → length (filter (same_pair p) (rest ++ (a, b) ∷ [])) ≤ 1
        at true h =
            let none : length (filter (same_pair p) k.pairs) ≡ 0 = subst (λ q. length (filter (same_pair q) k.pairs) ≡ 0) (is_same p (a, b) h) (none_same (a, b) k.pairs absent) in
            rw (pass_put (same_pair p) rest (a, b), h) (omega (arith, fewer_left (same_pair p), none))
        at false h = rw (pass_put (same_pair p) rest (a, b), h) (omega (arith, fewer_left (same_pair p), fits.once p))

    -- the unit at a singular side stands in no pair that is left
    no_other_near : (side : Side) → is_singular k.singular side ≡ true → length (filter (λ p. near side p == near side (a, b)) rest) ≤ 0
    no_other_near A single =
        let t : Test = λ p. p.0 == a in
        let gone : length (filter t (without_old old_a k.pairs)) ≤ 0 = rw single (found_gone t k.pairs (few_at A a single)) in
        omega (arith, fewer_old t old_b (without_old old_a k.pairs), gone)
    no_other_near B single =
        let t : Test = λ p. p.1 == b in
        let gone : length (filter t (without_old old_b k.pairs)) ≤ 0 = rw single (found_gone t k.pairs (few_at B b single)) in
        rw (old_swap old_b old_a k.pairs) (omega (arith, fewer_old t old_a (without_old old_b k.pairs), gone))

    put_single : (side : Side) (n : ℕ) → is_singular k.singular side ≡ true → length (partners side n (rest ++ (a, b) ∷ [])) ≤ 1
    put_single side n single = rw (length-map (filter (λ p. near side p == n) (rest ++ (a, b) ∷ [])) (far side), pass_put (λ p. near side p == n) rest (a, b)) (at (near side (a, b) == n) refl)
      where
        at : (c : Bool) → (near side (a, b) == n) ≡ c → length (filter (λ p. near side p == n) rest) + cond (near side (a, b) == n) 1 0 ≤ 1
        at true h =
            let none : length (filter (λ p. near side p == n) rest) ≤ 0 = subst (λ m. length (filter (λ p. near side p == m) rest) ≤ 0) (eqb-true (near side (a, b)) n h) (no_other_near side single) in
            rw h (omega (arith, none))
        at false h = rw h (omega (arith, fewer_left (λ p. near side p == n), few_at side n single))

    put_fits : FitsCouple (record { singular = k.singular; pairs = rest ++ (a, b) ∷ [] })
    put_fits = record { once = put_once; single = put_single }

  pub linked_fits : (a b : ℕ) → FitsCouple (linked a b k)
  linked_fits a b = at (has_pair (a, b) k.pairs) refl
    where
      at : (c : Bool) → has_pair (a, b) k.pairs ≡ c → FitsCouple (linked a b k)
      at true h = rw h fits
      at false h = rw h (put_fits a b h)

pub empty_fits : (s : Singular) → FitsCouple (no_pairs s)
empty_fits s = record { once = λ p. omega arith; single = λ side n single. omega arith }
