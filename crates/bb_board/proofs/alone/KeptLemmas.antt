-- Couples of which some pairs are kept: each change that takes pairs away is of this form.
use Rattle.std.proofs.Common.{◌≡◌, ℕ, zero, suc, ◌+◌, ◌≤◌, ◌&&◌, ◌||◌, not, Bool, true, false, cond, List, [], ◌∷◌, filter, map, Option, Some, None, option_map, refl, sym, ap, subst, ◌∙◌, arith}
use Rattle.std.specs.Prelude.{◌==◌, slice_get, slice_set}
use Rattle.std.specs.List.{list_all}
use Rattle.std.specs.Option.{option_map_or}
use Rattle.std.proofs.lemmas.Bool.{and_parts, eq-eqb}
use Rattle.bb_basis.proofs.NumberLemmas.{differs}
use Rattle.bb_links.specs.Pairs.{same_pair}
use Rattle.bb_links.specs.Couples.{Couple, Couples, pairs_of, with_pairs, forgotten, after_forget, after_unlink, unlinked}

-- ---- filters

module _ {X : Type 0} where
  both_by : (p q : X → Bool) (x : X) (xs : List X) (b c : Bool) → p x ≡ b → q x ≡ c
      → filter p (cond c (x ∷ xs) xs) ≡ cond (c && b) (x ∷ filter p xs) (filter p xs)
  both_by p q x xs true true pe qe = rw pe refl
  both_by p q x xs false true pe qe = rw pe refl
  both_by p q x xs b false pe qe = refl

  pub filter_filter : (p q : X → Bool) (xs : List X) → filter p (filter q xs) ≡ filter (λ x. q x && p x) xs
  filter_filter p q [] = refl
  filter_filter p q (x ∷ xs) =
      both_by p q x (filter q xs) (p x) (q x) refl refl ∙ ap (λ ys. cond (q x && p x) (x ∷ ys) ys) (filter_filter p q xs)

  pub filter_same : (p q g : X → Bool) → ((x : X) → g x ≡ true → p x ≡ q x) → (xs : List X) → list_all g xs ≡ true → filter p xs ≡ filter q xs
  filter_same p q g from [] all = refl
  filter_same p q g from (x ∷ xs) all =
      let parts = and_parts (g x) (list_all g xs) all in
      ap (λ b. cond b (x ∷ filter p xs) (filter p xs)) (from x parts.0) ∙ ap (λ ys. cond (q x) (x ∷ ys) ys) (filter_same p q g from xs parts.1)

  pub filter_all : (p : X → Bool) → ((x : X) → p x ≡ true) → (xs : List X) → filter p xs ≡ xs
  filter_all p from [] = refl
  filter_all p from (x ∷ xs) = ap (λ b. cond b (x ∷ filter p xs) (filter p xs)) (from x) ∙ ap (λ ys. x ∷ ys) (filter_all p from xs)

  pub filter_alike : (p q : X → Bool) → ((x : X) → p x ≡ q x) → (xs : List X) → filter p xs ≡ filter q xs
  filter_alike p q from [] = refl
  filter_alike p q from (x ∷ xs) = ap (λ b. cond b (x ∷ filter p xs) (filter p xs)) (from x) ∙ ap (λ ys. cond (q x) (x ∷ ys) ys) (filter_alike p q from xs)

-- ---- couples, of which each keeps the pairs that pass the test for its number

abbrev pub Test : Type 0
Test = ℕ → ℕ × ℕ → Bool

abbrev pub kept_couple : Test → ℕ → Couple → Couple
kept_couple test i k = with_pairs k (filter (test i) k.pairs)

abbrev kept_from : Test → ℕ → List Couple → List Couple
kept_from test i [] = []
kept_from test i (k ∷ ks) = kept_couple test i k ∷ kept_from test (suc i) ks

abbrev pub kept : Test → Couples → Couples
kept test c = record { couples = kept_from test 0 c.couples; ends = c.ends }

kept_at : (test : Test) (i : ℕ) (ks : List Couple) (j : ℕ) → slice_get (kept_from test i ks) j ≡ option_map (kept_couple test (i + j)) (slice_get ks j)
kept_at test i [] j = refl
kept_at test i (k ∷ ks) zero = ap (λ m. Some (kept_couple test m k)) (let e : i ≡ i + 0 = omega arith in e)
kept_at test i (k ∷ ks) (suc j) = kept_at test (suc i) ks j ∙ ap (λ m. option_map (kept_couple test m) (slice_get ks j)) (let e : suc i + j ≡ i + suc j = omega arith in e)

pairs_by : (test : Test) (i : ℕ) (o : Option Couple) → option_map_or (λ k. k.pairs) (option_map (kept_couple test i) o) [] ≡ filter (test i) (option_map_or (λ k. k.pairs) o [])
pairs_by test i None = refl
pairs_by test i (Some k) = refl

pub pairs_kept : (test : Test) (c : Couples) (j : ℕ) → pairs_of (kept test c) j ≡ filter (test j) (pairs_of c j)
pairs_kept test c j =
    ap (λ o. option_map_or (λ (k : Couple). k.pairs) o []) (kept_at test 0 c.couples j)
    ∙ (pairs_by test (0 + j) (slice_get c.couples j) ∙ ap (λ m. filter (test m) (pairs_of c j)) (let e : 0 + j ≡ j = omega arith in e))

again_from : (p q : Test) (i : ℕ) (ks : List Couple) → kept_from p i (kept_from q i ks) ≡ kept_from (λ j x. q j x && p j x) i ks
again_from p q i [] = refl
again_from p q i (k ∷ ks) =
    ap (λ pairs. with_pairs k pairs ∷ kept_from p (suc i) (kept_from q (suc i) ks)) (filter_filter (p i) (q i) k.pairs)
    ∙ ap (λ xs. kept_couple (λ j x. q j x && p j x) i k ∷ xs) (again_from p q (suc i) ks)

-- what is kept of what was kept
pub kept_kept : (p q : Test) (c : Couples) → kept p (kept q c) ≡ kept (λ j x. q j x && p j x) c
kept_kept p q c = ap (λ ks. let d : Couples = record { couples = ks; ends = c.ends } in d) (again_from p q 0 c.couples)

same_from : (p q g : Test) → ((j : ℕ) (x : ℕ × ℕ) → g j x ≡ true → p j x ≡ q j x) → (i : ℕ) (ks : List Couple)
    → ((j : ℕ) → list_all (g (i + j)) (option_map_or (λ k. k.pairs) (slice_get ks j) []) ≡ true) → kept_from p i ks ≡ kept_from q i ks
same_from p q g from i [] all = refl
same_from p q g from i (k ∷ ks) all =
    ap (λ pairs. with_pairs k pairs ∷ kept_from p (suc i) ks)
    (filter_same (p i) (q i) (g i) (from i) k.pairs (subst (λ m. list_all (g m) k.pairs ≡ true) (let e : i + 0 ≡ i = omega arith in e) (all 0)))
    ∙ ap (λ xs. kept_couple q i k ∷ xs) (same_from p q g from (suc i) ks
    (λ j. subst (λ m. list_all (g m) (option_map_or (λ (x : Couple). x.pairs) (slice_get ks j) []) ≡ true) (let e : i + suc j ≡ suc i + j = omega arith in e) (all (suc j))))

-- tests that agree on the pairs that are there keep the same
pub kept_same : (p q g : Test) → ((j : ℕ) (x : ℕ × ℕ) → g j x ≡ true → p j x ≡ q j x) → (c : Couples) → ((j : ℕ) → list_all (g j) (pairs_of c j) ≡ true) → kept p c ≡ kept q c
kept_same p q g from c all =
    ap (λ ks. let d : Couples = record { couples = ks; ends = c.ends } in d) (same_from p q g from 0 c.couples
    (λ j. subst (λ m. list_all (g m) (pairs_of c j) ≡ true) (let e : j ≡ 0 + j = omega arith in e) (all j)))

alike_from : (p q : Test) → ((j : ℕ) (x : ℕ × ℕ) → p j x ≡ q j x) → (i : ℕ) (ks : List Couple) → kept_from p i ks ≡ kept_from q i ks
alike_from p q from i [] = refl
alike_from p q from i (k ∷ ks) =
    ap (λ pairs. with_pairs k pairs ∷ kept_from p (suc i) ks) (filter_alike (p i) (q i) (from i) k.pairs) ∙ ap (λ xs. kept_couple q i k ∷ xs) (alike_from p q from (suc i) ks)

pub kept_alike : (p q : Test) → ((j : ℕ) (x : ℕ × ℕ) → p j x ≡ q j x) → (c : Couples) → kept p c ≡ kept q c
kept_alike p q from c = ap (λ ks. let d : Couples = record { couples = ks; ends = c.ends } in d) (alike_from p q from 0 c.couples)

whole_from : (p : Test) (i : ℕ) → ((j : ℕ) (x : ℕ × ℕ) → i ≤ j → p j x ≡ true) → (ks : List Couple) → kept_from p i ks ≡ ks
whole_from p i from [] = refl
whole_from p i from (k ∷ ks) =
    ap (λ pairs. with_pairs k pairs ∷ kept_from p (suc i) ks) (filter_all (p i) (λ x. from i x (omega arith)) k.pairs)
    ∙ ap (λ xs. k ∷ xs) (whole_from p (suc i) (λ j x le. from j x (omega (arith, le))) ks)

-- all are kept
pub kept_whole : (p : Test) → ((j : ℕ) (x : ℕ × ℕ) → p j x ≡ true) → (c : Couples) → kept p c ≡ c
kept_whole p from c = ap (λ ks. let d : Couples = record { couples = ks; ends = c.ends } in d) (whole_from p 0 (λ j x le. from j x) c.couples)

forget_from : (n i : ℕ) (ks : List Couple) → map (forgotten n) ks ≡ kept_from (λ j x. not (x.0 == n || x.1 == n)) i ks
forget_from n i [] = refl
forget_from n i (k ∷ ks) = ap (λ xs. forgotten n k ∷ xs) (forget_from n (suc i) ks)

-- pairs of a unit are forgotten
pub forget_keeps : (c : Couples) (n : ℕ) → after_forget c n ≡ kept (λ j x. not (x.0 == n || x.1 == n)) c
forget_keeps c n = ap (λ ks. let d : Couples = record { couples = ks; ends = c.ends } in d) (forget_from n 0 c.couples)

abbrev pub all_but : (couple : ℕ) → ℕ × ℕ → Test
all_but couple p j x = not (j == couple && same_pair p x)

cons_out : {X : Type 0} (k : Couple) (f : X → List Couple) (d : List Couple) (o : Option X) → option_map_or (λ x. k ∷ f x) o (k ∷ d) ≡ k ∷ option_map_or f o d
cons_out k f d None = refl
cons_out k f d (Some x) = refl

untouched : (a b i j : ℕ) → (i ≡ j → ⊥) → (x : ℕ × ℕ) → all_but j (a, b) i x ≡ true
untouched a b i j apart x = ap (λ t. not (t && same_pair (a, b) x)) (differs i j apart)

one_from : (a b i : ℕ) (ks : List Couple) (j : ℕ)
    → option_map_or (λ k. slice_set ks j (unlinked a b k)) (slice_get ks j) ks ≡ kept_from (all_but (i + j) (a, b)) i ks
one_from a b i [] j = refl
one_from a b i (k ∷ ks) zero =
    ap (λ pairs. with_pairs k pairs ∷ ks) (filter_alike (λ q. not (same_pair (a, b) q)) (all_but (i + 0) (a, b) i) (λ x. ap (λ t. not (t && same_pair (a, b) x)) (sym (eq-eqb i (i + 0) (omega arith)))) k.pairs)
    ∙ ap (λ xs. kept_couple (all_but (i + 0) (a, b)) i k ∷ xs) (sym (whole_from (all_but (i + 0) (a, b)) (suc i)
    (λ j x le. untouched a b j (i + 0) (λ e. omega (arith, le, e)) x) ks))
one_from a b i (k ∷ ks) (suc j) =
    cons_out k (λ x. slice_set ks j (unlinked a b x)) ks (slice_get ks j)
    ∙ (ap (λ xs. k ∷ xs) (one_from a b (suc i) ks j)
    ∙ (ap (λ m. k ∷ kept_from (all_but m (a, b)) (suc i) ks) (let e : suc i + j ≡ i + suc j = omega arith in e)
    ∙ ap (λ pairs. with_pairs k pairs ∷ kept_from (all_but (i + suc j) (a, b)) (suc i) ks) (sym (filter_all (all_but (i + suc j) (a, b) i) (untouched a b i (i + suc j) (λ e. omega (arith, e))) k.pairs))))

changed_by : (c : Couples) (couple a b : ℕ) (o : Option Couple) → option_map_or (λ k. let d : Couples = record { couples = slice_set c.couples couple (unlinked a b k); ends = c.ends } in d) o c
    ≡ (let d : Couples = record { couples = option_map_or (λ k. slice_set c.couples couple (unlinked a b k)) o c.couples; ends = c.ends } in d)
changed_by c couple a b None = refl
changed_by c couple a b (Some k) = refl

-- one pair is no longer there
pub unlink_keeps : (c : Couples) (couple a b : ℕ) → after_unlink c couple a b ≡ kept (all_but couple (a, b)) c
unlink_keeps c couple a b =
    changed_by c couple a b (slice_get c.couples couple)
    ∙ (ap (λ ks. let d : Couples = record { couples = ks; ends = c.ends } in d) (one_from a b 0 c.couples couple)
    ∙ ap (λ m. kept (all_but m (a, b)) c) (let e : 0 + couple ≡ couple = omega arith in e))
