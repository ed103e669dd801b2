-- Pairs without those of a unit, and pairs after a link.
use Rattle.std.proofs.Common.{◌≡◌, ℕ, ◌==◌, Bool, true, false, not, cond, ◌&&◌, ◌||◌, List, [], ◌∷◌, ◌++◌, filter, Option, Some, None, refl, sym, ap, subst, ◌∙◌}
use Rattle.std.specs.Prelude.{find}
use Rattle.std.proofs.lemmas.Bool.{eqb-true, eqb-false, or_parts}
use Rattle.std.proofs.lemmas.List.Elements.{filter_agree, filter-append}
use Rattle.bb_schema.specs.declared.couple.Side.{Side}
use Rattle.bb_schema.specs.declared.couple.Side.TheVariants.{A, B}
use Rattle.bb_links.specs.declared.couple.Singular.{Singular}
use Rattle.bb_links.specs.Pairs.{near, same_pair, has_pair, without_pair, without_old, without_unit, is_singular, old_pair, with_link}
use Rattle.bb_links.specs.proving.Stamps.{without_at}

-- ---- two filters

module _ {X : Type 0} (p q : X → Bool) where
  pub filter-filter : (xs : List X) → filter p (filter q xs) ≡ filter (λ x. q x && p x) xs
  filter-filter [] = refl
  filter-filter (x ∷ xs) = at (q x) refl (filter-filter xs)
    where
      at : (b : Bool) → q x ≡ b → filter p (filter q xs) ≡ filter (λ y. q y && p y) xs → filter p (filter q (x ∷ xs)) ≡ filter (λ y. q y && p y) (x ∷ xs)
      at true h later = rw (h, later) refl
      at false h later = rw h later

pub cut_at_both : (n : ℕ) (pairs : List (ℕ × ℕ)) → without_at B n (without_at A n pairs) ≡ without_unit n pairs
unfolding without_at
cut_at_both n pairs = filter-filter (λ p. not (p.1 == n)) (λ p. not (p.0 == n)) pairs ∙ filter_agree (λ p. not (p.0 == n) && not (p.1 == n)) (λ p. not (p.0 == n || p.1 == n)) (λ p. by (p.0 == n) (p.1 == n)) pairs
  where
    by : (x y : Bool) → (not x && not y) ≡ not (x || y)
    by true y = refl
    by false y = refl

-- ---- a link

pub eq_turned : (a b : ℕ) → (a == b) ≡ (b == a)
eq_turned a b = at (a == b) (b == a) refl refl
  where
    at : (c d : Bool) → (a == b) ≡ c → (b == a) ≡ d → (a == b) ≡ (b == a)
    at true true h k = h ∙ sym k
    at false false h k = h ∙ sym k
    at true false h k = absurd (eqb-false b a k (sym (eqb-true a b h)))
    at false true h k = absurd (eqb-false a b h (sym (eqb-true b a k)))

same_pair_swapped : (p q : ℕ × ℕ) → same_pair p q ≡ false → same_pair q p ≡ false
same_pair_swapped p q h = ap (λ b. b && (p.1 == q.1)) (eq_turned p.0 q.0) ∙ (ap (λ b. (q.0 == p.0) && b) (eq_turned p.1 q.1) ∙ h)

-- what is found is another pair than one that is not there
found_apart : (t : ℕ × ℕ → Bool) (p q : ℕ × ℕ) (pairs : List (ℕ × ℕ)) → find t pairs ≡ Some q → has_pair p pairs ≡ false → same_pair q p ≡ false
found_apart t p q [] is absent = absurd cc
found_apart t p q (r ∷ rs) is absent = at (t r) is (found_apart t p q rs)
  where
    parts : (same_pair p r ≡ false) × (has_pair p rs ≡ false)
    parts = or_parts (same_pair p r) (has_pair p rs) absent

    at : (b : Bool) → cond b (Some r) (find t rs) ≡ Some q → (find t rs ≡ Some q → has_pair p rs ≡ false → same_pair q p ≡ false) → same_pair q p ≡ false
    at true now later = let same : r ≡ q = cc in subst (λ s. same_pair s p ≡ false) same (same_pair_swapped p r parts.0)
    at false now later = later now parts.1

put_last : (q p : ℕ × ℕ) (pairs : List (ℕ × ℕ)) → same_pair q p ≡ false → without_pair q (pairs ++ p ∷ []) ≡ without_pair q pairs ++ p ∷ []
put_last q p pairs other = filter-append (λ r. not (same_pair q r)) pairs (p ∷ []) ∙ ap (λ b. without_pair q pairs ++ cond (not b) (p ∷ []) []) other

abbrev IsApart : Option (ℕ × ℕ) → ℕ × ℕ → Type 0
IsApart old p = (q : ℕ × ℕ) → old ≡ Some q → same_pair q p ≡ false

old_put_last : (old : Option (ℕ × ℕ)) (p : ℕ × ℕ) (pairs : List (ℕ × ℕ)) → IsApart old p → without_old old (pairs ++ p ∷ []) ≡ without_old old pairs ++ p ∷ []
old_put_last None p pairs apart = refl
old_put_last (Some q) p pairs apart = put_last q p pairs (apart q refl)

old_apart : (s : Singular) (side : Side) (n : ℕ) (p : ℕ × ℕ) (pairs : List (ℕ × ℕ)) → has_pair p pairs ≡ false → IsApart (old_pair s side n pairs) p
old_apart s side n p pairs absent q is = at (is_singular s side) is
  where
    at : (b : Bool) → cond b (find (λ r. near side r == n) pairs) None ≡ Some q → same_pair q p ≡ false
    at true is = found_apart (λ r. near side r == n) p q pairs is absent
    at false is = absurd cc

-- the new pair first, and then the old ones
pub put_then_cut : (s : Singular) (a b : ℕ) (pairs : List (ℕ × ℕ)) → has_pair (a, b) pairs ≡ false
    → without_old (old_pair s B b pairs) (without_old (old_pair s A a pairs) (pairs ++ (a, b) ∷ [])) ≡ with_link s a b pairs
put_then_cut s a b pairs absent =
    ap (without_old (old_pair s B b pairs)) (old_put_last (old_pair s A a pairs) (a, b) pairs (old_apart s A a (a, b) pairs absent))
    ∙ (old_put_last (old_pair s B b pairs) (a, b) (without_old (old_pair s A a pairs) pairs) (old_apart s B b (a, b) pairs absent)
    ∙ ap (λ t. cond t pairs (without_old (old_pair s B b pairs) (without_old (old_pair s A a pairs) pairs) ++ (a, b) ∷ [])) (sym absent))
