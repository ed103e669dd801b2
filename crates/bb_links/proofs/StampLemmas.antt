-- The pair under each stamp, and the pairs in the order of their stamps, after each change of the stamps.
use Rattle.std.proofs.Common.{◌≡◌, ℕ, zero, suc, ◌+◌, ◌<◌, ◌==◌, Bool, true, false, not, cond, ◌||◌, List, [], ◌∷◌, ◌++◌, filter, Option, Some, None, refl, sym, ap, subst, ◌∙◌, arith}
use Rattle.std.specs.Prelude.{find, is_some}
use Rattle.std.specs.Option.{option_to_list}
use Rattle.std.specs.Ordering.{nat_cmp}
use Rattle.std.specs.Map.{lookup, keys_of}
use Rattle.std.specs.BTreeMap.{BTreeMap, keys, is_at}
use Rattle.std.proofs.lemmas.Bool.{eqb-true, eqb-false, eq-eqb, ne_eqb, or_left, or_right, or_from}
use Rattle.std.proofs.lemmas.List.Elements.{filter-append}
use Rattle.std.proofs.lemmas.List.Folds.{list_any-append}
use Rattle.std.proofs.lemmas.Map.Entries.{option_filter}
use Rattle.std.proofs.lemmas.Map.Lookups.{CmpEqualImpliesEq, exact_pairs, exact_unsigned}
use Rattle.std.proofs.lemmas.Map.Views.{tells_apart}
use Rattle.bb_links.specs.Pairs.{same_pair, has_pair, without_pair}
use Rattle.bb_links.specs.proving.Maps.{pair_cmp, value_at}
use Rattle.bb_links.specs.proving.Stamps.{is_stamp, pair_under, in_order, AreStamped}
use Rattle.bb_links.proofs.PairLemmas.{same_itself}
use Rattle.bb_links.proofs.FitLemmas.{is_same}

abbrev Stamps : Type 0
Stamps = BTreeMap (ℕ × ℕ) ℕ

abbrev pub Under : Type 0
Under = ℕ → Option (ℕ × ℕ)

pub exact : CmpEqualImpliesEq pair_cmp
exact = exact_pairs nat_cmp nat_cmp exact_unsigned exact_unsigned

-- ---- the pair under a stamp

find_passes : {X : Type 0} (t : X → Bool) (xs : List X) (x : X) → find t xs ≡ Some x → t x ≡ true
find_passes t [] x is = absurd cc
find_passes t (y ∷ ys) x is = at (t y) refl is (find_passes t ys x)
  where
    at : (b : Bool) → t y ≡ b → cond b (Some y) (find t ys) ≡ Some x → (find t ys ≡ Some x → t x ≡ true) → t x ≡ true
    at true h is rest = let same : y ≡ x = cc in subst (λ z. t z ≡ true) same h
    at false h is rest = rest is

-- it has the stamp
has_found : (m : Stamps) (p : ℕ × ℕ) (s : ℕ) → pair_under m s ≡ Some p → value_at m p ≡ Some s
has_found m p s is = at (value_at m p) (find_passes (λ q. is_stamp s (value_at m q)) (keys m) p is)
  where
    at : (o : Option ℕ) → is_stamp s o ≡ true → o ≡ Some s
    at None h = absurd cc
    at (Some k) h = ap (λ n. Some n) (eqb-true k s h)

-- and a pair that has it is found
none_passes : (p : ℕ × ℕ) (k : ℕ) (t : ℕ × ℕ → Bool) → t p ≡ true → (es : List ((ℕ × ℕ) × ℕ)) → lookup (is_at (pair_cmp p)) es ≡ Some k → find t (keys_of es) ≡ None → ⊥
none_passes p k t passes [] is none = absurd cc
none_passes p k t passes (e ∷ es) is none = at (is_at (pair_cmp p) e.0) refl (t e.0) refl is none (none_passes p k t passes es)
  where
    at : (b : Bool) → is_at (pair_cmp p) e.0 ≡ b → (c : Bool) → t e.0 ≡ c → cond b (Some e.1) (lookup (is_at (pair_cmp p)) es) ≡ Some k → cond c (Some e.0) (find t (keys_of es)) ≡ None
        → (lookup (is_at (pair_cmp p)) es ≡ Some k → find t (keys_of es) ≡ None → ⊥) → ⊥
    at b h true g is none rest = absurd cc
    at false h false g is none rest = rest is none
    at true h false g is none rest = absurd (let e : true ≡ false = sym passes ∙ (ap t (tells_apart exact p e.0 h) ∙ g) in cc)

-- so whatever goes with the stamps says which pair is under each
module _ (next : ℕ) (m : Stamps) (w : Under) (kept : AreStamped next (value_at m) w) where
  under_is : (s : ℕ) → pair_under m s ≡ w s
  under_is s = at (pair_under m s) refl (w s) refl
    where
      at : (o : Option (ℕ × ℕ)) → pair_under m s ≡ o → (r : Option (ℕ × ℕ)) → w s ≡ r → o ≡ r
      at (Some q) h r g = sym (kept.there q s (has_found m q s h)) ∙ g
      at None h None g = refl
      at None h (Some q) g =
          let is = kept.found q s g in
          absurd (none_passes q s (λ p. is_stamp s (value_at m p)) (rw is (eq-eqb s s refl)) m.entries is h)

  stamped_as : AreStamped next (value_at m) (pair_under m)
  stamped_as = record { below = kept.below; there = λ p s is. under_is s ∙ kept.there p s is; found = has_found m }

-- ---- the pairs in order

agree : (u v : Under) (n : ℕ) → ((s : ℕ) → s < n → v s ≡ u s) → in_order n v ≡ in_order n u
agree u v zero same = refl
agree u v (suc n) same = rw (agree u v n (λ s lt. same s (omega (arith, lt))), same n (omega arith)) refl

one_filtered : (t : ℕ × ℕ → Bool) (o : Option (ℕ × ℕ)) → option_to_list (option_filter t o) ≡ filter t (option_to_list o)
one_filtered t None = refl
one_filtered t (Some q) = at (t q)
  where
    at : (b : Bool) → option_to_list (cond b (Some q) None) ≡ cond b (q ∷ []) []
    at true = refl
    at false = refl

all_filtered : (t : ℕ × ℕ → Bool) (u : Under) (n : ℕ) → in_order n (λ s. option_filter t (u s)) ≡ filter t (in_order n u)
all_filtered t u zero = refl
all_filtered t u (suc n) =
    ap (λ l. l ++ option_to_list (option_filter t (u n))) (all_filtered t u n)
    ∙ (ap (λ l. filter t (in_order n u) ++ l) (one_filtered t (u n)) ∙ sym (filter-append t (in_order n u) (option_to_list (u n))))

-- a pair is there if it is under a stamp
module _ (u : Under) (p : ℕ × ℕ) where
  is_there : (s : ℕ) → u s ≡ Some p → (n : ℕ) → s < n → has_pair p (in_order n u) ≡ true
  is_there s is zero lt = absurd (omega (arith, lt))
  is_there s is (suc n) lt = list_any-append (same_pair p) (in_order n u) (option_to_list (u n)) ∙ at (s == n) refl (is_there s is n)
    where
      at : (b : Bool) → (s == n) ≡ b → (s < n → has_pair p (in_order n u) ≡ true) → (has_pair p (in_order n u) || has_pair p (option_to_list (u n))) ≡ true
      at true h rest = or_right (has_pair p (in_order n u)) (has_pair p (option_to_list (u n))) (rw (ap u (sym (eqb-true s n h)) ∙ is, same_itself p) refl)
      at false h rest = let apart = eqb-false s n h in or_left (has_pair p (in_order n u)) (has_pair p (option_to_list (u n))) (rest (omega (arith, lt, apart)))

  not_there : ((s : ℕ) → u s ≡ Some p → ⊥) → (n : ℕ) → has_pair p (in_order n u) ≡ false
  not_there none zero = refl
  not_there none (suc n) = list_any-append (same_pair p) (in_order n u) (option_to_list (u n)) ∙ or_from _ _ (not_there none n) (at (u n) refl)
    where
      by : (q : ℕ × ℕ) → u n ≡ Some q → (b : Bool) → same_pair p q ≡ b → (b || false) ≡ false
      by q is true h = absurd (none n (is ∙ ap (λ r. Some r) (is_same p q h)))
      by q is false h = refl

      at : (o : Option (ℕ × ℕ)) → u n ≡ o → has_pair p (option_to_list o) ≡ false
      at None is = refl
      at (Some q) is = by q is (same_pair p q) refl

module _ (next : ℕ) (f : ℕ × ℕ → Option ℕ) (u : Under) (kept : AreStamped next f u) where
  -- no pair is under a stamp above all
  pub none_next : u next ≡ None
  none_next = at (u next) refl
    where
      at : (o : Option (ℕ × ℕ)) → u next ≡ o → o ≡ None
      at None is = refl
      at (Some q) is = absurd (let lt = kept.below q next (kept.found q next is) in omega (arith, lt))

  module _ (p : ℕ × ℕ) where
    -- a pair is there if it has a stamp
    pub there_stamped : is_some (f p) ≡ has_pair p (in_order next u)
    there_stamped = at (f p) refl
      where
        at : (o : Option ℕ) → f p ≡ o → is_some o ≡ has_pair p (in_order next u)
        at None h = sym (not_there u p (λ s is. let e : None ≡ Some s = sym h ∙ kept.found p s is in absurd cc) next)
        at (Some s) h = sym (is_there u p s (kept.there p s h) next (kept.below p s h))

    -- ---- one pair more, under a stamp above all

    module _ (m : Stamps) (absent : has_pair p (in_order next u) ≡ false) (one : (q : ℕ × ℕ) → value_at m q ≡ cond (same_pair p q) (Some next) (f q)) where
      abbrev more : Under
      more s = cond (s == next) (Some p) (u s)

      more_stamped : AreStamped (next + 1) (value_at m) more
      more_stamped = record {
        below = λ q s is. below q s (same_pair p q) (sym (one q) ∙ is);
        there = λ q s is. there q s (same_pair p q) refl (sym (one q) ∙ is);
        found = λ q s is. found q s (s == next) refl is;
      }
        where
          below : (q : ℕ × ℕ) (s : ℕ) (b : Bool) → cond b (Some next) (f q) ≡ Some s → s < next + 1
          below q s true is = let same : next ≡ s = cc in omega (arith, same)
          below q s false is = omega (arith, kept.below q s is)

          there : (q : ℕ × ℕ) (s : ℕ) (b : Bool) → same_pair p q ≡ b → cond b (Some next) (f q) ≡ Some s → more s ≡ Some q
          there q s true h is = let same : s ≡ next = cc in rw (eq-eqb s next same) (ap (λ r. Some r) (sym (is_same p q h)))
          there q s false h is = rw (ne_eqb s next (λ same. let lt = kept.below q s is in omega (arith, same, lt))) (kept.there q s is)

          old : (q : ℕ × ℕ) (s : ℕ) → f q ≡ Some s → (b : Bool) → same_pair p q ≡ b → value_at m q ≡ Some s
          old q s is true h = absurd (let e : true ≡ false = sym (ap is_some (ap f (sym (is_same p q h)) ∙ is)) ∙ (there_stamped ∙ absent) in cc)
          old q s is false h = one q ∙ rw h is

          found : (q : ℕ × ℕ) (s : ℕ) (b : Bool) → (s == next) ≡ b → cond b (Some p) (u s) ≡ Some q → value_at m q ≡ Some s
          found q s true h is =
              let same : p ≡ q = cc in
              subst (λ r. value_at m r ≡ Some s) same (one p ∙ rw (same_itself p) (ap (λ n. Some n) (sym (eqb-true s next h))))
          found q s false h is = old q s (kept.found q s is) (same_pair p q) refl

      pub put_is : (s : ℕ) → pair_under m s ≡ cond (s == next) (Some p) (u s)
      put_is s = under_is (next + 1) m more more_stamped s

      pub put_stamped : AreStamped (next + 1) (value_at m) (pair_under m)
      put_stamped = stamped_as (next + 1) m more more_stamped

      pub put_order : in_order (next + 1) (pair_under m) ≡ in_order next u ++ p ∷ []
      put_order =
          let e : next + 1 ≡ suc next = omega arith in
          let now : pair_under m next ≡ Some p = put_is next ∙ rw (eq-eqb next next refl) refl in
          let before = agree u (pair_under m) next (λ s lt. put_is s ∙ rw (ne_eqb s next (λ same. omega (arith, lt, same))) refl) in
          ap (λ n. in_order n (pair_under m)) e ∙ (ap (λ l. l ++ option_to_list (pair_under m next)) before ∙ ap (λ o. in_order next u ++ option_to_list o) now)

    -- ---- one pair less

    module _ (m : Stamps) (one : (q : ℕ × ℕ) → value_at m q ≡ cond (same_pair p q) None (f q)) where
      abbrev less : Under
      less s = option_filter (λ q. not (same_pair p q)) (u s)

      less_stamped : AreStamped next (value_at m) less
      less_stamped = record {
        below = λ q s is. kept.below q s (was q s (same_pair p q) refl (sym (one q) ∙ is)).0;
        there = λ q s is. let w = was q s (same_pair p q) refl (sym (one q) ∙ is) in rw (kept.there q s w.0, w.1) refl;
        found = λ q s is. found q s (u s) refl is;
      }
        where
          was : (q : ℕ × ℕ) (s : ℕ) (b : Bool) → same_pair p q ≡ b → cond b None (f q) ≡ Some s → (f q ≡ Some s) × (same_pair p q ≡ false)
          was q s true h is = absurd cc
          was q s false h is = (is, h)

          by : (q r : ℕ × ℕ) (s : ℕ) → f r ≡ Some s → (b : Bool) → same_pair p r ≡ b → cond (not b) (Some r) None ≡ Some q → value_at m q ≡ Some s
          by q r s has true h is = absurd cc
          by q r s has false h is = let same : r ≡ q = cc in subst (λ x. value_at m x ≡ Some s) same (one r ∙ rw h has)

          found : (q : ℕ × ℕ) (s : ℕ) (o : Option (ℕ × ℕ)) → u s ≡ o → option_filter (λ r. not (same_pair p r)) o ≡ Some q → value_at m q ≡ Some s
          found q s None h is = absurd cc
          found q s (Some r) h is = by q r s (kept.found r s h) (same_pair p r) refl is

      pub take_stamped : AreStamped next (value_at m) (pair_under m)
      take_stamped = stamped_as next m less less_stamped

      pub take_order : in_order next (pair_under m) ≡ without_pair p (in_order next u)
      take_order = agree less (pair_under m) next (λ s lt. under_is next m less less_stamped s) ∙ all_filtered (λ q. not (same_pair p q)) u next

      -- it is the one under its stamp that goes
      pub take_is : (k : ℕ) → f p ≡ Some k → (s : ℕ) → pair_under m s ≡ cond (s == k) None (u s)
      take_is k has s = under_is next m less less_stamped s ∙ at (u s) refl (s == k) refl
        where
          by : (q : ℕ × ℕ) → u s ≡ Some q → (b : Bool) → (s == k) ≡ b → (c : Bool) → same_pair p q ≡ c → cond (not c) (Some q) None ≡ cond b None (Some q)
          by q is true h true g = refl
          by q is false h false g = refl
          by q is true h false g =
              let e : Some q ≡ Some p = sym is ∙ (ap u (eqb-true s k h) ∙ kept.there p k has) in
              let same : q ≡ p = cc in
              absurd (let d : true ≡ false = sym (same_itself p) ∙ (ap (same_pair p) (sym same) ∙ g) in cc)
          by q is false h true g =
              let e : Some s ≡ Some k = sym (kept.found q s is) ∙ (ap f (is_same p q g) ∙ has) in
              let same : s ≡ k = cc in
              absurd (eqb-false s k h same)

          at : (o : Option (ℕ × ℕ)) → u s ≡ o → (b : Bool) → (s == k) ≡ b → option_filter (λ q. not (same_pair p q)) o ≡ cond b None o
          at None is true h = refl
          at None is false h = refl
          at (Some q) is b h = by q is b h (same_pair p q) refl
