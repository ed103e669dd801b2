-- All pairs of a couple, in the order of their stamps.
use Rattle.std.proofs.Common.{◌≡◌, ℕ, zero, suc, ◌+◌, ◌<◌, ◌≤◌, ◌⊎◌, inl, inr, Bool, true, false, cond, ◌==◌, nat_lt, List, [], ◌∷◌, ◌++◌, Option, Some, None, Less, refl, sym, ap, subst, ◌∙◌, arith, append_assoc, eq-eqb}
use Rattle.std.specs.List.{AllByRecursion}
use Rattle.std.specs.List.Sorted.{IsStrictlySortedBy}
use Rattle.std.specs.Map.{keys_of, values_of, lookup}
use Rattle.std.specs.Option.{option_to_list}
use Rattle.std.specs.Ordering.{nat_cmp}
use Rattle.std.specs.Cmp.{nat_cmp_total, unsigned_tied}
use Rattle.std.specs.BTreeMap.{BTreeMap, get, is_at}
use Rattle.std.specs.FinMap.{entries, from_entries, same_map, nat_cmp-IsAntisymmetric}
use Rattle.std.proofs.lemmas.Bool.{eqb-true, eqb-false, ltb-true, ltb-false}
use Rattle.std.proofs.lemmas.Bool.Decides.{nat_tests}
use Rattle.std.proofs.lemmas.List.{append-nil}
use Rattle.std.proofs.lemmas.Map.Views.{tells_apart}
use Rattle.bb_basis.proofs.EntryLemmas.{get_is_lookup, entries_are}
use Rattle.bb_links.specs.proving.Maps.{pair_cmp, value_at}
use Rattle.bb_links.specs.proving.Stamps.{pair_under, in_order, ArePaired, AreStamped}
use Rattle.bb_links.proofs.StampLemmas.{Under, exact}

abbrev Told : Type 0
Told = List (ℕ × (ℕ × ℕ))

-- ---- the pairs under stamps, each with its stamp

abbrev one : ℕ → Option (ℕ × ℕ) → Told → Told
one k None rest = rest
one k (Some p) rest = (k, p) ∷ rest

-- under so many stamps, from one on
told : (k n : ℕ) → Under → Told
told k zero u = []
told k (suc n) u = one k (u k) (told (suc k) n u)

-- the test of a number below the next one
below_next : (q k : ℕ) (o : Option (ℕ × ℕ)) → (q ≡ k → o ≡ None) → cond (nat_lt q (suc k)) None o ≡ cond (nat_lt q k) None o
below_next q k o none = by (nat_lt q (suc k)) refl (nat_lt q k) refl
  where
    by : (b : Bool) → nat_lt q (suc k) ≡ b → (c : Bool) → nat_lt q k ≡ c → cond b None o ≡ cond c None o
    by true h true g = refl
    by false h false g = refl
    by true h false g = let lt : q < suc k = ltb-true q (suc k) h in let le : k ≤ q = ltb-false q k g in sym (none (omega (arith, lt, le)))
    by false h true g = let le : suc k ≤ q = ltb-false q (suc k) h in let lt : q < k = ltb-true q k g in absurd (omega (arith, le, lt))

same_next : (q k : ℕ) (p : ℕ × ℕ) (o : Option (ℕ × ℕ)) → (q ≡ k → o ≡ Some p) → cond (q == k) (Some p) (cond (nat_lt q (suc k)) None o) ≡ cond (nat_lt q k) None o
same_next q k p o some = by (q == k) refl (nat_lt q k) refl
  where
    by : (b : Bool) → (q == k) ≡ b → (c : Bool) → nat_lt q k ≡ c → cond b (Some p) (cond (nat_lt q (suc k)) None o) ≡ cond c None o
    by true h true g = let e : q ≡ k = eqb-true q k h in let lt : q < k = ltb-true q k g in absurd (omega (arith, e, lt))
    by true h false g = sym (some (eqb-true q k h))
    by false h c g = ap (λ r. r) (below_next q k o (λ e. absurd (eqb-false q k h e))) ∙ ap (λ d. cond d None o) g

one_at : (q k : ℕ) (o r : Option (ℕ × ℕ)) (rest : Told) → (q ≡ k → r ≡ o) → lookup (is_at (nat_cmp q)) rest ≡ cond (nat_lt q (suc k)) None r
    → lookup (is_at (nat_cmp q)) (one k o rest) ≡ cond (nat_lt q k) None r
one_at q k None r rest same is = is ∙ below_next q k r same
one_at q k (Some p) r rest same is = rw (unsigned_tied q k, is) (same_next q k p r same)

module _ (u : Under) where
  above_one : (j k : ℕ) (o : Option (ℕ × ℕ)) (rest : Told) → j < k → AllByRecursion (λ m. nat_cmp j m ≡ Less) (keys_of rest) → AllByRecursion (λ m. nat_cmp j m ≡ Less) (keys_of (one k o rest))
  above_one j k None rest lt all = all
  above_one j k (Some p) rest lt all = (grind (arith, nat_tests), all)

  all_above : (n j k : ℕ) → j < k → AllByRecursion (λ m. nat_cmp j m ≡ Less) (keys_of (told k n u))
  unfolding told
  all_above zero j k lt = tt
  all_above (suc n) j k lt = above_one j k (u k) (told (suc k) n u) lt (all_above n j (suc k) (omega arith))

  rises_one : (k : ℕ) (o : Option (ℕ × ℕ)) (rest : Told) → AllByRecursion (λ m. nat_cmp k m ≡ Less) (keys_of rest) → IsStrictlySortedBy nat_cmp (keys_of rest) → IsStrictlySortedBy nat_cmp (keys_of (one k o rest))
  unfolding IsStrictlySortedBy
  rises_one k None rest above rise = rise
  rises_one k (Some p) rest above rise = (above, rise)

  told_rises : (n k : ℕ) → IsStrictlySortedBy nat_cmp (keys_of (told k n u))
  unfolding told IsStrictlySortedBy
  told_rises zero k = tt
  told_rises (suc n) k = rises_one k (u k) (told (suc k) n u) (all_above n k (suc k) (omega arith)) (told_rises n (suc k))

  -- what stands under a stamp, where none stands above all
  told_at : (n k q : ℕ) → ((s : ℕ) → k + n ≤ s → u s ≡ None) → lookup (is_at (nat_cmp q)) (told k n u) ≡ cond (nat_lt q k) None (u q)
  unfolding told
  told_at zero k q none = nothing (nat_lt q k) refl
    where
      nothing : (b : Bool) → nat_lt q k ≡ b → None ≡ cond b None (u q)
      nothing true h = refl
      nothing false h = let le : k ≤ q = ltb-false q k h in sym (none q (omega (arith, le)))
  told_at (suc n) k q none =
      one_at q k (u k) (u q) (told (suc k) n u) (λ e. ap u e) (told_at n (suc k) q (λ s le. none s (omega (arith, le))))

  values_one : (k : ℕ) (o : Option (ℕ × ℕ)) (rest : Told) → values_of (one k o rest) ≡ option_to_list o ++ values_of rest
  values_one k None rest = refl
  values_one k (Some p) rest = refl

  told_values : (n k : ℕ) → in_order k u ++ values_of (told k n u) ≡ in_order (k + n) u
  unfolding told
  told_values zero k = append-nil (in_order k u) ∙ ap (λ m. in_order m u) (let e : k ≡ k + 0 = omega arith in e)
  told_values (suc n) k =
      ap (λ ps. in_order k u ++ ps) (values_one k (u k) (told (suc k) n u))
      ∙ (sym (append_assoc (in_order k u) (option_to_list (u k)) (values_of (told (suc k) n u)))
      ∙ (told_values n (suc k) ∙ ap (λ m. in_order m u) (let e : suc k + n ≡ k + suc n = omega arith in e)))

not_below : (q : ℕ) (o : Option (ℕ × ℕ)) → o ≡ cond (nat_lt q 0) None o
not_below q o = by (nat_lt q 0) refl
  where
    by : (b : Bool) → nat_lt q 0 ≡ b → o ≡ cond b None o
    by false h = refl
    by true h = let lt : q < 0 = ltb-true q 0 h in absurd (omega (arith, lt))

-- entries that have what stands under each stamp have the pairs in order
pub values_in_order : (n : ℕ) (u : Under) (pairs : BTreeMap ℕ (ℕ × ℕ)) → IsStrictlySortedBy nat_cmp (keys_of pairs.entries) → ((s : ℕ) → n ≤ s → u s ≡ None) → ((s : ℕ) → get nat_cmp pairs s ≡ u s)
    → values_of pairs.entries ≡ in_order n u
values_in_order n u pairs rise none has =
    let fs = told 0 n u in
    let same : from_entries {R = nat_cmp} pairs.entries ≡ from_entries {R = nat_cmp} fs = same_map nat_cmp_total nat_cmp-IsAntisymmetric _ _ (λ q.
    get_is_lookup pairs.entries q ∙ (has q ∙ (not_below q (u q) ∙ (sym (told_at u n 0 q (λ s le. none s (omega (arith, le)))) ∙ sym (get_is_lookup fs q))))) in
    let es : pairs.entries ≡ fs = sym (entries_are pairs.entries rise) ∙ (ap entries same ∙ entries_are fs (told_rises u n 0)) in
    ap (λ (xs : Told). values_of xs) es ∙ (told_values u n 0 ∙ ap (λ m. in_order m u) (let e : 0 + n ≡ n = omega arith in e))

-- ---- the pairs put under their stamps, one after another

abbrev pub Stamped : Type 0
Stamped = List ((ℕ × ℕ) × ℕ)

-- those under a stamp have it, and those that have one are under it, or left
pub record IsMade (stamps : BTreeMap (ℕ × ℕ) ℕ) (pairs : BTreeMap ℕ (ℕ × ℕ)) (rest : Stamped) : Type 0 where
  pub sound : (s : ℕ) (p : ℕ × ℕ) → get nat_cmp pairs s ≡ Some p → value_at stamps p ≡ Some s
  pub left : AllByRecursion (λ (e : (ℕ × ℕ) × ℕ). value_at stamps e.0 ≡ Some e.1) rest
  pub whole : (p : ℕ × ℕ) (s : ℕ) → value_at stamps p ≡ Some s → (get nat_cmp pairs s ≡ Some p) ⊎ (lookup (is_at (pair_cmp p)) rest ≡ Some s)

module _ (stamps : BTreeMap (ℕ × ℕ) ℕ) (paired : ArePaired stamps) where
  -- a stamp is that of one pair
  one_pair : (p q : ℕ × ℕ) (s : ℕ) → value_at stamps p ≡ Some s → value_at stamps q ≡ Some s → q ≡ p
  one_pair p q s is that = let e : Some q ≡ Some p = sym (paired.there q s that) ∙ paired.there p s is in cc

  module _ (old new : BTreeMap ℕ (ℕ × ℕ)) (p : ℕ × ℕ) (s : ℕ) (rest : Stamped) (put : (q : ℕ) → get nat_cmp new q ≡ cond (is_at (nat_cmp s) q) (Some p) (get nat_cmp old q)) (made : IsMade stamps old ((p, s) ∷ rest)) where
    sound_by : (k : ℕ) (q : ℕ × ℕ) (b : Bool) → is_at (nat_cmp s) k ≡ b → cond b (Some p) (get nat_cmp old k) ≡ Some q → value_at stamps q ≡ Some k
    sound_by k q true same is =
        let e : p ≡ q = cc in
        let f : s ≡ k = eqb-true s k (sym (unsigned_tied s k) ∙ same) in
        subst (λ r. value_at stamps r ≡ Some k) e (made.left.0 ∙ ap Some f)
    sound_by k q false other is = made.sound k q is

    kept_by : (k : ℕ) (q : ℕ × ℕ) (b : Bool) → is_at (nat_cmp s) k ≡ b → value_at stamps q ≡ Some k → get nat_cmp old k ≡ Some q → cond b (Some p) (get nat_cmp old k) ≡ Some q
    kept_by k q true same has is =
        let f : s ≡ k = eqb-true s k (sym (unsigned_tied s k) ∙ same) in
        ap Some (one_pair q p k has (made.left.0 ∙ ap Some f))
    kept_by k q false other has is = is

    left_by : (k : ℕ) (q : ℕ × ℕ) (b : Bool) → is_at (pair_cmp q) p ≡ b → cond b (Some s) (lookup (is_at (pair_cmp q)) rest) ≡ Some k → (get nat_cmp new k ≡ Some q) ⊎ (lookup (is_at (pair_cmp q)) rest ≡ Some k)
    left_by k q true same is =
        let e : q ≡ p = tells_apart exact q p same in
        let f : s ≡ k = cc in
        inl (put k ∙ rw (unsigned_tied s k, eq-eqb s k f) (ap Some (sym e)))
    left_by k q false other is = inr is

    pub made_more : IsMade stamps new rest
    made_more = record {
      sound = λ k q is. sound_by k q (is_at (nat_cmp s) k) refl (sym (put k) ∙ is);
      left = made.left.1;
      whole = λ q k has. elim (made.whole q k has) [
        | inl is ↦ inl (put k ∙ kept_by k q (is_at (nat_cmp s) k) refl has is)
        | inr is ↦ left_by k q (is_at (pair_cmp q) p) refl is
      ];
    }

  pub made_all : (pairs : BTreeMap ℕ (ℕ × ℕ)) → IsMade stamps pairs [] → (s : ℕ) → get nat_cmp pairs s ≡ pair_under stamps s
  made_all pairs made s = by (pair_under stamps s) refl (get nat_cmp pairs s) refl
    where
      by : (o : Option (ℕ × ℕ)) → pair_under stamps s ≡ o → (r : Option (ℕ × ℕ)) → get nat_cmp pairs s ≡ r → r ≡ o
      by None h None g = refl
      by None h (Some q) g = sym (paired.there q s (made.sound s q g)) ∙ h
      by (Some p) h r g = elim (made.whole p s (paired.found p s h)) [
        | inl is ↦ sym g ∙ is
        | inr is ↦ absurd cc
      ]

  pub made_none : (pairs : BTreeMap ℕ (ℕ × ℕ)) → ((s : ℕ) → get nat_cmp pairs s ≡ None) → AllByRecursion (λ (e : (ℕ × ℕ) × ℕ). value_at stamps e.0 ≡ Some e.1) stamps.entries → IsMade stamps pairs stamps.entries
  made_none pairs none all = record {
    sound = λ s p is. absurd (let e : None ≡ Some p = sym (none s) ∙ is in cc);
    left = all;
    whole = λ p s has. inr has;
  }

pub paired_of : (next : ℕ) (stamps : BTreeMap (ℕ × ℕ) ℕ) → AreStamped next (value_at stamps) (pair_under stamps) → ArePaired stamps
paired_of next stamps kept = record { there = kept.there; found = kept.found }

pub none_above : (next : ℕ) (stamps : BTreeMap (ℕ × ℕ) ℕ) → AreStamped next (value_at stamps) (pair_under stamps) → (s : ℕ) → next ≤ s → pair_under stamps s ≡ None
none_above next stamps kept s le = by (pair_under stamps s) refl
  where
    by : (o : Option (ℕ × ℕ)) → pair_under stamps s ≡ o → o ≡ None
    by None h = refl
    by (Some p) h = let lt = kept.below p s (kept.found p s h) in absurd (omega (arith, lt, le))
