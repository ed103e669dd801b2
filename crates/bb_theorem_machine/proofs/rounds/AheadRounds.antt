-- Where an execution goes ahead, no place can come more often than before, and the place that it leaves less often.
use Rattle.std.proofs.Common.{◌≡◌, ◌⊎◌, inl, inr, ℕ, ◌+◌, ◌*◌, ◌^◌, ◌<◌, ◌≤◌, Bool, true, false, List, [], ◌∷◌, length, filter, refl, ap, ◌∙◌, cond, arith, pow-add}
use Rattle.std.specs.Prelude.{not, ◌==◌, ◌&&◌, nat_le}
use Rattle.std.specs.List.{sum_by}
use Rattle.std.proofs.Math.Nat.{mul_comm, mul-le-mul_right, one-le-pow}
use Rattle.std.proofs.lemmas.Bool.Decides.{nat_tests}
use Rattle.bb_code.specs.declared.frame.Loop.{Loop}
use Rattle.bb_verify.specs.nesting.Loops.{holds}
use Rattle.bb_theorem_machine.specs.proving.StepsLeft.{apart, often, rounds, in_rounds, comes, is_between, Onward, Ahead}
use Rattle.bb_theorem_machine.proofs.rounds.SumLemmas.{first_in, rest_in, sum_le_more, sum_zero, filter_step, raised}

-- ---- one loop

both_by : (hp it : Bool) (again before w wt m : ℕ) → ((hp ≡ true) × (again ≤ before)) ⊎ ((it ≡ true) × (again * w ≤ m * wt)) → again * w ≤ cond (hp && true) (before * w) 0 + cond (it && true) (m * wt) 0
both_by true it again before w wt m (inl f) = let le = mul-le-mul_right w f.1 in omega (arith, le)
both_by false it again before w wt m (inl f) = absurd cc
both_by hp true again before w wt m (inr f) = omega (arith, f.1)
both_by hp false again before w wt m (inr f) = absurd cc

rounds_by : (ht hq hp it : Bool) (again before w wt m : ℕ) → (ht ≡ true → ((hp ≡ true) × (again ≤ before)) ⊎ ((it ≡ true) × (again * w ≤ m * wt)))
    → cond (ht && hq) (again * w) 0 ≤ cond (hp && hq) (before * w) 0 + cond (it && hq) (m * wt) 0
rounds_by false hq hp it again before w wt m facts = omega arith
rounds_by true false hp it again before w wt m facts = omega arith
rounds_by true true hp it again before w wt m facts = both_by hp it again before w wt m (facts refl)

module _ (w : ℕ → ℕ) (m : ℕ) (left next : Loop → ℕ) (p t q : ℕ) (l : Loop) where
  entered : l.head ≡ t → next l ≤ m → rounds next t l * w l.head ≤ m * w t
  entered at low =
      let is : (l.head == t) ≡ true = grind (arith, nat_tests) in
      let one : rounds next t l * w l.head ≡ next l * w t = ap (λ b. cond b (next l) (next l + 1) * w l.head) is ∙ ap (λ h. next l * w h) at in
      let le = mul-le-mul_right (w t) low in
      omega (arith, one, le)

  shown : Onward m left next p t l → ((holds p l ≡ true) × (rounds next t l ≤ rounds left p l)) ⊎ (((l.head == t) ≡ true) × (rounds next t l * w l.head ≤ m * w t))
  shown (inl f) = inl f
  shown (inr f) = inr (let at = f.0 in grind (arith, nat_tests), entered f.0 f.1)

  one_ahead : (holds t l ≡ true → Onward m left next p t l) → in_rounds w next t q l ≤ in_rounds w left p q l + cond (is_between t q l) (m * w t) 0
  one_ahead on = rounds_by (holds t l) (holds q l) (holds p l) (l.head == t) (rounds next t l) (rounds left p l) (w l.head) (w t) m (λ is. shown (on is))

apart_by : (hq it ht hp : Bool) → (hq ≡ true → hp ≡ true → ht ≡ true) → (it ≡ true → hq ≡ true → ht ≡ true) → (it ≡ true → hp ≡ false) → (ht ≡ true → (hp ≡ true) ⊎ (it ≡ true))
    → cond (hq && not hp) 1 0 ≡ cond (hq && not ht) 1 0 + cond (it && hq) 1 0
apart_by false false ht hp a b c d = refl
apart_by false true ht hp a b c d = refl
apart_by true false true true a b c d = refl
apart_by true false true false a b c d = elim (d refl) [ inl f ↦ absurd cc | inr f ↦ absurd cc ]
apart_by true false false true a b c d = let f = a refl refl in absurd cc
apart_by true false false false a b c d = refl
apart_by true true ht true a b c d = let f = c refl in absurd cc
apart_by true true true false a b c d = refl
apart_by true true false false a b c d = let f = b refl refl in absurd cc

either : (m : ℕ) (left next : Loop → ℕ) (p t : ℕ) (l : Loop) → Onward m left next p t l → (holds p l ≡ true) ⊎ ((l.head == t) ≡ true)
either m left next p t l (inl f) = inl f.0
either m left next p t l (inr f) = inr (let at = f.0 in grind (arith, nat_tests))

between : (p t q : ℕ) (l : Loop) → p < t → t ≤ q → holds q l ≡ true → holds p l ≡ true → holds t l ≡ true
between p t q l lt le = grind (arith, nat_tests)

at_head : (t q : ℕ) (l : Loop) → t ≤ q → (l.head == t) ≡ true → holds q l ≡ true → holds t l ≡ true
at_head t q l le = grind (arith, nat_tests)

not_yet : (p t : ℕ) (l : Loop) → p < t → (l.head == t) ≡ true → holds p l ≡ false
not_yet p t l lt = grind (arith, nat_tests)

one_apart : (m : ℕ) (left next : Loop → ℕ) (p t q : ℕ) (l : Loop) → p < t → t ≤ q → (holds t l ≡ true → Onward m left next p t l)
    → cond (holds q l && not (holds p l)) 1 0 ≡ cond (holds q l && not (holds t l)) 1 0 + cond (is_between t q l) 1 0
one_apart m left next p t q l lt le on =
    apart_by (holds q l) (l.head == t) (holds t l) (holds p l) (between p t q l lt le) (at_head t q l le) (not_yet p t l lt) (λ is. either m left next p t l (on is))

-- ---- all loops

all_apart : (ls : List Loop) (m : ℕ) (left next : Loop → ℕ) (p t q : ℕ) → p < t → t ≤ q → Ahead ls m left next p t → apart ls p q ≡ apart ls t q + length (filter (is_between t q) ls)
all_apart [] m left next p t q lt le on = refl
all_apart (l ∷ ls) m left next p t q lt le on =
    let here = one_apart m left next p t q l lt le (on l (first_in l ls)) in
    let rest = all_apart ls m left next p t q lt le (λ k there. on k (rest_in l k ls there)) in
    omega (arith, here, rest, filter_step (λ k. holds q k && not (holds p k)) l ls, filter_step (λ k. holds q k && not (holds t k)) l ls, filter_step (is_between t q) l ls)

before_head : (t q : ℕ) (l : Loop) → q < t → is_between t q l ≡ false
before_head t q l lt = by (l.head == t) refl
  where
    by : (b : Bool) → (l.head == t) ≡ b → (b && holds q l) ≡ false
    by false is = refl
    by true is = grind (arith, nat_tests)

pub once_some : (ls : List Loop) (m p q : ℕ) → 1 ≤ often ls m p q
once_some ls m p q = one-le-pow (apart ls p q) (m + 1) (omega arith)

module _ (ls : List Loop) (m : ℕ) (left next : Loop → ℕ) (p t : ℕ) (lt : p < t) (on : Ahead ls m left next p t) where
  later : ℕ → (Loop → ℕ) → ℕ → ℕ
  later q count at = sum_by (in_rounds (λ head. often ls m head q) count at q) ls

  entering : ℕ → ℕ
  entering q = sum_by (λ l. cond (is_between t q l) (m * often ls m t q) 0) ls

  later_le : (q : ℕ) → later q next t ≤ later q left p + entering q
  unfolding later entering
  later_le q =
      sum_le_more (in_rounds (λ head. often ls m head q) next t q) (in_rounds (λ head. often ls m head q) left p q) (λ l. cond (is_between t q l) (m * often ls m t q) 0) ls
      (λ l there. one_ahead (λ head. often ls m head q) m left next p t q l (on l there))

  none_entered : (q : ℕ) → q < t → entering q ≡ 0
  unfolding entering
  none_entered q early =
      sum_zero (λ l. cond (is_between t q l) (m * often ls m t q) 0) ls (λ l there. ap (λ b. cond b (m * often ls m t q) 0) (before_head t q l early))

  once_le : (q : ℕ) → t ≤ q → often ls m t q + entering q ≤ often ls m p q
  unfolding entering
  once_le q le =
      let more = raised (is_between t q) m (often ls m t q) ls in
      let is : often ls m p q ≡ (m + 1) ^ length (filter (is_between t q) ls) * often ls m t q =
      ap (λ n. (m + 1) ^ n) (all_apart ls m left next p t q lt le on)
      ∙ (pow-add (m + 1) (apart ls t q) (length (filter (is_between t q) ls)) ∙ mul_comm (often ls m t q) ((m + 1) ^ length (filter (is_between t q) ls))) in
      omega (arith, more, is)

  -- no place can come more often than before
  pub ahead_le : (q : ℕ) → comes ls m next t q ≤ comes ls m left p q
  unfolding comes later
  ahead_le q = by (nat_le t q) refl
    where
      by : (b : Bool) → nat_le t q ≡ b → comes ls m next t q ≤ comes ls m left p q
      by true is =
          let le : t ≤ q = grind (arith, nat_tests) in
          let low : nat_le p q ≡ true = grind (arith, nat_tests) in
          rw (is, low) (let a = later_le q in let b = once_le q le in omega (arith, a, b))
      by false is =
          let early : q < t = grind (arith, nat_tests) in
          rw is (let a = later_le q in let b = none_entered q early in omega (arith, a, b))

  -- the place that is left can come less often than before
  pub ahead_lt : comes ls m next t p < comes ls m left p p
  unfolding comes later
  ahead_lt =
      let early : nat_le t p ≡ false = grind (arith, nat_tests) in
      let here : nat_le p p ≡ true = grind (arith, nat_tests) in
      rw (early, here) (let a = later_le p in let b = none_entered p lt in let c = once_some ls m p p in omega (arith, a, b, c))
