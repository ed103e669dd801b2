-- Where an execution goes back to the head of a loop, a round of it is used up.
use Rattle.std.proofs.Common.{◌≡◌, ℕ, ◌+◌, ◌*◌, ◌^◌, ◌<◌, ◌≤◌, Bool, true, false, List, [], ◌∷◌, refl, sym, ap, subst, ◌∙◌, cond, arith}
use Rattle.std.specs.Prelude.{not, ◌==◌, ◌&&◌, nat_le}
use Rattle.std.specs.List.{sum_by}
use Rattle.std.proofs.Math.Nat.{add-mul, mul-le-mul_right}
use Rattle.std.proofs.lemmas.Bool.Decides.{nat_tests}
use Rattle.bb_code.specs.declared.frame.Loop.{Loop}
use Rattle.bb_verify.specs.nesting.Loops.{holds}
use Rattle.bb_theorem_machine.specs.proving.StepsLeft.{In, apart, often, rounds, in_rounds, comes, is_between, GoesBack}
use Rattle.bb_theorem_machine.proofs.rounds.SumLemmas.{first_in, rest_in, sum_le, more_sum_le, sum_has, filter_step}
use Rattle.bb_theorem_machine.proofs.rounds.AheadRounds.{once_some}

-- ---- one loop

rounds_by : (ht hq it : Bool) (again before w wt : ℕ) → (it ≡ true → hq ≡ true → ht ≡ true) → (ht ≡ true → cond it (again * w + wt) (again * w) ≤ before * w)
    → cond (ht && hq) (again * w) 0 + cond (it && hq) wt 0 ≤ cond (ht && hq) (before * w) 0
rounds_by false false false again before w wt there less = omega arith
rounds_by false false true again before w wt there less = omega arith
rounds_by true false false again before w wt there less = omega arith
rounds_by true false true again before w wt there less = omega arith
rounds_by false true false again before w wt there less = omega arith
rounds_by false true true again before w wt there less = let f = there refl refl in absurd cc
rounds_by true true it again before w wt there less = by it (less refl)
  where
    by : (it : Bool) → cond it (again * w + wt) (again * w) ≤ before * w → again * w + cond (it && true) wt 0 ≤ before * w
    by true le = omega (arith, le)
    by false le = omega (arith, le)

less_by : (it ip : Bool) (n k w wt : ℕ) → n ≤ k → (it ≡ true → w ≡ wt) → ip ≡ false → cond it (cond it n (n + 1) * w + wt) (cond it n (n + 1) * w) ≤ cond ip k (k + 1) * w
less_by it true n k w wt le same is = absurd cc
less_by true false n k w wt le same is =
    let times = mul-le-mul_right w le in
    omega (arith, times, add-mul k 1 w, same refl)
less_by false false n k w wt le same is =
    let more : n + 1 ≤ k + 1 = omega (arith, le) in
    mul-le-mul_right w more

module _ (w : ℕ → ℕ) (left next : Loop → ℕ) (p t q : ℕ) (l : Loop) (lt : t < p) (le : t ≤ q) where
  not_head : holds t l ≡ true → (l.head == p) ≡ false
  not_head is = grind (arith, nat_tests)

  less : holds t l ≡ true → next l ≤ left l → cond (l.head == t) (rounds next t l * w l.head + w t) (rounds next t l * w l.head) ≤ rounds left p l * w l.head
  less is fewer = less_by (l.head == t) (l.head == p) (next l) (left l) (w l.head) (w t) fewer (λ at. ap w (let same : l.head ≡ t = grind (arith, nat_tests) in same)) (not_head is)

  at_head : (l.head == t) ≡ true → holds q l ≡ true → holds t l ≡ true
  at_head is there = grind (arith, nat_tests)

  one_back : holds t l ≡ holds p l → (holds p l ≡ true → next l ≤ left l) → in_rounds w next t q l + cond (is_between t q l) (w t) 0 ≤ in_rounds w left p q l
  one_back both fewer =
      subst (λ b. in_rounds w next t q l + cond (is_between t q l) (w t) 0 ≤ cond (b && holds q l) (rounds left p l * w l.head) 0) both
      (rounds_by (holds t l) (holds q l) (l.head == t) (rounds next t l) (rounds left p l) (w l.head) (w t) at_head (λ is. less is (fewer (sym both ∙ is))))

-- a place before the head comes as often as before
early_by : (ht hq : Bool) (again before w : ℕ) → (ht ≡ true → again * w ≤ before * w) → cond (ht && hq) (again * w) 0 ≤ cond (ht && hq) (before * w) 0
early_by false hq again before w le = omega arith
early_by true false again before w le = omega arith
early_by true true again before w le = le refl

rounds_le : (it ip : Bool) (n k w : ℕ) → n ≤ k → ip ≡ false → cond it n (n + 1) * w ≤ cond ip k (k + 1) * w
rounds_le it true n k w le is = absurd cc
rounds_le true false n k w le is = let more : n ≤ k + 1 = omega (arith, le) in mul-le-mul_right w more
rounds_le false false n k w le is = let more : n + 1 ≤ k + 1 = omega (arith, le) in mul-le-mul_right w more

early_back : (w : ℕ → ℕ) (left next : Loop → ℕ) (p t q : ℕ) (l : Loop) → t < p → holds t l ≡ holds p l → (holds p l ≡ true → next l ≤ left l) → in_rounds w next t q l ≤ in_rounds w left p q l
early_back w left next p t q l lt both fewer =
    subst (λ b. in_rounds w next t q l ≤ cond (b && holds q l) (rounds left p l * w l.head) 0) both
    (early_by (holds t l) (holds q l) (rounds next t l) (rounds left p l) (w l.head)
    (λ is. rounds_le (l.head == t) (l.head == p) (next l) (left l) (w l.head) (fewer (sym both ∙ is)) (let f : (l.head == p) ≡ false = grind (arith, nat_tests) in f)))

-- ---- all loops

same_apart : (ls : List Loop) (p t q : ℕ) → ((l : Loop) → In ls l → holds t l ≡ holds p l) → apart ls t q ≡ apart ls p q
same_apart [] p t q both = refl
same_apart (l ∷ ls) p t q both =
    let one : Bool → ℕ = λ b. cond (holds q l && not b) 1 0 in
    let here : one (holds t l) ≡ one (holds p l) = ap one (both l (first_in l ls)) in
    let rest = same_apart ls p t q (λ k there. both k (rest_in l k ls there)) in
    omega (arith, here, rest, filter_step (λ k. holds q k && not (holds p k)) l ls, filter_step (λ k. holds q k && not (holds t k)) l ls)

module _ (ls : List Loop) (m : ℕ) (left next : Loop → ℕ) (p t : ℕ) (lt : t < p) (goes : GoesBack ls left next p t) where
  later : ℕ → (Loop → ℕ) → ℕ → ℕ
  later q count at = sum_by (in_rounds (λ head. often ls m head q) count at q) ls

  later_le : (q : ℕ) → later q next t ≤ later q left p
  unfolding later
  later_le q =
      sum_le (in_rounds (λ head. often ls m head q) next t q) (in_rounds (λ head. often ls m head q) left p q) ls
      (λ l there. early_back (λ head. often ls m head q) left next p t q l lt (goes.both l there) (goes.same l there))

  later_lt : (q : ℕ) → t ≤ q → q ≤ p → often ls m t q + later q next t ≤ later q left p
  unfolding later
  later_lt q low high =
      let around = goes.around in
      let head = goes.head in
      let holding : is_between t q goes.loop ≡ true = grind (arith, nat_tests) in
      let has = sum_has (is_between t q) (often ls m t q) ls goes.loop goes.is_one holding in
      let more = more_sum_le (in_rounds (λ head. often ls m head q) next t q) (in_rounds (λ head. often ls m head q) left p q) (λ l. cond (is_between t q l) (often ls m t q) 0) ls
      (λ l there. one_back (λ head. often ls m head q) left next p t q l lt low (goes.both l there) (goes.same l there)) in
      omega (arith, has, more)

  same_once : (q : ℕ) → often ls m t q ≡ often ls m p q
  same_once q = ap (λ n. (m + 1) ^ n) (same_apart ls p t q goes.both)

  -- no place can come more often than before
  pub back_le : (q : ℕ) → comes ls m next t q ≤ comes ls m left p q
  unfolding comes later
  back_le q = by (nat_le t q) refl (nat_le p q) refl
    where
      by : (b : Bool) → nat_le t q ≡ b → (c : Bool) → nat_le p q ≡ c → comes ls m next t q ≤ comes ls m left p q
      by true is true is_too = rw (is, is_too) (let a = later_le q in let e = same_once q in omega (arith, a, e))
      by true is false is_too = rw (is, is_too) (let low : t ≤ q = grind (arith, nat_tests) in let high : q ≤ p = grind (arith, nat_tests) in let a = later_lt q low high in omega (arith, a))
      by false is true is_too = let low : q < t = grind (arith, nat_tests) in let high : p ≤ q = grind (arith, nat_tests) in absurd (omega (arith, low, high, lt))
      by false is false is_too = rw (is, is_too) (let a = later_le q in omega (arith, a))

  -- the place that is left can come less often than before
  pub back_lt : comes ls m next t p < comes ls m left p p
  unfolding comes later
  back_lt =
      let low : nat_le t p ≡ true = grind (arith, nat_tests) in
      let here : nat_le p p ≡ true = grind (arith, nat_tests) in
      rw (low, here) (let a = later_lt p (omega (arith, lt)) (omega arith) in let c = once_some ls m p p in omega (arith, a, c))
