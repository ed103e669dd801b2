-- Each step of an accepted code leaves fewer steps to be made.
use Rattle.std.proofs.Common.{◌≡◌, ◌⊎◌, inl, inr, ℕ, ◌+◌, ◌<◌, ◌≤◌, Bool, true, false, length, Some, Ok, refl, sym, subst, ◌∙◌, cond, arith}
use Rattle.std.specs.Prelude.{◌==◌, nat_le, slice_get}
use Rattle.std.proofs.lemmas.Bool.Decides.{nat_tests}
use Rattle.bb_code.specs.Code.{Code}
use Rattle.bb_code.specs.declared.frame.Loop.{Loop}
use Rattle.bb_code.specs.declared.op.Op.{Op}
use Rattle.bb_code.specs.declared.op.Op.TheVariants as ops
use Rattle.bb_verify.specs.nesting.Loops.{holds, begins, local_of, is_same_local, place_due}
use Rattle.bb_theorem_machine.specs.proving.StepsLeft.{In, comes, steps_left, Onward, Ahead, GoesBack}
use Rattle.bb_theorem_machine.proofs.rounds.SumLemmas.{sum_falls, sum_some}
use Rattle.bb_theorem_machine.proofs.rounds.AheadRounds.{once_some, ahead_le, ahead_lt}
use Rattle.bb_theorem_machine.proofs.rounds.BackRounds.{back_le, back_lt}
use Rattle.bb_theorem_machine.proofs.rounds.NestLemmas.{not_headed, next_locals, next_exits, back_own, back_both}

-- ---- one round

rounds_on : (it ip : Bool) (n k : ℕ) → it ≡ false → ip ≡ false → n ≤ k → cond it n (n + 1) ≤ cond ip k (k + 1)
rounds_on it true n k is same le = absurd cc
rounds_on true false n k is same le = absurd cc
rounds_on false false n k is same le = omega (arith, le)

rounds_off : (it ip : Bool) (n k : ℕ) → it ≡ false → ip ≡ true → n < k → cond it n (n + 1) ≤ cond ip k (k + 1)
rounds_off true ip n k is same lt = absurd cc
rounds_off false true n k is same lt = omega (arith, lt)
rounds_off false false n k is same lt = absurd cc

not_there : (p t : ℕ) (l : Loop) → p < t → holds p l ≡ true → (l.head == t) ≡ false
not_there p t l lt is = grind (arith, nat_tests)

pub on_enters : (p : ℕ) (l : Loop) → holds (p + 1) l ≡ true → (holds p l ≡ true) ⊎ (l.head ≡ p + 1)
on_enters p l is = by (nat_le l.head p) refl
  where
    by : (b : Bool) → nat_le l.head p ≡ b → (holds p l ≡ true) ⊎ (l.head ≡ p + 1)
    by true low = inl (let here : holds p l ≡ true = grind (arith, nat_tests) in here)
    by false high = inr (let head : l.head ≡ p + 1 = grind (arith, nat_tests) in head)

module _ (code : Code) (inside : (l : Loop) → In code.loops l → l.head < length code.ops) (due : (place : ℕ) (op : Op) → slice_get code.ops place ≡ Some op → place_due code place (Some op) ≡ Ok tt) (m : ℕ) (left next : Loop → ℕ) (p t : ℕ) where
  -- ---- the sum

  pub falls_ahead : p < length code.ops → p < t → Ahead code.loops m left next p t → steps_left code m next t < steps_left code m left p
  unfolding steps_left
  falls_ahead there lt on =
      sum_falls (comes code.loops m next t) (comes code.loops m left p) p 0 (length code.ops) (ahead_le code.loops m left next p t lt on) (ahead_lt code.loops m left next p t lt on)
      (omega arith) (omega (arith, there))

  falls_back : p < length code.ops → t < p → GoesBack code.loops left next p t → steps_left code m next t < steps_left code m left p
  unfolding steps_left
  falls_back there lt goes =
      sum_falls (comes code.loops m next t) (comes code.loops m left p) p 0 (length code.ops) (back_le code.loops m left next p t lt goes) (back_lt code.loops m left next p t lt goes)
      (omega arith) (omega (arith, there))

  -- ---- an op that is no Next and no Back

  other_head : (op : Op) → slice_get code.ops p ≡ Some op → ((l : Loop) → begins l (Some op) ≡ false) → (l : Loop) → In code.loops l → (l.head == p) ≡ false
  other_head op at none l there = by (l.head == p) refl
    where
      by : (b : Bool) → (l.head == p) ≡ b → b ≡ false
      by false is = refl
      by true is = absurd (not_headed code inside due p op at none l there (let head : l.head ≡ p = grind (arith, nat_tests) in head))

  pub plain_ahead : (op : Op) → slice_get code.ops p ≡ Some op → ((l : Loop) → begins l (Some op) ≡ false) → p < t
      → ((l : Loop) → In code.loops l → holds t l ≡ true → (holds p l ≡ true) ⊎ (l.head ≡ t))
      → ((l : Loop) → In code.loops l → holds p l ≡ true → next l ≤ left l) → ((l : Loop) → next l ≤ m) → Ahead code.loops m left next p t
  plain_ahead op at none lt enters fewer low l there is = by (enters l there is)
    where
      by : (holds p l ≡ true) ⊎ (l.head ≡ t) → Onward m left next p t l
      by (inl here) = inl (here, rounds_on (l.head == t) (l.head == p) (next l) (left l) (not_there p t l lt here) (other_head op at none l there) (fewer l there here))
      by (inr head) = inr (head, low l)

  -- ---- a Next

  module _ (local end : ℕ) (at : slice_get code.ops p ≡ Some (ops.Next local end)) (low : (l : Loop) → next l ≤ m) (lt : p < t)
      (others : (l : Loop) → In code.loops l → is_same_local (local_of code l) (Some local) ≡ false → next l ≤ left l) where
    around_on : (l : Loop) → In code.loops l → l.head < p → holds p l ≡ true → is_same_local (local_of code l) (Some local) ≡ false → Onward m left next p t l
    around_on l there before here other =
        inl (here, rounds_on (l.head == t) (l.head == p) (next l) (left l) (not_there p t l lt here) (let f : (l.head == p) ≡ false = grind (arith, nat_tests) in f) (others l there other))

    -- a unit was taken
    pub taken_ahead : t ≡ p + 1 → ((l : Loop) → In code.loops l → local_of code l ≡ Some local → next l < left l) → Ahead code.loops m left next p t
    taken_ahead on fewer l there is = by (on_enters p l (subst (λ k. holds k l ≡ true) on is))
      where
        own : holds p l ≡ true → ((l.head ≡ p) × (local_of code l ≡ Some local)) ⊎ ((l.head < p) × (is_same_local (local_of code l) (Some local) ≡ false)) → Onward m left next p t l
        own here (inl f) =
            let head = f.0 in
            inl (here, rounds_off (l.head == t) (l.head == p) (next l) (left l) (not_there p t l lt here) (let f : (l.head == p) ≡ true = grind (arith, nat_tests) in f) (fewer l there f.1))
        own here (inr f) = around_on l there f.0 here f.1

        by : (holds p l ≡ true) ⊎ (l.head ≡ p + 1) → Onward m left next p t l
        by (inl here) = own here (next_locals code inside due p local end at l there here)
        by (inr head) = inr (head ∙ sym on, low l)

    -- none was left
    pub ended_ahead : t ≡ end → Ahead code.loops m left next p t
    ended_ahead is l there held = by (next_exits code inside due p local end at l there (subst (λ k. p < k) is lt) (subst (λ k. holds k l ≡ true) is held))
      where
        own : l.head < p → holds p l ≡ true → ((l.head ≡ p) × (local_of code l ≡ Some local)) ⊎ ((l.head < p) × (is_same_local (local_of code l) (Some local) ≡ false)) → Onward m left next p t l
        own before here (inl f) = let head = f.0 in absurd (omega (arith, before, head))
        own before here (inr f) = around_on l there f.0 here f.1

        by : ((holds p l ≡ true) × (l.head < p)) ⊎ (l.head ≡ end) → Onward m left next p t l
        by (inl f) = own f.1 f.0 (next_locals code inside due p local end at l there f.0)
        by (inr head) = inr (head ∙ sym is, low l)

  -- ---- a Back

  pub goes_back : slice_get code.ops p ≡ Some (ops.Back t) → t < p → ((l : Loop) → In code.loops l → holds p l ≡ true → next l ≤ left l) → p < length code.ops → steps_left code m next t < steps_left code m left p
  goes_back at lt fewer there =
      let own = back_own code inside due p t at lt in
      let head = own.2 in
      let end = own.3 in
      falls_back there lt (record {
        loop = own.0;
        is_one = own.1;
        head = own.2;
        around = (let f : holds p own.0 ≡ true = grind (arith, nat_tests) in f);
        both = back_both code inside due p t at lt;
        same = fewer;
      })

-- ---- somewhere inside the code

-- a step can be made at least
pub step_left : (code : Code) (m : ℕ) (left : Loop → ℕ) (p : ℕ) → p < length code.ops → 1 ≤ steps_left code m left p
unfolding steps_left comes
step_left code m left p there = sum_some (comes code.loops m left p) p 0 (length code.ops) some (omega arith) (omega (arith, there))
  where
    some : 1 ≤ comes code.loops m left p p
    some =
        let here : nat_le p p ≡ true = grind (arith, nat_tests) in
        rw here (let c = once_some code.loops m p p in omega (arith, c))
