-- What is known of the loops of an accepted code at an op of it.
use Rattle.std.proofs.Common.{◌≡◌, ◌⊎◌, inl, inr, ℕ, zero, suc, ◌+◌, ◌<◌, ◌≤◌, Bool, true, false, List, [], ◌∷◌, length, Option, Some, Result, Ok, refl, sym, ap, subst, ◌∙◌, cond, arith}
use Rattle.std.specs.Prelude.{◌==◌, ◌&&◌, nat_le, nat_lt, slice_get}
use Rattle.std.specs.List.{list_any}
use Rattle.std.proofs.lemmas.Bool.Decides.{nat_tests}
use Rattle.bb_basis.proofs.AppendLemmas.{there_is}
use Rattle.bb_basis.proofs.BoolLemmas.{same_truth}
use Rattle.bb_basis.proofs.ResultLemmas.{bind_ok}
use Rattle.bb_code.specs.Code.{Code}
use Rattle.bb_code.specs.declared.frame.Loop.{Loop}
use Rattle.bb_code.specs.declared.op.Op.{Op}
use Rattle.bb_code.specs.declared.op.Op.TheVariants as ops
use Rattle.bb_code.specs.declared.flaw.Flaw.{Flaw}
use Rattle.bb_code.specs.Each.{each}
use Rattle.bb_verify.specs.nesting.Loops.{holds, check_order, begins, ends, op_before, local_of, local_in, is_same_local, is_around, nests, loop_due, head_due, is_head, is_end, enters_at_head, keeps_local, op_due, place_due}
use Rattle.bb_verify.proofs.Laws.{check_order_ok, never_ok, nests_ok, LoopDue, loop_due_ok, place_due_ok}
use Rattle.bb_theorem_machine.specs.proving.StepsLeft.{In}
use Rattle.bb_theorem_machine.proofs.rounds.SumLemmas.{any_in}

-- ---- tests that found no flaw

each_in : {A E : Type 0} (f : A → Result (Unit {0}) E) (xs : List A) (x : A) → In xs x → each f xs ≡ Ok tt → f x ≡ Ok tt
unfolding each
each_in f [] x there h = absurd cc
each_in f (y ∷ ys) x (zero, at) h =
    let same : y ≡ x = cc in
    let one = bind_ok (f y) _ tt h in
    ap f (sym same) ∙ one.1
each_in f (y ∷ ys) x (suc i, at) h =
    let one = bind_ok (f y) _ tt h in
    each_in f ys x (i, at) one.2

head_by : (b : Bool) (r : Result (Unit {0}) Flaw) → b ≡ true → (let x : Result (Unit {0}) Flaw = cond b r (Ok tt) in x) ≡ Ok tt → r ≡ Ok tt
head_by true r is h = h
head_by false r is h = absurd cc

-- loops with one head have one end
one_end : (o : Option Op) (l other : Loop) → begins l o ≡ true → begins other o ≡ true → l.end ≡ other.end
one_end (Some (ops.Next local t)) l other is too = grind (arith, nat_tests)
one_end _ l other is too = absurd cc

-- ---- each loop

module _ (code : Code) (inside : (l : Loop) → In code.loops l → l.head < length code.ops) (due : (place : ℕ) (op : Op) → slice_get code.ops place ≡ Some op → place_due code place (Some op) ≡ Ok tt) where
  loop_is_due : (l : Loop) → In code.loops l → LoopDue code l
  unfolding head_due
  loop_is_due l there =
      let op = there_is code.ops l.head (inside l there) in
      let here = each_in (head_due code l.head) code.loops l there (place_due_ok code l.head op.0 (due l.head op.0 op.1)).heads in
      let same : (l.head == l.head) ≡ true = grind (arith, nat_tests) in
      loop_due_ok code l (head_by (l.head == l.head) (loop_due code l) same here)

  -- a loop around another one ends no earlier, and has another local
  nests_so : (l outer : Loop) → In code.loops l → In code.loops outer → ((is_around outer l && nat_lt outer.end l.end) ≡ false) × ((is_around outer l && is_same_local (local_of code outer) (local_of code l)) ≡ false)
  nests_so l outer there other = nests_ok code l outer (each_in (nests code l) code.loops outer other (loop_is_due l there).nested)

  -- no loop has its head at an op that is no Next
  pub not_headed : (p : ℕ) (op : Op) → slice_get code.ops p ≡ Some op → ((l : Loop) → begins l (Some op) ≡ false) → (l : Loop) → In code.loops l → l.head ≡ p → ⊥
  not_headed p op at none l there head =
      let so = (loop_is_due l there).begun in
      let here : begins l (Some op) ≡ true = sym (ap (begins l) (ap (slice_get code.ops) head ∙ at)) ∙ so in
      let not = none l in
      absurd cc

  -- a jump goes to where no loop is that is not around it
  pub enters_so : (p t : ℕ) → each (enters_at_head p t) code.loops ≡ Ok tt → (l : Loop) → In code.loops l → holds t l ≡ true → holds p l ≡ true
  unfolding enters_at_head
  enters_so p t ok l there is =
      let here = each_in (enters_at_head p t) code.loops l there ok in
      check_order_ok (holds p l) (head_by (holds t l) (check_order (holds p l)) is here)

  -- a loop that holds a Store has another local
  pub stored_other : (p local : ℕ) → slice_get code.ops p ≡ Some (ops.Store local) → (l : Loop) → In code.loops l → holds p l ≡ true → is_same_local (local_of code l) (Some local) ≡ false
  unfolding op_due keeps_local
  stored_other p local at l there is =
      let ok = (place_due_ok code p (ops.Store local) (due p (ops.Store local) at)).lets in
      let here = never_ok (holds p l && is_same_local (local_of code l) (Some local)) (each_in (keeps_local code p local) code.loops l there ok) in
      sym (ap (λ b. b && is_same_local (local_of code l) (Some local)) is) ∙ here

  -- the op before the end of a loop goes back to its head
  ends_by : (l : Loop) (e : ℕ) (o : Option Op) → slice_get code.ops e ≡ o → ends l o ≡ true → slice_get code.ops e ≡ Some (ops.Back l.head)
  ends_by l e (Some (ops.Back t)) is so = let same : t ≡ l.head = grind (arith, nat_tests) in is ∙ ap (λ h. Some (ops.Back h)) same
  ends_by l e _ is so = absurd cc

  last_by : (l : Loop) (end : ℕ) → ends l (op_before code end) ≡ true → (e : ℕ) × (end ≡ suc e) × (slice_get code.ops e ≡ Some (ops.Back l.head))
  last_by l zero so = absurd cc
  last_by l (suc e) so = (e, refl, ends_by l e (slice_get code.ops e) refl so)

  pub last_op : (l : Loop) → In code.loops l → (e : ℕ) × (l.end ≡ suc e) × (slice_get code.ops e ≡ Some (ops.Back l.head))
  last_op l there = last_by l l.end (loop_is_due l there).ended

  -- ---- a Next

  module _ (p local t : ℕ) (at : slice_get code.ops p ≡ Some (ops.Next local t)) where
    -- a Next is at the head of a loop, and goes to the end of it
    pub next_own : (l : Loop) × In code.loops l × (l.head ≡ p) × (l.end ≡ t)
    unfolding op_due
    next_own =
        let ok = (place_due_ok code p (ops.Next local t) (due p (ops.Next local t) at)).lets in
        let found = any_in (is_head p) code.loops (check_order_ok (list_any (is_head p) code.loops) ok) in
        let head : found.0.head ≡ p = let is = found.2 in grind (arith, nat_tests) in
        let so : (t == found.0.end) ≡ true = sym (ap (begins found.0) (ap (slice_get code.ops) head ∙ at)) ∙ (loop_is_due found.0 found.1).begun in
        (found.0, found.1, head, (let end : found.0.end ≡ t = grind (arith, nat_tests) in end))

    -- another loop around it has another local
    around_other : (l : Loop) → In code.loops l → l.head < p → holds p l ≡ true → is_same_local (local_of code l) (Some local) ≡ false
    around_other l there lt is =
        let own = next_own in
        let head = own.2 in
        let around : is_around l own.0 ≡ true = grind (arith, nat_tests) in
        let mine : local_of code own.0 ≡ Some local = ap local_in (ap (slice_get code.ops) head ∙ at) in
        ap (is_same_local (local_of code l)) (sym mine) ∙ (sym (ap (λ b. b && is_same_local (local_of code l) (local_of code own.0)) around) ∙ (nests_so own.0 l own.1 there).1)

    -- a loop that holds it begins there, with its local, or is around it, with another one
    pub next_locals : (l : Loop) → In code.loops l → holds p l ≡ true → ((l.head ≡ p) × (local_of code l ≡ Some local)) ⊎ ((l.head < p) × (is_same_local (local_of code l) (Some local) ≡ false))
    next_locals l there is = by (l.head == p) refl
      where
        by : (b : Bool) → (l.head == p) ≡ b → ((l.head ≡ p) × (local_of code l ≡ Some local)) ⊎ ((l.head < p) × (is_same_local (local_of code l) (Some local) ≡ false))
        by true same = let head : l.head ≡ p = grind (arith, nat_tests) in inl (head, ap local_in (ap (slice_get code.ops) head ∙ at))
        by false other = let lt : l.head < p = grind (arith, nat_tests) in inr (lt, around_other l there lt is)

    ends_inside : (l : Loop) → In code.loops l → p < l.head → l.head < t → l.end ≤ t
    ends_inside l there low high =
        let own = next_own in
        let head = own.2 in
        let end = own.3 in
        let not = (nests_so l own.0 there own.1).0 in
        let around : is_around own.0 l ≡ true = grind (arith, nat_tests) in
        let one : nat_lt own.0.end l.end ≡ false = sym (ap (λ b. b && nat_lt own.0.end l.end) around) ∙ not in
        grind (arith, nat_tests)

    -- the loops at the place that it goes to are around it, or begin there
    pub next_exits : (l : Loop) → In code.loops l → p < t → holds t l ≡ true → ((holds p l ≡ true) × (l.head < p)) ⊎ (l.head ≡ t)
    next_exits l there lt is = by (l.head == t) refl (nat_le l.head p) refl
      where
        by : (b : Bool) → (l.head == t) ≡ b → (c : Bool) → nat_le l.head p ≡ c → ((holds p l ≡ true) × (l.head < p)) ⊎ (l.head ≡ t)
        by true same c low = inr (let head : l.head ≡ t = grind (arith, nat_tests) in head)
        by false other true low = inl (let here : holds p l ≡ true = grind (arith, nat_tests) in here, not_own (l.head == p) refl)
          where
            not_own : (b : Bool) → (l.head == p) ≡ b → l.head < p
            not_own true same =
                let head : l.head ≡ p = grind (arith, nat_tests) in
                let so : (t == l.end) ≡ true = sym (ap (begins l) (ap (slice_get code.ops) head ∙ at)) ∙ (loop_is_due l there).begun in
                absurd (let f : ⊥ = grind (arith, nat_tests) in f)
            not_own false different = grind (arith, nat_tests)
        by false other false low =
            let early : p < l.head = grind (arith, nat_tests) in
            let late : l.head < t = grind (arith, nat_tests) in
            let end = ends_inside l there early late in
            absurd (let f : ⊥ = grind (arith, nat_tests) in f)

  -- ---- a Back

  module _ (p t : ℕ) (at : slice_get code.ops p ≡ Some (ops.Back t)) (low : t < p) where
    back_head : (l : Loop) → In code.loops l → l.end ≡ p + 1 → l.head ≡ t
    back_head l there end =
        let next : l.end ≡ suc p = omega (arith, end) in
        let so : (t == l.head) ≡ true = sym (ap (ends l) (ap (op_before code) next ∙ at)) ∙ (loop_is_due l there).ended in
        grind (arith, nat_tests)

    -- a Back is before the end of a loop, and goes to the head of it
    pub back_own : (l : Loop) × In code.loops l × (l.head ≡ t) × (l.end ≡ p + 1)
    unfolding op_due
    back_own =
        let ok = (place_due_ok code p (ops.Back t) (due p (ops.Back t) at)).lets in
        let found = any_in (is_end (p + 1)) code.loops (check_order_ok (list_any (is_end (p + 1)) code.loops) ok) in
        let end : found.0.end ≡ p + 1 = let is = found.2 in grind (arith, nat_tests) in
        (found.0, found.1, back_head found.0 found.1 end, end)

    same_ends : (l : Loop) → In code.loops l → l.head ≡ t → l.end ≡ p + 1
    same_ends l there head =
        let own = back_own in
        let mine : begins l (slice_get code.ops t) ≡ true = subst (λ h. begins l (slice_get code.ops h) ≡ true) head (loop_is_due l there).begun in
        let other : begins own.0 (slice_get code.ops t) ≡ true = subst (λ h. begins own.0 (slice_get code.ops h) ≡ true) own.2 (loop_is_due own.0 own.1).begun in
        one_end (slice_get code.ops t) l own.0 mine other ∙ own.3

    onto : (l : Loop) → In code.loops l → holds t l ≡ true → holds p l ≡ true
    onto l there is = by (l.head == t) refl
      where
        by : (b : Bool) → (l.head == t) ≡ b → holds p l ≡ true
        by true same = let head : l.head ≡ t = grind (arith, nat_tests) in let end = same_ends l there head in grind (arith, nat_tests)
        by false other =
            let own = back_own in
            let head = own.2 in
            let end = own.3 in
            let not = (nests_so own.0 l own.1 there).0 in
            let around : is_around l own.0 ≡ true = grind (arith, nat_tests) in
            let one : nat_lt l.end own.0.end ≡ false = sym (ap (λ b. b && nat_lt l.end own.0.end) around) ∙ not in
            grind (arith, nat_tests)

    back_from : (l : Loop) → In code.loops l → holds p l ≡ true → holds t l ≡ true
    back_from l there is = by (nat_le l.head t) refl
      where
        by : (b : Bool) → nat_le l.head t ≡ b → holds t l ≡ true
        by true le = grind (arith, nat_tests)
        by false gt =
            let own = back_own in
            let head = own.2 in
            let end = own.3 in
            let not = (nests_so l own.0 there own.1).0 in
            let around : is_around own.0 l ≡ true = grind (arith, nat_tests) in
            let one : nat_lt own.0.end l.end ≡ false = sym (ap (λ b. b && nat_lt own.0.end l.end) around) ∙ not in
            let last : l.end ≡ p + 1 = grind (arith, nat_tests) in
            let mine = back_head l there last in
            absurd (let f : ⊥ = grind (arith, nat_tests) in f)

    -- a loop is around both places or around neither
    pub back_both : (l : Loop) → In code.loops l → holds t l ≡ holds p l
    back_both l there = same_truth (holds t l) (holds p l) (onto l there) (back_from l there)
