-- After each op of an accepted code fewer steps can be made.
use Rattle.std.proofs.Common.{◌≡◌, ◌⊎◌, inl, inr, ℕ, ◌+◌, ◌<◌, ◌≤◌, true, false, length, Some, Ok, refl, sym, ap, subst, ◌∙◌, arith}
use Rattle.std.specs.Prelude.{slice_get}
use Rattle.std.proofs.lemmas.Option.{slice_get_within}
use Rattle.bb_board.specs.Board.{Board}
use Rattle.bb_code.specs.Code.{Code}
use Rattle.bb_code.specs.declared.frame.Loop.{Loop}
use Rattle.bb_code.specs.declared.op.Op.{Op}
use Rattle.bb_code.specs.declared.op.Op.TheVariants as ops
use Rattle.bb_code.specs.Each.{each}
use Rattle.bb_verify.specs.nesting.Jumps.{target_of, ahead, check_target}
use Rattle.bb_verify.specs.nesting.Loops.{holds, begins, enters_at_head, op_due, place_due}
use Rattle.bb_verify.proofs.Laws.{before_ok, ahead_ok, place_due_ok}
use Rattle.bb_machine.specs.Machine.{Machine, go_to}
use Rattle.bb_theorem_machine.specs.proving.Sequences.{AreLow, left_of, Keeps, Takes, Moved}
use Rattle.bb_theorem_machine.specs.proving.StepsLeft.{In, steps_left}
use Rattle.bb_theorem_machine.proofs.rounds.FallLemmas.{on_enters, falls_ahead, plain_ahead, taken_ahead, ended_ahead, goes_back}
use Rattle.bb_theorem_machine.proofs.rounds.LeftLemmas.{left_few, left_kept, left_stored, left_around, left_taken}
use Rattle.bb_theorem_machine.proofs.rounds.NestLemmas.{enters_so, stored_other, last_op, next_own}

-- ---- where an op goes

module _ (code : Code) (inside : (l : Loop) → In code.loops l → l.head < length code.ops) (due : (place : ℕ) (op : Op) → slice_get code.ops place ≡ Some op → place_due code place (Some op) ≡ Ok tt)
    (jumps : (place : ℕ) (op : Op) → slice_get code.ops place ≡ Some op → check_target (length code.ops) place op ≡ Ok tt) where
  back_lower : (p t : ℕ) → slice_get code.ops p ≡ Some (ops.Back t) → t < p
  unfolding check_target
  back_lower p t at = before_ok t p (jumps p (ops.Back t) at)

  next_higher : (p local t : ℕ) → slice_get code.ops p ≡ Some (ops.Next local t) → p < t
  next_higher p local t at =
      let own = next_own code inside due p local t at in
      let last = last_op code inside due own.0 own.1 in
      let low = back_lower last.0 own.0.head last.2 in
      let head = own.2 in
      let end = own.3 in
      let is = last.1 in
      omega (arith, low, head, end, is)

  -- a jump goes ahead, to where no loop is that is not around it
  Enters : (p t : ℕ) → Type 0
  Enters p t = (p < t) × ((l : Loop) → In code.loops l → holds t l ≡ true → holds p l ≡ true)

  goes_to : (p place t : ℕ) → ahead (length code.ops) p place ≡ Ok tt → each (enters_at_head p place) code.loops ≡ Ok tt → Some place ≡ Some t → Enters p t
  unfolding Enters
  goes_to p place t goes enters to =
      let same : place ≡ t = cc in
      subst (λ k. (p < k) × ((l : Loop) → In code.loops l → holds k l ≡ true → holds p l ≡ true)) same ((ahead_ok (length code.ops) p place goes).0, enters_so code inside due p place enters)

  -- ---- one step

  module _ (m next : Machine) (k : ℕ) (few : next.found ≤ k) (low : AreLow next) where
    abbrev Falls : Type 0
    Falls = steps_left code k (left_of code next) next.place < steps_left code k (left_of code m) m.place

    left_low : (l : Loop) → left_of code next l ≤ k
    left_low l = let le = left_few code l next low in omega (arith, le, few)

    plain_falls : (op : Op) → slice_get code.ops m.place ≡ Some op → ((l : Loop) → begins l (Some op) ≡ false) → ((t : ℕ) → target_of op ≡ Some t → Enters m.place t)
        → ((l : Loop) → In code.loops l → holds m.place l ≡ true → left_of code next l ≤ left_of code m l) → (next.place ≡ m.place + 1) ⊎ (target_of op ≡ Some next.place) → Falls
    unfolding Enters
    plain_falls op at none goes fewer (inl on) =
        let lt : m.place < next.place = omega (arith, on) in
        falls_ahead code inside due k (left_of code m) (left_of code next) m.place next.place (slice_get_within code.ops m.place op at) lt
        (plain_ahead code inside due k (left_of code m) (left_of code next) m.place next.place op at none lt
        (λ l there is. subst (λ t. (holds m.place l ≡ true) ⊎ (l.head ≡ t)) (sym on) (on_enters m.place l (subst (λ t. holds t l ≡ true) on is))) fewer left_low)
    plain_falls op at none goes fewer (inr to) =
        let enters = goes next.place to in
        falls_ahead code inside due k (left_of code m) (left_of code next) m.place next.place (slice_get_within code.ops m.place op at) enters.0
        (plain_ahead code inside due k (left_of code m) (left_of code next) m.place next.place op at none enters.0 (λ l there is. inl (enters.1 l there is)) fewer left_low)

    kept_fewer : Keeps (go_to (m.place + 1) m) next → (l : Loop) → left_of code next l ≤ left_of code m l
    kept_fewer kept l = left_kept code l (go_to (m.place + 1) m) next kept

    back_falls : (t : ℕ) → slice_get code.ops m.place ≡ Some (ops.Back t) → next.place ≡ t → Keeps (go_to (m.place + 1) m) next → Falls
    back_falls t at is kept =
        let at_next : slice_get code.ops m.place ≡ Some (ops.Back next.place) = at ∙ ap (λ h. Some (ops.Back h)) (sym is) in
        goes_back code inside due k (left_of code m) (left_of code next) m.place next.place at_next (back_lower m.place next.place at_next) (λ l there here. kept_fewer kept l) (slice_get_within code.ops m.place (ops.Back t) at)

    next_falls : (local t : ℕ) → slice_get code.ops m.place ≡ Some (ops.Next local t) → Takes local t (go_to (m.place + 1) m) next → Falls
    next_falls local t at takes = by takes.goes
      where
        lt_on : next.place ≡ m.place + 1 → m.place < next.place
        lt_on on = omega (arith, on)

        lt_off : next.place ≡ t → m.place < next.place
        lt_off is = let high = next_higher m.place local t at in omega (arith, is, high)

        by : ((next.place ≡ m.place + 1) × (length takes.later.rest < length takes.before.rest)) ⊎ (next.place ≡ t) → Falls
        by (inl on) =
            falls_ahead code inside due k (left_of code m) (left_of code next) m.place next.place (slice_get_within code.ops m.place (ops.Next local t) at) (lt_on on.0)
            (taken_ahead code inside due k (left_of code m) (left_of code next) m.place next.place local t at left_low (lt_on on.0)
            (λ l there other. left_around code l local t (go_to (m.place + 1) m) next takes other) on.0 (λ l there own. left_taken code l local t (go_to (m.place + 1) m) next takes own on.1))
        by (inr is) =
            falls_ahead code inside due k (left_of code m) (left_of code next) m.place next.place (slice_get_within code.ops m.place (ops.Next local t) at) (lt_off is)
            (ended_ahead code inside due k (left_of code m) (left_of code next) m.place next.place local t at left_low (lt_off is)
            (λ l there other. left_around code l local t (go_to (m.place + 1) m) next takes other) is)

    jump_goes : (op : Op) (place t : ℕ) → slice_get code.ops m.place ≡ Some op → check_target (length code.ops) m.place op ≡ ahead (length code.ops) m.place place
        → op_due code m.place op ≡ each (enters_at_head m.place place) code.loops → Some place ≡ Some t → Enters m.place t
    jump_goes op place t at goes enters to =
        goes_to m.place place t (sym goes ∙ jumps m.place op at) (sym enters ∙ (place_due_ok code m.place op (due m.place op at)).lets) to

    pub step_falls : (op : Op) (b : Board) → slice_get code.ops m.place ≡ Some op → Moved op (go_to (m.place + 1) m) (next, b) → (next.place ≡ m.place + 1) ⊎ (target_of op ≡ Some next.place) → Falls
    unfolding check_target op_due
    step_falls (ops.Store local) b at moved edge =
        plain_falls (ops.Store local) at (λ l. refl) (λ t to. absurd cc)
        (λ l there here. left_stored code l local (go_to (m.place + 1) m) next moved (stored_other code inside due m.place local at l there here)) edge
    step_falls (ops.Next local t) b at moved edge = next_falls local t at moved
    step_falls (ops.Back t) b at moved edge = back_falls t at moved.1 moved.0
    step_falls (ops.One slot place) b at moved edge = plain_falls (ops.One slot place) at (λ l. refl) (λ t to. jump_goes (ops.One slot place) place t at refl refl to) (λ l there here. kept_fewer moved l) edge
    step_falls (ops.Alive place) b at moved edge = plain_falls (ops.Alive place) at (λ l. refl) (λ t to. jump_goes (ops.Alive place) place t at refl refl to) (λ l there here. kept_fewer moved l) edge
    step_falls (ops.As class place) b at moved edge = plain_falls (ops.As class place) at (λ l. refl) (λ t to. jump_goes (ops.As class place) place t at refl refl to) (λ l there here. kept_fewer moved l) edge
    step_falls (ops.Jump place) b at moved edge = plain_falls (ops.Jump place) at (λ l. refl) (λ t to. jump_goes (ops.Jump place) place t at refl refl to) (λ l there here. kept_fewer moved l) edge
    step_falls (ops.Unless place) b at moved edge = plain_falls (ops.Unless place) at (λ l. refl) (λ t to. jump_goes (ops.Unless place) place t at refl refl to) (λ l there here. kept_fewer moved l) edge
    step_falls op b at moved edge = plain_falls op at (λ l. refl) (λ t to. absurd cc) (λ l there here. kept_fewer moved l) edge
