-- Cycles that are made in two stretches are those that are made in one.
use Rattle.std.proofs.Common.{◌≡◌, ◌⊎◌, inl, inr, ℕ, zero, suc, ◌+◌, List, [], length, Option, Some, None, refl, sym, ap, subst, ◌∙◌, append_assoc, length-append, arith}
use Rattle.std.specs.Prelude.{⊤}
use Rattle.bb_agenda.specs.declared.focusing.activation.Activation.{Activation}
use Rattle.bb_trace.specs.Board.{Board as Blackboard}
use Rattle.bb_trace.specs.End.{End}
use Rattle.bb_trace.specs.End as finishes
use Rattle.bb_trace.specs.Native.{Native}
use Rattle.bb_trace.specs.declared.note.Note.{Note}
use Rattle.bb_run_plan.specs.Plan.{Plan}
use Rattle.bb_run.specs.State.{State}
use Rattle.bb_run.specs.Emission.{Stretch, emitting, over, after_emitted, and_then, and_then_unless}
use Rattle.bb_run.specs.Run.{choice, wait, wait_for, cycle, if_chosen, cycles, first_state, noted, start}
use Rattle.bb_run.specs.Order.{all_of, chosen_in, notes_of}
use Rattle.bb_run.specs.Turns.{choices_of}
use Rattle.bb_run.proofs.stretches.CountLemmas.{cycle_chooses, wait_silent}
use Rattle.bb_run.proofs.stretches.EarlyLemmas.{cycle_early, reports_early, wait_early}
use Rattle.bb_run.proofs.notes.OrderlyParts.{IsEarly, all_of_two}
use Rattle.bb_run.proofs.notes.PendingLemmas.{chosen_then}

-- the run is over, and not by its limit
abbrev pub IsOver : Option End → Type 0
IsOver None = ⊥
IsOver (Some finishes.Limit) = ⊥
IsOver (Some finishes.Quiescence) = ⊤
IsOver (Some finishes.Full) = ⊤
IsOver (Some (finishes.Due a)) = ⊤
IsOver (Some (finishes.Stuck reason)) = ⊤

early_over : (end : End) → IsEarly (Some end) → IsOver (Some end)
early_over finishes.Quiescence early = absurd early
early_over finishes.Limit early = absurd early
early_over finishes.Full early = tt
early_over (finishes.Due a) early = tt
early_over (finishes.Stuck reason) early = tt

-- the choices of two stretches
pub choices_after : (emitted : List (List Note)) (p : Stretch) → choices_of (after_emitted emitted p) ≡ length (chosen_in (all_of emitted)) + choices_of p
choices_after emitted p =
    ap (λ l. length (chosen_in l)) (all_of_two emitted p.emitted)
    ∙ (ap length (chosen_then (all_of emitted) (notes_of p)) ∙ length-append (chosen_in (all_of emitted)) (chosen_in (notes_of p)))

module _ (plan : Plan) where
  -- the first stretch made `count` cycles up to its limit, and the second goes on from it; or both are over
  abbrev pub Meets : (count : ℕ) → (later : State → Stretch) → (p q : Stretch) → Type 0
  Meets count later p q =
      ((p.end ≡ Some finishes.Limit) × ((choices_of p ≡ count) × (((a : Activation) × (choice plan p.state ≡ Some a)) × (q ≡ after_emitted p.emitted (later p.state)))))
      ⊎ (IsOver p.end × (q ≡ p))

  meets_after : (emitted : List (List Note)) (before count : ℕ) (later : State → Stretch) (p q : Stretch) → length (chosen_in (all_of emitted)) ≡ before → Meets count later p q
      → Meets (before + count) later (after_emitted emitted p) (after_emitted emitted q)
  meets_after emitted before count later p q chosen (inl m) =
      let r = later p.state in
      let counted : choices_of (after_emitted emitted p) ≡ before + count = choices_after emitted p ∙ (ap (λ n. n + choices_of p) chosen ∙ ap (λ n. before + n) m.1.0) in
      inl (m.0, (counted, (m.1.1.0, ap (after_emitted emitted) m.1.1.1 ∙ ap (λ l. emitting l r.state r.end) (sym (append_assoc emitted p.emitted r.emitted)))))
  meets_after emitted before count later p q chosen (inr m) = inr (m.0, ap (after_emitted emitted) m.1)

  meets_then : (before count : ℕ) (later : State → Stretch) (end : Option End) (p : Stretch) (next other : State → Stretch) → p.end ≡ end → IsEarly p.end → length (chosen_in (notes_of p)) ≡ before
      → ((s : State) → Meets count later (next s) (other s)) → Meets (before + count) later (and_then_unless end p next) (and_then_unless end p other)
  meets_then before count later (Some e) p next other is early chosen rest = inr (subst IsOver (sym is) (early_over e (subst IsEarly is early)), refl)
  meets_then before count later None p next other is early chosen rest = meets_after p.emitted before count later (next p.state) (other p.state) chosen (rest p.state)

  -- by what can be chosen
  meets_if : (count : ℕ) (later : State → Stretch) (t : State) (c : Option Activation) (next other : Activation → Stretch) → ((a : Activation) → c ≡ Some a → Meets count later (next a) (other a))
      → Meets count later (if_chosen t c next) (if_chosen t c other)
  meets_if count later t None next other meets = inr (tt, refl)
  meets_if count later t (Some a) next other meets = meets a refl

  -- what a chosen activation leads to, where so many cycles are left
  abbrev then_left : (made left : ℕ) → State → Activation → Stretch
  then_left made zero t a = over finishes.Limit t
  then_left made (suc left) t a = and_then (cycle plan (made + 1) a t) (cycles plan (made + 1) left)

  abbrev by_choice : (State → Activation → Stretch) → State → Stretch
  by_choice next t = if_chosen t (choice plan t) (next t)

  cycles_are : (made left : ℕ) (s : State) → cycles plan made left s ≡ and_then (wait plan s) (by_choice (then_left made left))
  unfolding cycles
  cycles_are made zero s = refl
  cycles_are made (suc left) s = refl

  -- where an activation can be chosen nothing waits
  abbrev waiting_on : (made left : ℕ) (t : State) → Option Activation → Stretch
  waiting_on made left t c = let p = wait_for plan t c in and_then p (by_choice (then_left made left))

  pub cycles_again : (made left : ℕ) (t : State) (a : Activation) → choice plan t ≡ Some a → cycles plan made left t ≡ then_left made left t a
  cycles_again made left t a chosen =
      cycles_are made left t ∙ (ap (waiting_on made left t) chosen ∙ ap (λ c. if_chosen t c (then_left made left t)) chosen)

  meets_at : (made more number : ℕ) (t : State) (a : Activation) → number ≡ made + 0 → choice plan t ≡ Some a → Meets 0 (cycles plan number more) (over finishes.Limit t) (then_left made more t a)
  meets_at made more number t a is chosen =
      let same : number ≡ made = omega (arith, is) in
      inl (refl, (refl, ((a, chosen), sym (cycles_again made more t a chosen) ∙ ap (λ k. cycles plan k more t) (sym same))))

  pub cycles_meet : (made left more number : ℕ) (s : State) → number ≡ made + left → Meets left (cycles plan number more) (cycles plan made left s) (cycles plan made (left + more) s)
  cycles_meet made zero more number s is =
      let p = wait plan s in
      let later = cycles plan number more in
      let silent : length (chosen_in (notes_of p)) ≡ 0 = ap length (wait_silent plan s) in
      let count : more ≡ 0 + more = omega arith in
      let whole = meets_then 0 0 later p.end p (by_choice (then_left made 0)) (by_choice (then_left made more)) refl (wait_early plan s) silent
      (λ t. meets_if 0 later t (choice plan t) (then_left made 0 t) (then_left made more t) (λ a chosen. meets_at made more number t a is chosen)) in
      subst (λ n. Meets 0 later (cycles plan made 0 s) (cycles plan made n s)) count
      (subst (λ x. Meets 0 later x (cycles plan made more s)) (sym (cycles_are made 0 s)) (subst (λ x. Meets 0 later (and_then p (by_choice (then_left made 0))) x) (sym (cycles_are made more s)) whole))
  cycles_meet made (suc left) more number s is =
      let p = wait plan s in
      let later = cycles plan number more in
      let silent : length (chosen_in (notes_of p)) ≡ 0 = ap length (wait_silent plan s) in
      let count : suc (left + more) ≡ suc left + more = omega arith in
      let further : number ≡ (made + 1) + left = omega (arith, is) in
      let one : 1 + left ≡ suc left = omega arith in
      let none : 0 + suc left ≡ suc left = omega arith in
      let made_one : (t : State) (a : Activation) → Meets (suc left) later (then_left made (suc left) t a) (then_left made (suc (left + more)) t a) = λ t a.
      let c = cycle plan (made + 1) a t in
      let chosen : length (chosen_in (notes_of c)) ≡ 1 = ap length (cycle_chooses plan (made + 1) a t) in
      subst (λ n. Meets n later (then_left made (suc left) t a) (then_left made (suc (left + more)) t a)) one
      (meets_then 1 left later c.end c (cycles plan (made + 1) left) (cycles plan (made + 1) (left + more)) refl (cycle_early plan (made + 1) a t) chosen (λ u. cycles_meet (made + 1) left more number u further)) in
      let whole = meets_then 0 (suc left) later p.end p (by_choice (then_left made (suc left))) (by_choice (then_left made (suc (left + more)))) refl (wait_early plan s) silent
      (λ t. meets_if (suc left) later t (choice plan t) (then_left made (suc left) t) (then_left made (suc (left + more)) t) (λ a chosen. made_one t a)) in
      subst (λ n. Meets n later (cycles plan made (suc left) s) (cycles plan made (suc left + more) s)) none
      (subst (λ n. Meets (0 + suc left) later (cycles plan made (suc left) s) (cycles plan made n s)) count
      (subst (λ x. Meets (0 + suc left) later x (cycles plan made (suc (left + more)) s)) (sym (cycles_are made (suc left) s))
      (subst (λ x. Meets (0 + suc left) later (and_then p (by_choice (then_left made (suc left)))) x) (sym (cycles_are made (suc (left + more)) s)) whole)))

  -- the start of a run does not come to its limit, or to quiescence
  pub start_early : (board : Blackboard) (natives : List Native) → IsEarly (start plan board natives).end
  start_early board natives = reports_early plan (noted (first_state plan board natives) [] None) tt
