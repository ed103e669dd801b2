-- How many choices the cycles emit that are left of a run.
use Rattle.std.proofs.Common.{◌≡◌, ◌<◌, ◌≤◌, inl, inr, ℕ, ◌+◌, ◌-◌, length, Option, Some, None, sym, ap, ◌∙◌, arith, length-append}
use Rattle.bb_agenda.specs.declared.focusing.activation.Activation.{Activation}
use Rattle.bb_trace.specs.End.{End}
use Rattle.bb_trace.specs.End as finishes
use Rattle.bb_run_plan.specs.Plan.{Plan}
use Rattle.bb_run.specs.declared.cycles.Decision.{Decision}
use Rattle.bb_run.specs.declared.cycles.Decision.TheVariants.{Act, Over}
use Rattle.bb_run.specs.Order.{chosen_in, notes_of}
use Rattle.bb_run.specs.Run.{choice, cycle, cycles, if_chosen, wait}
use Rattle.bb_run.specs.State.{State}
use Rattle.bb_run.specs.Emission.{Stretch, and_then, over}
use Rattle.bb_run.specs.Turns.{choices_of}
use Rattle.bb_run.specs.Emitting.{Leaves, Place, Waited}
use Rattle.bb_run.proofs.stretches.CountLemmas.{cycle_chooses, wait_silent}
use Rattle.bb_run.proofs.notes.OrderlyParts.{all_of_two}
use Rattle.bb_run.proofs.notes.PendingLemmas.{chosen_then}
use Rattle.bb_run.proofs.emitting.EmitLemmas.{act_by, cycle_then, and_then_left, no_cycle, one_cycle, over_by, stops}

-- a stretch that goes on emits the choices of both parts
goes_counts : (p : Stretch) (next : State → Stretch) (t : State) → Leaves p t None → choices_of (and_then p next) ≡ choices_of p + choices_of (next t)
goes_counts p next t left =
    let q = next t in
    ap choices_of (and_then_left p next t left) ∙ (ap (λ l. length (chosen_in l)) (all_of_two p.emitted q.emitted)
    ∙ (ap length (chosen_then (notes_of p) (notes_of q)) ∙ length-append (chosen_in (notes_of p)) (chosen_in (notes_of q))))

stop_counts : (p : Stretch) (next : State → Stretch) (t : State) (end : End) → Leaves p t (Some end) → choices_of (and_then p next) ≡ choices_of p
stop_counts p next t end left = ap choices_of (stops p next t end left)

module _ (plan : Plan) where
  -- ---- the wait

  none_waits : (s : State) → choices_of (wait plan s) ≡ 0
  none_waits s = ap length (wait_silent plan s)

  module _ (a b : Place) (s t : State) (decision : Decision) (w : Waited plan a b s t decision) (next : State → Activation → Stretch) where
    abbrev whole : Stretch
    whole = and_then (wait plan s) (λ u. if_chosen u (choice plan u) (next u))

    -- an activation is chosen after it
    pub act_counts : (x : Activation) → decision ≡ Act x → choices_of whole ≡ choices_of (next t x)
    act_counts x is =
        let by = act_by (wait plan s).end (choice plan (wait plan s).state) x (sym is ∙ w.decision_is) in
        let chosen : choice plan t ≡ Some x = ap (choice plan) w.state ∙ by.1 in
        let both = goes_counts (wait plan s) (λ u. if_chosen u (choice plan u) (next u)) t (record { state = w.state; end = by.0 }) in
        let none = none_waits s in
        let same : choices_of (if_chosen t (choice plan t) (next t)) ≡ choices_of (next t x) = ap (λ o. choices_of (if_chosen t o (next t))) chosen in
        omega (arith, both, none, same)

    -- the run is over
    pub over_counts : (end : End) → decision ≡ Over end → choices_of whole ≡ 0
    over_counts end is =
        elim (over_by (wait plan s).end (choice plan (wait plan s).state) end (sym is ∙ w.decision_is)) [
          | inl ends ↦ stop_counts (wait plan s) (λ u. if_chosen u (choice plan u) (next u)) t end (record { state = w.state; end = ends }) ∙ none_waits s
          | inr rests ↦
              let none : choice plan t ≡ None = ap (choice plan) w.state ∙ rests.1 in
              let both = goes_counts (wait plan s) (λ u. if_chosen u (choice plan u) (next u)) t (record { state = w.state; end = rests.0 }) in
              let waits = none_waits s in
              let same : choices_of (if_chosen t (choice plan t) (next t)) ≡ 0 = ap (λ o. choices_of (if_chosen t o (next t))) none in
              omega (arith, both, waits, same)
        ]

  -- ---- a cycle

  module _ (number : ℕ) (x : Activation) (s t : State) (next : State → Stretch) where
    one : choices_of (cycle plan number x s) ≡ 1
    one = ap length (cycle_chooses plan number x s)

    -- which the run goes on after
    pub cycle_counts : Leaves (cycle plan number x s) t None → choices_of (and_then (cycle plan number x s) next) ≡ 1 + choices_of (next t)
    cycle_counts left = goes_counts (cycle plan number x s) next t left ∙ ap (λ n. n + choices_of (next t)) one

    -- in which it ends
    pub last_counts : (end : End) → Leaves (cycle plan number x s) t (Some end) → choices_of (and_then (cycle plan number x s) next) ≡ 1
    last_counts end left = stop_counts (cycle plan number x s) next t end left ∙ one

  -- ---- the cycles that are left after some, where one more can be made or none

  module _ (a b : Place) (last done : ℕ) (s t : State) (decision : Decision) (w : Waited plan a b s t decision) where
    abbrev left : Stretch
    left = cycles plan done (last - done) s

    pub over_left : (end : End) → done < last → decision ≡ Over end → choices_of left ≡ 0
    over_left end lt is = ap choices_of (one_cycle plan last done s lt) ∙ over_counts a b s t decision w (cycle_then plan done (last - (done + 1))) end is

    act_left : (x : Activation) → done < last → decision ≡ Act x → choices_of left ≡ choices_of (cycle_then plan done (last - (done + 1)) t x)
    act_left x lt is = ap choices_of (one_cycle plan last done s lt) ∙ act_counts a b s t decision w (cycle_then plan done (last - (done + 1))) x is

    pub cycle_left : (x : Activation) (u : State) (o : Option End) → done < last → decision ≡ Act x → Leaves (cycle plan (done + 1) x t) u o → o ≡ None → choices_of left ≡ 1 + choices_of (cycles plan (done + 1) (last - (done + 1)) u)
    cycle_left x u o lt is leaves none =
        act_left x lt is ∙ cycle_counts (done + 1) x t u (cycles plan (done + 1) (last - (done + 1))) (record { state = leaves.state; end = sym none ∙ leaves.end })

    pub cycle_last : (x : Activation) (u : State) (o : Option End) (end : End) → done < last → decision ≡ Act x → Leaves (cycle plan (done + 1) x t) u o → o ≡ Some end → choices_of left ≡ 1
    cycle_last x u o end lt is leaves some =
        act_left x lt is ∙ last_counts (done + 1) x t u (cycles plan (done + 1) (last - (done + 1))) end (record { state = leaves.state; end = sym some ∙ leaves.end })

    pub limit_acts : (x : Activation) → last ≤ done → decision ≡ Act x → choices_of left ≡ 0
    limit_acts x le is = ap choices_of (no_cycle plan last done s le) ∙ act_counts a b s t decision w (λ u y. over finishes.Limit u) x is

    pub limit_over : (end : End) → last ≤ done → decision ≡ Over end → choices_of left ≡ 0
    limit_over end le is = ap choices_of (no_cycle plan last done s le) ∙ over_counts a b s t decision w (λ u y. over finishes.Limit u) end is
