-- What holds of the state that a run leaves, where each of its parts keeps it.
use Rattle.std.proofs.Common.{◌≡◌, ℕ, zero, suc, ◌+◌, ℤ, List, [], ◌∷◌, slice_get, Option, Some, None, refl}
use Rattle.std.specs.Prelude.{option_and_then}
use Rattle.bb_agenda.specs.declared.focusing.activation.Activation.{Activation}
use Rattle.bb_rules.specs.declared.source.Act.{Act}
use Rattle.bb_trace.specs.Board.{Board as Blackboard}
use Rattle.bb_trace.specs.Event.{Event}
use Rattle.bb_trace.specs.Event.TheVariants.{Quiescence as quiescence}
use Rattle.bb_trace.specs.Native.{Native}
use Rattle.bb_rules.specs.Parts.{Source}
use Rattle.bb_trace.specs.End.{End}
use Rattle.bb_trace.specs.End as finishes
use Rattle.bb_trace.specs.declared.note.Note.{Note}
use Rattle.bb_run_plan.specs.Plan.{Plan}
use Rattle.bb_run.specs.declared.execution.Verdict.{Verdict}
use Rattle.bb_run.specs.State.{State, with_board}
use Rattle.bb_run.specs.Emission.{Response, Emission, over, and_then, and_then_unless, segment}
use Rattle.bb_run.specs.Processing.{events_in, processing, processing_all, reported, response}
use Rattle.bb_run.specs.Run.{rating, choice, wait, wait_for, noted, execution, acting, validity, chosen_with, if_valid, cycle, if_chosen, cycles, first_state, start, run}

module _ (plan : Plan) (Holds : State → Type 0) where
  -- what answers to an event keeps it, an execution, what is asked about a choice, and the choice
  pub record IsKept : Type 0 where
    pub events : (event : Event) (s : State) → Holds s → Holds (response plan event s).state
    pub executes : (name : List ℕ) (act : Act) (a : Activation) (s : State) → Holds s → Holds (execution name act a s).state
    pub asks : (source : Option Source) (a : Activation) (s : State) → slice_get plan.sources a.source ≡ source → Holds s → Holds (with_board s (validity (option_and_then (λ t. t.revalidate) source) a s.board).1)
    pub chooses : (number : ℕ) (a : Activation) (r : ℤ) (v : Verdict) (s : State) → Holds s → Holds (chosen_with number a r v s).state

  pub kept_then : {X : Type 0} (p : Emission X) (next : State → Emission X) (end : Option End) → Holds p.state → ((s : State) → Holds s → Holds (next s).state) → Holds (and_then_unless end p next).state
  kept_then p next (Some e) first rest = first
  kept_then p next None first rest = rest p.state first

  module _ (kept : IsKept) where
    processes_all : (events : List Event) (s : State) → Holds s → Holds (processing_all plan events s).state
    unfolding processing_all
    processes_all [] s k = k
    processes_all (event ∷ events) s k = let p = processing plan event s in kept_then p (processing_all plan events) p.end (kept.events event s k) (processes_all events)

    pub reports : (r : Response) → Holds r.state → Holds (reported plan r).state
    reports r k = kept_then (segment r) (processing_all plan (events_in r.emitted)) r.end k (processes_all (events_in r.emitted))

    -- ---- a cycle

    acts_at : (source : Option Source) (a : Activation) (s : State) → Holds s → Holds (acting plan source a s).state
    acts_at None a s k = k
    acts_at (Some source) a s k = reports (execution source.name source.act a s) (kept.executes source.name source.act a s k)

    pub cycle_keeps : (number : ℕ) (a : Activation) (s : State) → Holds s → Holds (cycle plan number a s).state
    cycle_keeps number a s k =
        let source = slice_get plan.sources a.source in
        let v = validity (option_and_then (λ t. t.revalidate) source) a s.board in
        let t = with_board s v.1 in
        let p = segment (chosen_with number a (rating plan s a) v.0 t) in
        kept_then p (acting plan (if_valid v.0 source) a) p.end (kept.chooses number a (rating plan s a) v.0 t (kept.asks source a s refl k)) (acts_at (if_valid v.0 source) a)

    -- ---- the whole run

    pub wait_keeps : (s : State) (c : Option Activation) → Holds s → Holds (wait_for plan s c).state
    wait_keeps s None k = kept.events quiescence s k
    wait_keeps s (Some a) k = k

    pub goes_if : (t : State) (c : Option Activation) (next : Activation → Emission (List Note)) → Holds t → ((a : Activation) → Holds (next a).state) → Holds (if_chosen t c next).state
    goes_if t None next k rest = k
    goes_if t (Some a) next k rest = rest a

    pub cycles_keep : (made left : ℕ) (s : State) → Holds s → Holds (cycles plan made left s).state
    unfolding cycles
    cycles_keep made zero s k =
        let p = wait plan s in
        kept_then p (λ t. if_chosen t (choice plan t) (λ a. over finishes.Limit t)) p.end (wait_keeps s (choice plan s) k)
        (λ t known. goes_if t (choice plan t) (λ a. over finishes.Limit t) known (λ a. known))
    cycles_keep made (suc left) s k =
        let p = wait plan s in
        kept_then p (λ t. if_chosen t (choice plan t) (λ a. and_then (cycle plan (made + 1) a t) (cycles plan (made + 1) left))) p.end (wait_keeps s (choice plan s) k)
        (λ t known.
        goes_if t (choice plan t) (λ a. and_then (cycle plan (made + 1) a t) (cycles plan (made + 1) left)) known
        (λ a. let c = cycle plan (made + 1) a t in kept_then c (cycles plan (made + 1) left) c.end (cycle_keeps (made + 1) a t known) (cycles_keep (made + 1) left)))

    module _ (board : Blackboard) (natives : List Native) (first : Holds (noted (first_state plan board natives) [] None).state) where
      pub start_keeps : Holds (start plan board natives).state
      start_keeps = reports (noted (first_state plan board natives) [] None) first

      pub run_keeps : (limit : ℕ) → Holds (run plan board natives limit).state
      run_keeps limit = let p = start plan board natives in kept_then p (cycles plan 0 limit) p.end start_keeps (cycles_keep 0 limit)
