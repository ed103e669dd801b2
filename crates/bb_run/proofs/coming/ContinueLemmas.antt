-- What lasts from one cycle to the next: the blackboard and the natives that an execution leaves.
use Rattle.std.proofs.Common.{◌≡◌, ℕ, zero, ◌-◌, ℤ, List, [], ◌∷◌, slice_get, Option, Some, None, refl, sym, subst, ◌∙◌}
use Rattle.bb_agenda.specs.declared.focusing.activation.Activation.{Activation}
use Rattle.bb_trace.specs.Board.{Board as Blackboard}
use Rattle.bb_trace.specs.Event.{Event}
use Rattle.bb_trace.specs.Event.TheVariants.{Quiescence as quiescence}
use Rattle.bb_trace.specs.Native.{Native}
use Rattle.bb_rules.specs.Parts.{Source}
use Rattle.bb_trace.specs.End.{End}
use Rattle.bb_trace.specs.End as finishes
use Rattle.bb_trace.specs.declared.note.Note.{Note}
use Rattle.bb_trace.specs.declared.note.Note.TheVariants.{Chosen}
use Rattle.bb_run_plan.specs.Plan.{Plan}
use Rattle.bb_run.specs.declared.execution.Verdict.{Verdict}
use Rattle.bb_run.specs.declared.execution.Verdict.TheVariants as verdicts
use Rattle.bb_run.specs.State.{State, with_board}
use Rattle.bb_run.specs.Emission.{Response, Stretch, Emission, and_then, and_then_unless, over, segment}
use Rattle.bb_run.specs.Executed.{upon_choice, upon_verdict}
use Rattle.bb_run.specs.Order.{At, notes_of}
use Rattle.bb_run.specs.Processing.{events_in, processing_all, processing, reported, response}
use Rattle.bb_run.specs.Reads.{AsksByReading}
use Rattle.bb_run.specs.Responds.{HasWorldOf}
use Rattle.bb_run.specs.Run.{acting, choice, chosen_with, cycle, cycle_of, cycles, execution, first_state, if_chosen, if_valid, noted, rating, run, start, validity, wait, wait_for}
use Rattle.bb_run.proofs.notes.OrderlyRuns.{run_goes_on}
use Rattle.bb_run.proofs.keeping.ReadLemmas.{run_reads}

same_world : (s : State) → HasWorldOf s s
same_world s = record { board = refl; natives = refl }

world_then : (s t u : State) → HasWorldOf s t → HasWorldOf t u → HasWorldOf s u
world_then s t u p q = record { board = p.board ∙ q.board; natives = p.natives ∙ q.natives }

-- what comes after a part leaves its world
world_after : {X : Type 0} (p : Emission X) (next : State → Emission X) (end : Option End) → ((t : State) → HasWorldOf (next t).state t) → HasWorldOf (and_then_unless end p next).state p.state
world_after p next (Some e) leaves = same_world p.state
world_after p next None leaves = leaves p.state

module _ (plan : Plan) (reading : AsksByReading plan) where
  -- ---- what answers to events, and the wait before a cycle

  responds : (event : Event) (s : State) → HasWorldOf (response plan event s).state s
  responds event s = let reads = run_reads plan reading in record { board = reads.events event s; natives = reads.natives event s }

  processes : (events : List Event) (s : State) → HasWorldOf (processing_all plan events s).state s
  unfolding processing_all
  processes [] s = same_world s
  processes (event ∷ events) s =
      let p = processing plan event s in
      world_then (and_then_unless p.end p (processing_all plan events)).state p.state s (world_after p (processing_all plan events) p.end (processes events)) (responds event s)

  reports : (r : Response) → HasWorldOf (reported plan r).state r.state
  reports r = world_after (segment r) (processing_all plan (events_in r.emitted)) r.end (processes (events_in r.emitted))

  waits : (s : State) (c : Option Activation) → HasWorldOf (wait_for plan s c).state s
  waits s None = responds quiescence s
  waits s (Some a) = same_world s

  ends : (t : State) (c : Option Activation) → HasWorldOf (if_chosen t c (λ a. over finishes.Limit t)).state t
  ends t None = same_world t
  ends t (Some a) = same_world t

  -- where no cycle more can be made
  pub no_cycle : (made : ℕ) (s : State) → HasWorldOf (cycles plan made zero s).state s
  unfolding cycles
  no_cycle made s =
      let p = wait plan s in
      let next : State → Stretch = λ t. if_chosen t (choice plan t) (λ a. over finishes.Limit t) in
      world_then (and_then_unless p.end p next).state p.state s (world_after p next p.end (λ t. ends t (choice plan t))) (waits s (choice plan s))

  -- ---- a cycle

  chooses : (source : Source) (v : Verdict) (number : ℕ) (a : Activation) (r : ℤ) (t : State) → HasWorldOf (and_then (segment (chosen_with number a r v t)) (acting plan (if_valid v (Some source)) a)).state (upon_verdict v source a t).state
  chooses source verdicts.Valid number a r t =
      reports (execution source.name source.act a (chosen_with number a r verdicts.Valid t).state)
  chooses source verdicts.Invalid number a r t = record { board = refl; natives = refl }
  chooses source (verdicts.Over end) number a r t = same_world t

  cycle_leaves : (source : Source) (number : ℕ) (a : Activation) (s : State) → slice_get plan.sources a.source ≡ Some source → HasWorldOf (cycle plan number a s).state (upon_choice source a s).state
  cycle_leaves source number a s at =
      let v = validity source.revalidate a s.board in
      subst (λ o. HasWorldOf (cycle_of plan number o a s).state (upon_choice source a s).state) (sym at) (chooses source v.0 number a (rating plan s a) (with_board s v.1))

  -- ---- the run

  module _ (board : Blackboard) (natives : List Native) where
    pub run_begins_with : HasWorldOf (run plan board natives 0).state (noted (first_state plan board natives) [] None).state
    run_begins_with =
        let p = start plan board natives in
        let first : Response = noted (first_state plan board natives) [] None in
        world_then (and_then_unless p.end p (cycles plan 0 0)).state p.state first.state (world_after p (cycles plan 0 0) p.end (no_cycle 0)) (reports first)

    pub run_continues : (limit : ℕ) (before : List Note) (number : ℕ) (a : Activation) (r : ℤ) (source : Source) → slice_get plan.sources a.source ≡ Some source → At (notes_of (run plan board natives limit)) before (Chosen number a r)
        → HasWorldOf (run plan board natives number).state (upon_choice source a (run plan board natives (number - 1)).state).state
    run_continues limit before number a r source is at =
        let s = (run plan board natives (number - 1)).state in
        let c = cycle plan number a s in
        subst (λ t. HasWorldOf t (upon_choice source a s).state) (sym (run_goes_on plan board natives limit before number a r at))
        (world_then (and_then_unless c.end c (cycles plan number zero)).state c.state (upon_choice source a s).state
        (world_after c (cycles plan number zero) c.end (no_cycle number)) (cycle_leaves source number a s is))
