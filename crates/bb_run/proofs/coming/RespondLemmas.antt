-- Where events were emitted, the responses to them come next in a run.
use Rattle.std.proofs.Common.{◌≡◌, ℕ, zero, suc, ◌+◌, ◌-◌, ℤ, List, [], ◌∷◌, ◌++◌, length, slice_get, Option, Some, None, refl, sym, ap, subst, ◌∙◌, append_assoc}
use Rattle.std.specs.Prelude.{Contains, option_and_then}
use Rattle.std.proofs.lemmas.List.{append_cancel_left}
use Rattle.bb_agenda.specs.declared.focusing.activation.Activation.{Activation}
use Rattle.bb_agenda.specs.Agenda.{Agenda, pending_of}
use Rattle.bb_agenda.specs.Changes.{with_executed}
use Rattle.bb_trace.specs.Board.{Board as Blackboard}
use Rattle.bb_trace.specs.Event.{Event}
use Rattle.bb_trace.specs.Native.{Native}
use Rattle.bb_rules.specs.Parts.{Source}
use Rattle.bb_trace.specs.End.{End}
use Rattle.bb_trace.specs.End as finishes
use Rattle.bb_trace.specs.declared.note.Note.{Note}
use Rattle.bb_trace.specs.declared.note.Note.TheVariants.{Chosen, Invalid}
use Rattle.bb_run_plan.specs.Plan.{Plan}
use Rattle.bb_run.specs.declared.execution.Verdict.{Verdict}
use Rattle.bb_run.specs.declared.execution.Verdict.TheVariants as verdicts
use Rattle.bb_run.specs.State.{State, with_agenda, with_board}
use Rattle.bb_run.specs.Emission.{Response, Stretch, and_then, and_then_unless, over, segment}
use Rattle.bb_run.specs.Executed.{finish_by, upon_choice, upon_verdict}
use Rattle.bb_run.specs.Order.{all_of, notes_of}
use Rattle.bb_run.specs.Processing.{events_in, processing_all}
use Rattle.bb_run.specs.Reads.{AsksByReading}
use Rattle.bb_run.specs.Responses.{responses}
use Rattle.bb_run.specs.Responds.{Answers, AnswersChoice, MayComeNext, MayFollow, MayOmit}
use Rattle.bb_run.specs.Run.{acting, choice, chosen_with, cycle, cycle_of, cycles, execution, finish, finish_segments, if_chosen, if_valid, quiet, rating, run, validity, wait_for, with_finish}
use Rattle.bb_run.proofs.stretches.EarlyLemmas.{processes_early}
use Rattle.bb_run.proofs.coming.ExecutedLemmas.{finish_is, from_choice}
use Rattle.bb_run.proofs.notes.OrderlyCycles.{act_executes}
use Rattle.bb_run.proofs.notes.OrderlyParts.{IsEarly, all_of_two}
use Rattle.bb_run.proofs.notes.OrderlyRuns.{run_chooses, run_stands}
use Rattle.bb_run.proofs.notes.PendingLemmas.{Stands, stands_executed}
use Rattle.bb_run.proofs.stretches.LimitLemmas.{BeginsByCycle}
use Rattle.bb_run.proofs.phases.PastLemmas.{IsBy, Says, events_emitted}

-- ---- where a run takes its next turn

-- the segments begin with quiescence, a choice or a finish
abbrev pub StartsTurn : List (List Note) → Type 0
StartsTurn [] = ⊥
StartsTurn ([] ∷ rest) = ⊥
StartsTurn ((note ∷ notes) ∷ rest) = MayFollow [] note

pub starts_more : (xs ys : List (List Note)) → StartsTurn xs → StartsTurn (xs ++ ys)
starts_more [] ys starts = absurd starts
starts_more ([] ∷ rest) ys starts = absurd starts
starts_more ((note ∷ notes) ∷ rest) ys starts = starts

pub comes_next : (xs : List (List Note)) → StartsTurn xs → MayComeNext [] (all_of xs)
comes_next [] starts = absurd starts
comes_next ([] ∷ rest) starts = absurd starts
comes_next ((note ∷ notes) ∷ rest) starts = starts

pub starts_then : (p : Stretch) (next : State → Stretch) (end : Option End) → StartsTurn p.emitted → StartsTurn (and_then_unless end p next).emitted
starts_then p next (Some e) starts = starts
starts_then p next None starts = starts_more p.emitted (next p.state).emitted starts

may_omit : (e : End) (left : List (Option Note)) → IsEarly (Some e) → MayOmit e left
may_omit finishes.Quiescence left early = absurd early
may_omit finishes.Limit left early = absurd early
may_omit finishes.Full left early = tt
may_omit (finishes.Due a) left early = tt
may_omit (finishes.Stuck reason) left early = tt

-- what is emitted, and then the finish if the run ends, and then the rest
pub answers_by : (plan : Plan) (board : Blackboard) (events : List Event) (past emitted : List Note) (s : State) (end : Option End) (rest : List Note) → Says past board (responses plan board events past) emitted s end → IsEarly end
    → (end ≡ None → MayComeNext [] rest) → Answers plan board events past (emitted ++ (finish_by end s.natives ++ rest))
answers_by plan board events past emitted s None rest says early next = record {
  emitted = emitted;
  left = says.left;
  rest = rest;
  comes = refl;
  all = says.whole;
  next = subst (λ l. MayComeNext l rest) (sym (says.none_left refl)) (next refl);
}
answers_by plan board events past emitted s (Some e) rest says early next = record {
  emitted = emitted;
  left = says.left;
  rest = finish e s.natives ++ rest;
  comes = refl;
  all = says.whole;
  next = may_omit e says.left early;
}

-- the agenda by what was emitted
by_stands : (sources : ℕ) (past : List Note) (made executed : ℕ) (agenda : Agenda) → Stands sources past made executed agenda → IsBy past agenda
by_stands sources past made executed agenda stands = record { pending = stands.pending; numbers = stands.numbers }

module _ (plan : Plan) where
  choice_starts : (number : ℕ) (a : Activation) (r : ℤ) (v : Verdict) (s : State) → StartsTurn (segment (chosen_with number a r v s)).emitted
  choice_starts number a r verdicts.Valid s = refl
  choice_starts number a r verdicts.Invalid s = refl
  choice_starts number a r (verdicts.Over end) s = refl

  pub cycle_starts : (number : ℕ) (a : Activation) (s : State) → StartsTurn (cycle plan number a s).emitted
  cycle_starts number a s =
      let source = slice_get plan.sources a.source in
      let v = validity (option_and_then (λ t. t.revalidate) source) a s.board in
      let p = segment (chosen_with number a (rating plan s a) v.0 (with_board s v.1)) in
      starts_then p (acting plan (if_valid v.0 source) a) p.end (choice_starts number a (rating plan s a) v.0 (with_board s v.1))

  -- a finish, or what can be chosen
  pub chosen_starts : (t : State) (c : Option Activation) (follows : Activation → Stretch) → ((a : Activation) → StartsTurn (with_finish (follows a)).emitted) → StartsTurn (with_finish (if_chosen t c follows)).emitted
  chosen_starts t None follows starts = refl
  chosen_starts t (Some a) follows starts = starts a

  after_wait : (s : State) (c : Option Activation) (follows : State → Activation → Stretch) → ((t : State) (a : Activation) → StartsTurn (with_finish (follows t a)).emitted)
      → StartsTurn (with_finish (and_then (wait_for plan s c) (λ t. if_chosen t (choice plan t) (follows t)))).emitted
  after_wait s None follows starts =
      let p = quiet plan s in
      let q = and_then p (λ t. if_chosen t (choice plan t) (follows t)) in
      starts_more q.emitted (finish_segments q.end q.state.natives) (starts_then p (λ t. if_chosen t (choice plan t) (follows t)) p.end (refl, refl))
  after_wait s (Some a) follows starts = chosen_starts s (choice plan s) (follows s) (starts s)

  cycles_start : (made left : ℕ) (s : State) → StartsTurn (with_finish (cycles plan made left s)).emitted
  unfolding cycles
  cycles_start made zero s = after_wait s (choice plan s) (λ t a. over finishes.Limit t) (λ t a. refl)
  cycles_start made (suc left) s =
      after_wait s (choice plan s) (λ t a. and_then (cycle plan (made + 1) a t) (cycles plan (made + 1) left))
      (λ t a.
      let c = cycle plan (made + 1) a t in
      let q = and_then c (cycles plan (made + 1) left) in
      starts_more q.emitted (finish_segments q.end q.state.natives) (starts_then c (cycles plan (made + 1) left) c.end (cycle_starts (made + 1) a t)))

  pub cycles_next : (made left : ℕ) (s : State) → MayComeNext [] (all_of (with_finish (cycles plan made left s)).emitted)
  cycles_next made left s = comes_next (with_finish (cycles plan made left s)).emitted (cycles_start made left s)

  -- ---- after an execution

  -- a stretch with its finish, and what comes after it
  pub emitted_with_finish : (p : Stretch) (more : List (List Note)) → all_of ((p.emitted ++ finish_segments p.end p.state.natives) ++ more) ≡ notes_of p ++ (finish_by p.end p.state.natives ++ all_of more)
  emitted_with_finish p more =
      all_of_two (p.emitted ++ finish_segments p.end p.state.natives) more ∙ ap (λ l. l ++ all_of more) (all_of_two p.emitted (finish_segments p.end p.state.natives) ∙ ap (λ l. notes_of p ++ l) (finish_is p.end p.state.natives))
      ∙ append_assoc (notes_of p) (finish_by p.end p.state.natives) (all_of more)

  module _ (reading : AsksByReading plan) where
    -- the sources respond to the events of a response
    pub answers_reported : (r : Response) (past : List Note) (more : List (List Note)) → IsBy past r.state.agenda → let q = processing_all plan (events_in r.emitted) r.state in (q.end ≡ None → MayComeNext [] (all_of more))
        → Answers plan r.state.board (events_in r.emitted) past (all_of ((q.emitted ++ finish_segments q.end q.state.natives) ++ more))
    answers_reported r past more by next =
        let events = events_in r.emitted in
        let q = processing_all plan events r.state in
        subst (Answers plan r.state.board events past) (sym (emitted_with_finish q more))
        (answers_by plan r.state.board events past (notes_of q) q.state q.end (all_of more) (events_emitted plan r.state.board reading events past r.state refl by) (processes_early plan events r.state) next)

    -- the sources respond to the events of an execution, after a note that comes before it
    answers_act : (note : Note) (r : Response) (end : Option End) (past : List Note) (more : List (List Note)) (after : List Note) → end ≡ None → IsBy past r.state.agenda
        → let p = and_then_unless end (segment r) (processing_all plan (events_in r.emitted)) in (p.end ≡ None → MayComeNext [] (all_of more))
        → (x : Note) → x ∷ (r.emitted ++ after) ≡ all_of ((((note ∷ []) ∷ p.emitted) ++ finish_segments p.end p.state.natives) ++ more)
        → Answers plan r.state.board (events_in r.emitted) past after
    answers_act note r (Some e) past more after none by next x is = absurd cc
    answers_act note r None past more after none by next x is =
        let q = processing_all plan (events_in r.emitted) r.state in
        let left = all_of ((q.emitted ++ finish_segments q.end q.state.natives) ++ more) in
        let all : x ∷ (r.emitted ++ after) ≡ note ∷ (r.emitted ++ left) = is in
        let rest : r.emitted ++ after ≡ r.emitted ++ left = cc in
        subst (Answers plan r.state.board (events_in r.emitted) past) (sym (append_cancel_left r.emitted after left rest)) (answers_reported r past more by next)

    module _ (board : Blackboard) (natives : List Native) where
      -- by the verdict on what is chosen
      answers_verdict : (source : Source) (v : Verdict) (number : ℕ) (a : Activation) (r : ℤ) (t : State) (past : List Note) (made : ℕ) (more : List (List Note)) (after : List Note)
          → Stands (length plan.sources) past (made + 1) made (with_executed t.agenda a.number) → let p = and_then (segment (chosen_with number a r v t)) (acting plan (if_valid v (Some source)) a) in let emitted = upon_verdict v source a t in
          (p.end ≡ None → MayComeNext [] (all_of more)) → emitted.end ≡ None → (x : Note) → x ∷ (emitted.emitted ++ after) ≡ all_of ((p.emitted ++ finish_segments p.end p.state.natives) ++ more)
          → Answers plan emitted.state.board (events_in emitted.emitted) (past ++ emitted.emitted) after
      answers_verdict source verdicts.Valid number a r t past made more after stands next ends x is =
          let e = execution source.name source.act a (with_agenda t (with_executed t.agenda a.number)) in
          let later = act_executes plan board natives source.name source.act a (with_agenda t (with_executed t.agenda a.number)) past made stands in
          answers_act (Chosen number a r) e e.end (past ++ e.emitted) more after ends (by_stands (length plan.sources) (past ++ e.emitted) (made + 1) (made + 1) e.state.agenda (later.stands ends)) next x is
      answers_verdict source verdicts.Invalid number a r t past made more after stands next ends x is =
          let all : x ∷ (Invalid a.number ∷ after) ≡ Chosen number a r ∷ (Invalid a.number ∷ all_of more) = is in
          let rest : after ≡ all_of more = cc in
          record { emitted = []; left = []; rest = after; comes = refl; all = refl; next = subst (MayComeNext []) (sym rest) (next refl) }
      answers_verdict source (verdicts.Over end) number a r t past made more after stands next ends x is = absurd cc

      answers_cycle : (source : Source) (number : ℕ) (a : Activation) (s : State) (past : List Note) (made : ℕ) (more : List (List Note)) (after : List Note) → slice_get plan.sources a.source ≡ Some source
          → Stands (length plan.sources) past (made + 1) made (with_executed s.agenda a.number) → let p = cycle plan number a s in let emitted = upon_choice source a s in
          (p.end ≡ None → MayComeNext [] (all_of more)) → emitted.end ≡ None → (x : Note) → x ∷ (emitted.emitted ++ after) ≡ all_of ((p.emitted ++ finish_segments p.end p.state.natives) ++ more)
          → Answers plan emitted.state.board (events_in emitted.emitted) (past ++ emitted.emitted) after
      answers_cycle source number a s past made more after at stands =
          let v = validity source.revalidate a s.board in
          subst
          (λ o. let p = cycle_of plan number o a s in let emitted = upon_choice source a s in
          (p.end ≡ None → MayComeNext [] (all_of more)) → emitted.end ≡ None → (x : Note) → x ∷ (emitted.emitted ++ after) ≡ all_of ((p.emitted ++ finish_segments p.end p.state.natives) ++ more)
          → Answers plan emitted.state.board (events_in emitted.emitted) (past ++ emitted.emitted) after)
          (sym at) (answers_verdict source v.0 number a (rating plan s a) (with_board s v.1) past made more after stands)

      answers_from : (number m : ℕ) (a : Activation) (r : ℤ) (s : State) (segments : List (List Note)) (past after : List Note) → Contains (pending_of s.agenda) a → Stands (length plan.sources) past m m s.agenda → choice plan s ≡ Some a
          → BeginsByCycle plan (m + 1) s segments → Chosen number a r ∷ after ≡ all_of segments → AnswersChoice plan s a (past ++ Chosen number a r ∷ []) after
      answers_from number m a r s segments past after there stands chosen begins is source more at ends later =
          let same : begins.chosen ≡ a = let e = begins.choice_is in cc in
          let emitted = upon_choice source a s in
          let p = cycle plan (m + 1) a s in
          let parts : segments ≡ (p.emitted ++ finish_segments p.end p.state.natives) ++ begins.more =
          subst (λ x. let q = cycle plan (m + 1) x s in segments ≡ (q.emitted ++ finish_segments q.end q.state.natives) ++ begins.more) same begins.begins in
          let goes : p.end ≡ None → (with_finish (cycles plan (m + 1) begins.left p.state)).emitted ≡ begins.more =
          subst (λ x. let q = cycle plan (m + 1) x s in q.end ≡ None → (with_finish (cycles plan (m + 1) begins.left q.state)).emitted ≡ begins.more) same begins.goes_on in
          answers_cycle source (m + 1) a s (past ++ Chosen number a r ∷ []) m begins.more more at
          (stands_executed (length plan.sources) past m m s.agenda stands number a r there)
          (λ e. subst (λ l. MayComeNext [] (all_of l)) (goes e) (cycles_next (m + 1) begins.left p.state)) ends (Chosen number a r)
          (ap (λ l. Chosen number a r ∷ l) (sym later) ∙ is ∙ ap all_of parts)

      pub run_answers : (limit : ℕ) (before after : List Note) (number : ℕ) (a : Activation) (r : ℤ) → notes_of (run plan board natives limit) ≡ before ++ Chosen number a r ∷ after
          → AnswersChoice plan (run plan board natives (number - 1)).state a (before ++ Chosen number a r ∷ []) after
      run_answers limit before after number a r emitted =
          let p = run plan board natives (number - 1) in
          let from = from_choice plan board natives limit before after number a r emitted in
          let chosen = run_chooses plan board natives limit before number a r (after, emitted) in
          answers_from number (number - 1) a r p.state from.segments before after chosen.best.waits (run_stands plan board natives limit before number a r (after, emitted)) chosen.choice_is from.begins from.emits
