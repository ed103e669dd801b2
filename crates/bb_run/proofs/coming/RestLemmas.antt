-- The sources respond to what a run begins with, and to quiescence, where they are emitted.
use Rattle.std.proofs.Common.{◌≡◌, ◌≤◌, inl, inr, ◌⊎◌, ℕ, zero, suc, ◌+◌, ◌-◌, List, [], ◌∷◌, ◌++◌, length, map, None, refl, sym, ap, subst, ◌∙◌, append_assoc, arith, length-append}
use Rattle.std.specs.List.{fold}
use Rattle.std.proofs.lemmas.List.{append-nil, append_cancel_left}
use Rattle.bb_agenda.specs.declared.focusing.activation.Activation.{Activation}
use Rattle.bb_agenda.specs.Agenda.{Agenda, no_activations}
use Rattle.bb_trace.specs.Board.{Board as Blackboard}
use Rattle.bb_trace.specs.BoardNote.{Note as BoardNote}
use Rattle.bb_trace.specs.BoardNote.TheVariants.{Event as happened}
use Rattle.bb_trace.specs.Event.TheVariants.{Quiescence as quiescence}
use Rattle.bb_trace.specs.Native.{Native}
use Rattle.bb_trace.specs.End as finishes
use Rattle.bb_trace.specs.declared.note.Note.{Note}
use Rattle.bb_trace.specs.declared.note.Note.TheVariants.{Board}
use Rattle.bb_run_plan.specs.Plan.{Plan}
use Rattle.bb_run.specs.State.{State}
use Rattle.bb_run.specs.Emission.{Response, Stretch, after_emitted, and_then, over}
use Rattle.bb_run.specs.Executed.{finish_by}
use Rattle.bb_run_plan.specs.Foci.{setting_of}
use Rattle.bb_run.specs.Order.{At, all_of, chosen_in, notes_of, pending_after, triggered_in, after_note}
use Rattle.bb_run.specs.Phases.{IsQuiet, inside, outside, phase_after}
use Rattle.bb_run.specs.Processing.{events_in, processing_all, response}
use Rattle.bb_run.specs.Reads.{AsksByReading}
use Rattle.bb_run.specs.Responses.{responses_from}
use Rattle.bb_run.specs.Responds.{Answers, MayComeNext}
use Rattle.bb_run.specs.Run.{choice, cycle, cycles, finish_segments, first_state, if_chosen, noted, quiet, run, start, unfinished, wait_for, with_finish}
use Rattle.bb_run.proofs.coming.ContinueLemmas.{no_cycle}
use Rattle.bb_run.proofs.stretches.CountLemmas.{silent_board}
use Rattle.bb_run.proofs.stretches.EarlyLemmas.{response_early}
use Rattle.bb_run.proofs.stretches.LimitLemmas.{first_emits}
use Rattle.bb_run.proofs.notes.OrderlyParts.{all_of_two}
use Rattle.bb_run.proofs.notes.OrderlyRuns.{run_keeps_limit}
use Rattle.bb_run.proofs.notes.PendingLemmas.{chosen_then, pending_then, triggered_then}
use Rattle.bb_run.proofs.phases.PhasedRuns.{none_triggered, run_goes_by_phases}
use Rattle.bb_run.proofs.phases.PastLemmas.{IsBy, Says, by_foci, by_silent, event_emitted}
use Rattle.bb_run.proofs.coming.RespondLemmas.{StartsTurn, answers_by, answers_reported, chosen_starts, comes_next, cycles_next, cycle_starts, starts_more, starts_then, emitted_with_finish}

-- notes of the blackboard tell of no activation
none_pending : (notes : List BoardNote) (pending : List Activation) → fold after_note pending (map Board notes) ≡ pending
none_pending [] pending = refl
none_pending (note ∷ notes) pending = none_pending notes pending

outside_inside : outside ≡ inside → ⊥
outside_inside is = absurd cc

module _ (plan : Plan) (reading : AsksByReading plan) (board : Blackboard) (natives : List Native) where
  -- ---- what the blackboard had noted

  abbrev noted_first : List Note
  noted_first = map Board board.world.notes

  abbrev begun : Response
  begun = noted (first_state plan board natives) [] None

  by_first : IsBy noted_first begun.state.agenda
  by_first =
      let agenda : Agenda = no_activations (setting_of plan) in
      by_foci noted_first agenda (by_silent [] noted_first agenda (none_triggered board.world.notes) (none_pending board.world.notes) (record { pending = refl; numbers = refl })) begun.state.agenda.foci

  pub run_answers_first : (limit : ℕ) (after : List Note) → notes_of (run plan board natives limit) ≡ noted_first ++ after → Answers plan begun.state.board (events_in noted_first) noted_first after
  run_answers_first limit after emitted =
      let p = start plan board natives in
      let q = processing_all plan (events_in begun.emitted) begun.state in
      let emits = first_emits p.end p (cycles plan 0 limit) refl in
      let left = all_of ((q.emitted ++ finish_segments q.end q.state.natives) ++ emits.0) in
      let all : notes_of (run plan board natives limit) ≡ noted_first ++ left = ap all_of emits.1 ∙ ap (λ l. l ++ left) (append-nil noted_first) in
      let same : after ≡ left = append_cancel_left noted_first after left (sym emitted ∙ all) in
      subst (λ l. Answers plan begun.state.board (events_in noted_first) noted_first l) (sym same)
      (subst (λ l. Answers plan begun.state.board (events_in l) noted_first left) (append-nil noted_first)
      (answers_reported plan reading begun noted_first emits.0 by_first (λ e. subst (λ l. MayComeNext [] (all_of l)) (emits.2 e) (cycles_next plan 0 limit q.state))))

  -- ---- quiescence

  -- where nothing can be chosen the next cycle begins with quiescence
  record BeginsQuiet (p : Stretch) (s : State) : Type 0 where
    next : State → Stretch
    is : p ≡ and_then (quiet plan s) next
    turns : (t : State) → StartsTurn (with_finish (next t)).emitted

  begins_quiet : (made left : ℕ) (s : State) → choice plan s ≡ None → BeginsQuiet (cycles plan made left s) s
  unfolding cycles
  begins_quiet made zero s none =
      let next : State → Stretch = λ t. if_chosen t (choice plan t) (λ a. over finishes.Limit t) in
      record {
        next = next;
        is = ap (λ c. and_then (wait_for plan s c) next) none;
        turns = λ t. chosen_starts plan t (choice plan t) (λ a. over finishes.Limit t) (λ a. refl);
      }
  begins_quiet made (suc left) s none =
      let follows : State → Activation → Stretch = λ t a. and_then (cycle plan (made + 1) a t) (cycles plan (made + 1) left) in
      let next : State → Stretch = λ t. if_chosen t (choice plan t) (follows t) in
      record {
        next = next;
        is = ap (λ c. and_then (wait_for plan s c) next) none;
        turns = λ t. chosen_starts plan t (choice plan t) (follows t) (λ a.
            let c = cycle plan (made + 1) a t in
            let q = and_then c (cycles plan (made + 1) left) in
            starts_more q.emitted (finish_segments q.end q.state.natives) (starts_then c (cycles plan (made + 1) left) c.end (cycle_starts plan (made + 1) a t)));
      }

  -- quiescence is emitted in a state, and then the responses to it
  answers_quiet : (p : Stretch) (s : State) (past after : List Note) → BeginsQuiet p s → IsBy past s.agenda → Board (happened quiescence) ∷ after ≡ all_of (with_finish p).emitted → Answers plan s.board (quiescence ∷ []) past after
  answers_quiet p s past after begins by is =
      let w = quiet plan s in
      let r = response plan quiescence s in
      let emits = first_emits w.end w begins.next refl in
      let all_told = responses_from plan s.board quiescence 0 plan.sources past in
      let all : Board (happened quiescence) ∷ after ≡ all_of ((w.emitted ++ finish_segments w.end w.state.natives) ++ emits.0) = is ∙ ap (λ u. all_of (with_finish u).emitted) begins.is ∙ ap all_of emits.1 in
      let rest : Board (happened quiescence) ∷ after ≡ Board (happened quiescence) ∷ (r.emitted ++ (finish_by r.end r.state.natives ++ all_of emits.0)) =
      all ∙ emitted_with_finish plan w emits.0 ∙ ap (λ l. l ++ (finish_by r.end r.state.natives ++ all_of emits.0)) (append-nil (Board (happened quiescence) ∷ r.emitted)) in
      let same : after ≡ r.emitted ++ (finish_by r.end r.state.natives ++ all_of emits.0) = cc in
      subst (Answers plan s.board (quiescence ∷ []) past) (sym same)
      (answers_by plan s.board (quiescence ∷ []) past r.emitted r.state r.end (all_of emits.0)
      (subst (λ l. Says past s.board l r.emitted r.state r.end) (sym (append-nil all_told)) (event_emitted plan s.board reading quiescence past s refl by))
      (response_early plan quiescence s)
      (λ e. subst (λ l. MayComeNext [] (all_of l)) (emits.2 e) (comes_next (with_finish (begins.next r.state)).emitted (begins.turns r.state))))

  -- where the run is in that state after so many cycles
  module _ (limit : ℕ) (before after : List Note) (is : IsQuiet plan board natives before (happened quiescence)) where
    abbrev made : ℕ
    made = length (chosen_in before)

    abbrev past : List Note
    past = (noted_first ++ before) ++ Board (happened quiescence) ∷ []

    by_past : IsBy past is.state.agenda
    by_past =
        let silent : triggered_in (noted_first ++ before) ≡ triggered_in before = triggered_then noted_first before ∙ ap (λ l. l ++ triggered_in before) (none_triggered board.world.notes) in
        let same : pending_after (noted_first ++ before) ≡ pending_after before = pending_then noted_first before ∙ ap (λ l. fold after_note l before) (none_pending board.world.notes []) in
        by_silent (noted_first ++ before) (Board (happened quiescence) ∷ []) is.state.agenda refl (λ pending. refl)
        (record { pending = is.pending ∙ sym same; numbers = is.next ∙ ap (λ l. length l + 1) (sym silent) })

    -- its blackboard is that of the run that makes no cycle more
    same_board : is.state.board ≡ (run plan board natives made).state.board
    same_board =
        let count : made + zero ≡ made = omega arith in
        let ends : unfinished plan board natives made ≡ after_emitted is.emitted (cycles plan made zero is.state) = subst (λ n. unfinished plan board natives n ≡ after_emitted is.emitted (cycles plan made zero is.state)) count (is.there zero) in
        sym (ap (λ (u : Stretch). u.state.board) ends ∙ (no_cycle plan reading made is.state).board)

    -- there are as many choices as cycles
    made_within : notes_of (run plan board natives limit) ≡ (noted_first ++ before) ++ Board (happened quiescence) ∷ after → made ≤ limit
    made_within emitted =
        let within = (run_keeps_limit plan board natives limit).within in
        let later : List Note = Board (happened quiescence) ∷ after in
        let all : length (chosen_in (notes_of (run plan board natives limit))) ≡ length (chosen_in before ++ chosen_in later) =
        ap (λ l. length (chosen_in l)) emitted ∙ ap length (chosen_then (noted_first ++ before) later)
        ∙ ap (λ l. length (l ++ chosen_in later)) (chosen_then noted_first before ∙ ap (λ l. l ++ chosen_in before) (silent_board board.world.notes)) in
        let count = length-append (chosen_in before) (chosen_in later) in
        omega (arith, within, all, count)

    answers_there : notes_of (run plan board natives limit) ≡ (noted_first ++ before) ++ Board (happened quiescence) ∷ after → Answers plan (run plan board natives made).state.board (quiescence ∷ []) past after
    answers_there emitted =
        let left = limit - made in
        let count : made + left ≡ limit = omega (arith, made_within emitted) in
        let c = cycles plan made left is.state in
        let ends : unfinished plan board natives limit ≡ after_emitted is.emitted c = subst (λ n. unfinished plan board natives n ≡ after_emitted is.emitted c) count (is.there left) in
        let all : (noted_first ++ before) ++ Board (happened quiescence) ∷ after ≡ (noted_first ++ before) ++ all_of (with_finish c).emitted =
        sym emitted ∙ ap (λ u. all_of (with_finish u).emitted) ends ∙ ap all_of (append_assoc is.emitted c.emitted (finish_segments c.end c.state.natives))
        ∙ all_of_two is.emitted (with_finish c).emitted ∙ ap (λ l. l ++ all_of (with_finish c).emitted) is.notes in
        subst (λ b. Answers plan b (quiescence ∷ []) past after) same_board
        (answers_quiet c is.state past after (begins_quiet made left is.state is.nothing) by_past (append_cancel_left (noted_first ++ before) (Board (happened quiescence) ∷ after) (all_of (with_finish c).emitted) all))

  quiet_at : (before : List Note) → (phase_after before ≡ inside) ⊎ IsQuiet plan board natives before (happened quiescence) → phase_after before ≡ outside → IsQuiet plan board natives before (happened quiescence)
  quiet_at before (inl is) here = absurd (outside_inside (sym here ∙ is))
  quiet_at before (inr is) here = is

  pub run_answers_quiescence : (limit : ℕ) (before after : List Note) → notes_of (run plan board natives limit) ≡ (noted_first ++ before) ++ Board (happened quiescence) ∷ after → phase_after before ≡ outside
      → Answers plan (run plan board natives (length (chosen_in before))).state.board (quiescence ∷ []) ((noted_first ++ before) ++ Board (happened quiescence) ∷ []) after
  run_answers_quiescence limit before after emitted here =
      let phases = run_goes_by_phases plan board natives limit in
      let all : noted_first ++ all_of phases.rest ≡ noted_first ++ (before ++ Board (happened quiescence) ∷ after) = sym (ap all_of phases.begins) ∙ emitted ∙ append_assoc noted_first before (Board (happened quiescence) ∷ after) in
      let at : At (all_of phases.rest) before (Board (happened quiescence)) = (after, append_cancel_left noted_first (all_of phases.rest) (before ++ Board (happened quiescence) ∷ after) all) in
      answers_there limit before after (quiet_at before (phases.notes before (happened quiescence) at) here) emitted
