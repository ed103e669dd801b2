-- Each run goes by its phases, after what its blackboard had noted.
use Rattle.std.proofs.Common.{◌≡◌, ℕ, ◌+◌, List, [], ◌∷◌, ◌++◌, length, map, Option, Some, None, refl, sym, ap, ◌∙◌, append_assoc, arith}
use Rattle.std.proofs.lemmas.List.{append-nil}
use Rattle.bb_agenda.specs.declared.focusing.activation.Activation.{Activation}
use Rattle.bb_trace.specs.Board.{Board as Blackboard}
use Rattle.bb_trace.specs.BoardNote.{Note as BoardNote}
use Rattle.bb_trace.specs.End.{End}
use Rattle.bb_trace.specs.End as finishes
use Rattle.bb_trace.specs.declared.note.Note.{Note}
use Rattle.bb_trace.specs.declared.note.Note.TheVariants.{Board, Triggered, Chosen, Invalid, Ended, Refused, NativeEnded, Finished}
use Rattle.bb_trace.specs.Native.{Native}
use Rattle.bb_trace.specs.Roster.{closings_of}
use Rattle.bb_run_plan.specs.Plan.{Plan}
use Rattle.bb_run.specs.State.{State}
use Rattle.bb_run.specs.Emission.{Response, Stretch, after_emitted, and_then_unless}
use Rattle.bb_run.specs.Processing.{events_in, processing_all}
use Rattle.bb_run.specs.Run.{first_state, noted, cycles, finish, finish_segments, unfinished, run}
use Rattle.bb_run_plan.specs.Foci.{setting_of}
use Rattle.bb_run.specs.Order.{At, all_of, notes_of, triggered_in}
use Rattle.bb_run.specs.Phases.{outside, rested, phase_after, GoesByPhases}
use Rattle.bb_run.proofs.rules.OrderLemmas.{ComesBefore, comes_before, comes_last}
use Rattle.bb_run.proofs.notes.OrderlyParts.{all_of_more}
use Rattle.bb_run.proofs.notes.OrderlyRuns.{Begins, may_come, run_finishes}
use Rattle.bb_run.proofs.notes.PendingLemmas.{triggered_then}
use Rattle.bb_run.proofs.phases.PhaseLemmas.{SoFar, EmitsLast, all_cycles, ends_then, processes_all}
use Rattle.bb_run.proofs.phases.PhaseMoves.{MayStand, at_first}
use Rattle.bb_run.proofs.stretches.CountLemmas.{events_silent}

-- notes of the blackboard tell of no activation
pub none_triggered : (notes : List BoardNote) → triggered_in (map Board notes) ≡ []
none_triggered [] = refl
none_triggered (note ∷ notes) = none_triggered notes

-- a segment stays the first
after_first : (notes : List Note) (q : Stretch) (next : State → Stretch) (end : Option End) → and_then_unless end (after_emitted (notes ∷ []) q) next ≡ after_emitted (notes ∷ []) (and_then_unless end q next)
after_first notes q next (Some e) = refl
after_first notes q next None = refl

module _ (plan : Plan) (board : Blackboard) (natives : List Native) (limit : ℕ) where
  -- what is emitted first
  abbrev first : Response
  first = noted (first_state plan board natives) [] None

  -- the processing of the events that are emitted first
  abbrev processed : Stretch
  processed = processing_all plan (events_in first.emitted) first.state

  -- the run after what is emitted first, up to its finish
  abbrev later : Stretch
  later = and_then_unless processed.end processed (cycles plan 0 limit)

  -- whatever the limit, the run begins with what is emitted first and the processing of that
  run_begins : processed.end ≡ None → Begins plan board natives (first.emitted ∷ processed.emitted) 0 processed.state
  run_begins goes = λ left any is.
      let same : any ≡ left = omega (arith, is) in
      after_first first.emitted processed (cycles plan 0 any) processed.end
      ∙ ap (λ e. after_emitted (first.emitted ∷ []) (and_then_unless e processed (cycles plan 0 any))) goes
      ∙ ap (λ n. after_emitted (first.emitted ∷ processed.emitted) (cycles plan 0 n processed.state)) same

  begun : unfinished plan board natives limit ≡ after_emitted (first.emitted ∷ []) later
  begun = after_first first.emitted processed (cycles plan 0 limit) processed.end

  -- the run has made no cycle so far
  so_far : SoFar plan board natives (first.emitted ∷ processed.emitted) 0 (notes_of processed)
  so_far = record {
    notes = ap (λ l. l ++ notes_of processed) (append-nil (map Board board.world.notes));
    count = ap (λ l. length l) (events_silent plan (events_in first.emitted) first.state);
  }

  ends : EmitsLast plan board natives [] later
  ends =
      ends_then plan board natives [] outside processed (cycles plan 0 limit) processed.end refl (processes_all plan board natives (events_in first.emitted) [] outside first.state (at_first plan board natives (setting_of plan) first.state.agenda.foci))
      (λ goes at. all_cycles plan board natives 0 limit (first.emitted ∷ processed.emitted) (notes_of processed) processed.state (run_begins goes) so_far at)

  abbrev rest : List (List Note)
  rest = later.emitted ++ finish_segments later.end later.state.natives

  abbrev end : End
  end = (run_finishes plan board natives limit).end

  later_ends : later.end ≡ Some end
  later_ends = sym (ap (λ u. u.end) begun) ∙ (run_finishes plan board natives limit).ends

  notes_are : all_of rest ≡ notes_of later ++ finish end later.state.natives
  notes_are = ap (λ e. all_of (later.emitted ++ finish_segments e later.state.natives)) later_ends ∙ all_of_more later.emitted (finish end later.state.natives)

  -- a note after the first segment that does not come with the finish
  stands : (before : List Note) (note : Note) → At (all_of rest) before note → ComesBefore note → MayStand plan board natives before note
  stands before note at early = comes_before (MayStand plan board natives) [] (notes_of later) end (closings_of later.state.natives) before note at.0 ends.comes early (sym notes_are ∙ at.1)

  finish_at : (before : List Note) → At (all_of rest) before (Finished finishes.Quiescence) → phase_after before ≡ rested
  finish_at before at =
      let parts = comes_last (MayStand plan board natives) [] (notes_of later) end (closings_of later.state.natives) before finishes.Quiescence at.0 ends.comes (λ may. may) (sym notes_are ∙ at.1) in
      let quiet' : later.end ≡ Some finishes.Quiescence = later_ends ∙ ap (λ e. Some e) (sym parts.0) in
      ap phase_after parts.1.0 ∙ ends.quiet_end quiet'

  first_is : (run plan board natives limit).emitted ≡ map Board board.world.notes ∷ rest
  first_is = ap (λ u. u.emitted ++ finish_segments u.end u.state.natives) begun ∙ ap (λ l. l ∷ rest) (append-nil (map Board board.world.notes))

  -- the number of a new activation
  numbered : (before : List Note) (a : Activation) → At (all_of rest) before (Triggered a) → a.number ≡ length (triggered_in before) + 1
  numbered before a at =
      let noted' : List Note = map Board board.world.notes in
      let all : notes_of (run plan board natives limit) ≡ (noted' ++ before) ++ Triggered a ∷ at.0 =
      ap all_of first_is ∙ ap (λ l. noted' ++ l) at.1 ∙ sym (append_assoc noted' before (Triggered a ∷ at.0)) in
      may_come plan board natives limit (noted' ++ before) (Triggered a) tt (at.0, all)
      ∙ ap (λ l. length l + 1) (triggered_then noted' before ∙ ap (λ l. l ++ triggered_in before) (none_triggered board.world.notes))

  pub run_goes_by_phases : GoesByPhases plan board natives (run plan board natives limit)
  run_goes_by_phases = record {
    rest = rest;
    begins = first_is;
    numbers = numbered;
    notes = λ before note at. stands before (Board note) at tt;
    choices = λ before cycle a r at. stands before (Chosen cycle a r) at tt;
    ends = λ before steps found budget at. stands before (Ended steps found budget) at tt;
    native_ends = λ before asks at. stands before (NativeEnded asks) at tt;
    invalids = λ before number at. stands before (Invalid number) at tt;
    refusals = λ before ask refusal at. stands before (Refused ask refusal) at tt;
    finish = finish_at;
  }
