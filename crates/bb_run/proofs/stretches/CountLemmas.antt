-- How many cycles the parts of a run make.
use Rattle.std.proofs.Common.{◌≡◌, ℕ, ℤ, List, [], ◌∷◌, ◌++◌, length, map, slice_get, Option, Some, None, Result, Ok, Err, refl, ap, ◌∙◌}
use Rattle.std.specs.Prelude.{option_and_then}
use Rattle.std.proofs.lemmas.List.{append-nil}
use Rattle.bb_trace.specs.Event.{Event}
use Rattle.bb_trace.specs.Event.TheVariants.{Quiescence as quiescence}
use Rattle.bb_trace.specs.BoardNote.{Note as BoardNote}
use Rattle.bb_trace.specs.BoardNote.TheVariants.{Event as happened}
use Rattle.bb_agenda.specs.declared.focusing.activation.Activation.{Activation}
use Rattle.bb_code.specs.Code.{Code}
use Rattle.bb_verify.specs.Budget.{budget}
use Rattle.bb_machine.specs.declared.outcome.Outcome.{Outcome}
use Rattle.bb_machine.specs.declared.outcome.Stop.{Stop}
use Rattle.bb_rules.specs.declared.source.Act.{Act}
use Rattle.bb_rules.specs.declared.source.Act.TheVariants as acts
use Rattle.bb_rules.specs.Parts.{Source}
use Rattle.bb_trace.specs.End.{End}
use Rattle.bb_trace.specs.declared.note.Note.{Note}
use Rattle.bb_trace.specs.declared.note.Note.TheVariants.{Board, Chosen, Ended, NativeEnded}
use Rattle.bb_trace.specs.Ask.{Ask}
use Rattle.bb_trace.specs.Roster.{after_act_at, asks_at, place_of}
use Rattle.bb_trace.specs.Sight.{sight_of}
use Rattle.bb_run_plan.specs.Plan.{Plan}
use Rattle.bb_run.specs.declared.execution.Verdict.{Verdict}
use Rattle.bb_run.specs.declared.execution.Verdict.TheVariants as verdicts
use Rattle.bb_run.specs.State.{State, with_board, with_natives}
use Rattle.bb_run.specs.Emission.{Response, Stretch, emitting, and_then, and_then_unless, segment}
use Rattle.bb_run.specs.Asking.{attempt, entry_of}
use Rattle.bb_run.specs.Processing.{events_in, processing, processing_all, reported, response}
use Rattle.bb_run.specs.Run.{rating, choice, wait, wait_for, answered, calling, each_applied, execution, acting, validity, chosen_with, if_valid, cycle}
use Rattle.bb_run.specs.Order.{notes_of, chosen_in}
use Rattle.bb_run.proofs.rules.AskRule.{HoldsOfAsks, asks_hold}
use Rattle.bb_run.proofs.notes.OrderlyParts.{all_of_two}
use Rattle.bb_run.proofs.notes.PendingLemmas.{chosen_then}
use Rattle.bb_run.proofs.rules.ResponseRule.{HoldsOfParts, holds}

-- notes that tell of no choice
abbrev pub IsSilent : List Note → Type 0
IsSilent notes = chosen_in notes ≡ []

silent_two : (xs ys : List Note) → IsSilent xs → IsSilent ys → IsSilent (xs ++ ys)
silent_two xs ys p q = chosen_then xs ys ∙ ap (λ l. l ++ chosen_in ys) p ∙ q

pub silent_board : (notes : List BoardNote) → IsSilent (map Board notes)
silent_board [] = refl
silent_board (note ∷ notes) = silent_board notes

silent_segment : (r : Response) → IsSilent r.emitted → IsSilent (notes_of (segment r))
silent_segment r p = ap chosen_in (append-nil r.emitted) ∙ p

module _ (plan : Plan) where
  -- ---- what answers to an event

  abbrev Silent : State → Response → Type 0
  Silent s r = IsSilent r.emitted

  silent_after : (r : Response) (next : State → Response) (end : Option End) → IsSilent r.emitted → IsSilent (next r.state).emitted → IsSilent (and_then_unless end r next).emitted
  silent_after r next (Some e) p q = p
  silent_after r next None p q = silent_two r.emitted (next r.state).emitted p q

  response_parts : HoldsOfParts plan Silent
  response_parts = record {
    nothing = λ s. refl;
    full = λ s is. refl;
    stopped = λ s code entry stop of came. refl;
    went_on = λ s code entry r of silent. silent;
    triggered = λ s source unit base under room. refl;
    declined = λ s source unit. refl;
    obviated = λ s number. refl;
    rebased = λ s number base. refl;
    further = λ s r next first rest. silent_after r next r.end first rest;
  }

  silent_response : (event : Event) (s : State) → IsSilent (response plan event s).emitted
  silent_response event s = holds plan Silent response_parts event s

  silent_then : (p : Stretch) (next : State → Stretch) (end : Option End) → IsSilent (notes_of p) → ((s : State) → IsSilent (notes_of (next s))) → IsSilent (notes_of (and_then_unless end p next))
  silent_then p next (Some e) first rest = first
  silent_then p next None first rest = ap chosen_in (all_of_two p.emitted (next p.state).emitted) ∙ silent_two (notes_of p) (notes_of (next p.state)) first (rest p.state)

  pub events_silent : (events : List Event) (s : State) → IsSilent (notes_of (processing_all plan events s))
  unfolding processing_all
  events_silent [] s = refl
  events_silent (event ∷ events) s =
      let r = response plan event s in
      silent_then (processing plan event s) (processing_all plan events) r.end (silent_segment r (silent_response event s)) (events_silent events)

  silent_reported : (r : Response) → IsSilent r.emitted → IsSilent (notes_of (reported plan r))
  silent_reported r p = silent_then (segment r) (processing_all plan (events_in r.emitted)) r.end (silent_segment r p) (events_silent (events_in r.emitted))

  -- ---- a wait and a cycle

  wait_by : (s : State) (c : Option Activation) → IsSilent (notes_of (wait_for plan s c))
  wait_by s None =
      let r = response plan quiescence s in
      let note : Note = Board (happened quiescence) in
      ap chosen_in (append-nil (note ∷ r.emitted)) ∙ silent_response quiescence s
  wait_by s (Some a) = refl

  -- a wait makes no choice
  pub wait_silent : (s : State) → IsSilent (notes_of (wait plan s))
  wait_silent s = wait_by s (choice plan s)

  answered_silent : (code : Code) (s : State) (r : Result Outcome Stop) → IsSilent (answered code s r).emitted
  answered_silent code s (Ok o) = silent_two (map Board s.board.world.notes) (Ended o.steps o.found (budget code o.found) ∷ []) (silent_board s.board.world.notes) refl
  answered_silent code s (Err stop) = silent_two (map Board s.board.world.notes) [] (silent_board s.board.world.notes) refl

  ask_parts : (asks : List Ask) → HoldsOfAsks asks Silent
  ask_parts asks = record {
    nothing = λ s. refl;
    changed = λ s ask board is. silent_two (map Board board.world.notes) [] (silent_board board.world.notes) refl;
    refused = λ s number refusal. refl;
    full = λ s ask there is. refl;
    no_memory = λ s ask is. refl;
    further = λ s r next first rest. silent_after r next r.end first rest;
  }

  call_silent : (place : Option ℕ) (a : Activation) (s : State) → IsSilent (calling place a s).emitted
  call_silent None a s = refl
  call_silent (Some place) a s =
      let seen = sight_of s.board in
      let asks = asks_at s.natives place a.unit seen in
      let t = with_natives s (after_act_at s.natives place a.unit seen) in
      silent_after (each_applied 1 asks t) (λ u. emitting (NativeEnded (length asks) ∷ []) u None) (each_applied 1 asks t).end (asks_hold asks Silent (ask_parts asks) t) refl

  execution_silent : (name : List ℕ) (act : Act) (a : Activation) (s : State) → IsSilent (execution name act a s).emitted
  execution_silent name (acts.Code body) a s =
      let e = attempt body.code (entry_of a.unit None) s.board in answered_silent body.code (with_board s e.1) e.0
  execution_silent name acts.Native a s = call_silent (place_of s.natives name) a s

  acting_silent : (source : Option Source) (a : Activation) (s : State) → IsSilent (notes_of (acting plan source a s))
  acting_silent None a s = refl
  acting_silent (Some source) a s = silent_reported (execution source.name source.act a s) (execution_silent source.name source.act a s)

  module _ (number : ℕ) (a : Activation) (r : ℤ) (s : State) where
    one_then : (notes : List Note) → IsSilent notes → chosen_in (Chosen number a r ∷ notes) ≡ a ∷ []
    one_then notes p = ap (λ l. a ∷ l) p

    cycle_by : (source : Option Source) (v : Verdict) → chosen_in (notes_of (and_then (segment (chosen_with number a r v s)) (acting plan (if_valid v source) a))) ≡ a ∷ []
    cycle_by source verdicts.Valid =
        let p = acting plan source a (chosen_with number a r verdicts.Valid s).state in
        one_then (notes_of p) (acting_silent source a (chosen_with number a r verdicts.Valid s).state)
    cycle_by source verdicts.Invalid = refl
    cycle_by source (verdicts.Over end) = refl

  -- a cycle makes one choice
  pub cycle_chooses : (number : ℕ) (a : Activation) (s : State) → chosen_in (notes_of (cycle plan number a s)) ≡ a ∷ []
  cycle_chooses number a s =
      let source = slice_get plan.sources a.source in
      let v = validity (option_and_then (λ t. t.revalidate) source) a s.board in
      cycle_by number a (rating plan s a) (with_board s v.1) source v.0
