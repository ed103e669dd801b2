-- What comes of asks and events neither reads nor changes the natives: with others it is the same.
use Rattle.std.proofs.Common.{◌≡◌, ℕ, ◌+◌, ℤ, Bool, true, false, cond, List, [], ◌∷◌, length, Option, Some, None, Result, Ok, Err, refl, ap, ◌∙◌}
use Rattle.bb_trace.specs.Event.{Event}
use Rattle.bb_trace.specs.Events.{unit_of}
use Rattle.bb_rules.specs.Match.{any_match}
use Rattle.bb_agenda.specs.declared.focusing.activation.Activation.{Activation}
use Rattle.bb_agenda.specs.Agenda.{is_full, pending_for}
use Rattle.bb_agenda.specs.Changes.{new_activation, with_activation}
use Rattle.bb_code.specs.Code.{Code}
use Rattle.bb_verify.specs.Accepted.{Checked}
use Rattle.bb_machine.specs.declared.outcome.Answer.{Answer}
use Rattle.bb_machine.specs.declared.outcome.Answer.TheVariants as answers
use Rattle.bb_machine.specs.declared.outcome.Entry.{Entry}
use Rattle.bb_trace.specs.Applied.{applied}
use Rattle.bb_trace.specs.Ask.{Ask}
use Rattle.bb_trace.specs.Board.{Board as Blackboard}
use Rattle.bb_trace.specs.Denial.{Denial}
use Rattle.bb_trace.specs.Denial.TheVariants as denials
use Rattle.bb_trace.specs.Native.{Native}
use Rattle.bb_rules.specs.declared.source.Reaction.{Reaction}
use Rattle.bb_rules.specs.Parts.{Source}
use Rattle.bb_trace.specs.End.{End}
use Rattle.bb_trace.specs.End as finishes
use Rattle.bb_trace.specs.declared.note.Note.{Note}
use Rattle.bb_trace.specs.declared.note.Note.TheVariants.{Triggered}
use Rattle.bb_run_plan.specs.Plan.{Plan}
use Rattle.bb_run.specs.declared.asking.Reply.{Reply}
use Rattle.bb_run.specs.declared.asking.Reply.TheVariants as replies
use Rattle.bb_run.specs.State.{State, with_agenda, with_board, with_natives}
use Rattle.bb_run.specs.Emission.{Emission, Response, after_emitted, and_then, and_then_unless, emitting, idle, over, segment}
use Rattle.bb_run.specs.Asking.{asking, attempt, entry_of, reply_by, upon}
use Rattle.bb_run.specs.Processing.{activating, events_in, if_triggered, obviated_by, processing, processing_all, reacting, reacting_to, reacting_to_each, reported, required_by, rerated_by, response_by, source_response, triggering}
use Rattle.bb_run.specs.Run.{asked, each_applied, upon_ask}

module _ (natives : List Native) where
  -- the same with these natives
  abbrev pub beside : {X : Type 0} → Emission X → Emission X
  beside p = emitting p.emitted (with_natives p.state natives) p.end

  -- with these natives it is the same
  abbrev pub Apart : {X : Type 0} → (State → Emission X) → Type 0
  Apart part = (s : State) → part (with_natives s natives) ≡ beside (part s)

  -- one part, and then the next
  apart_then : {X : Type 0} (p q : Emission X) (next : State → Emission X) (end : Option End) → q ≡ beside p → p.end ≡ end → Apart next → and_then q next ≡ beside (and_then_unless end p next)
  apart_then p q next end same is apart = ap (λ x. and_then x next) same ∙ by end is
    where
      by : (end : Option End) → p.end ≡ end → and_then (beside p) next ≡ beside (and_then_unless end p next)
      by (Some e) is = ap (λ x. and_then_unless x (beside p) next) is
      by None is = ap (λ x. and_then_unless x (beside p) next) is ∙ ap (after_emitted p.emitted) (apart p.state)

  -- by a test
  apart_if : {X : Type 0} (b : Bool) (p q r s : Emission X) → p ≡ beside r → q ≡ beside s → cond b p q ≡ beside (cond b r s)
  apart_if true p q r s yes' no' = yes'
  apart_if false p q r s yes' no' = no'

  -- ---- what answers to an event

  upon_apart : (reply : Reply) (next : Answer → State → Response) → ((answer : Answer) → Apart (next answer)) → Apart (upon reply next)
  upon_apart (replies.Answer answer) next apart s = apart answer s
  upon_apart (replies.Over end) next apart s = refl

  asking_apart : (code : Code) (entry : Entry) (next : Answer → State → Response) → ((answer : Answer) → Apart (next answer)) → Apart (asking code entry next)
  asking_apart code entry next apart s = let e = attempt code entry s.board in upon_apart (reply_by e.0) next apart (with_board s e.1)

  obviated_apart : (a : Activation) (answer : Answer) → Apart (obviated_by a answer)
  obviated_apart a answers.Yes s = refl
  obviated_apart a answers.No s = refl
  obviated_apart a answers.Done s = refl
  obviated_apart a answers.Declined s = refl
  obviated_apart a (answers.Rated base) s = refl

  rerated_apart : (a : Activation) (answer : Answer) → Apart (rerated_by a answer)
  rerated_apart a (answers.Rated base) s = refl
  rerated_apart a answers.Yes s = refl
  rerated_apart a answers.No s = refl
  rerated_apart a answers.Done s = refl
  rerated_apart a answers.Declined s = refl

  module _ (event : Event) where
    module _ (by : Activation → Answer → State → Response) (each : (a : Activation) (answer : Answer) → Apart (by a answer)) where
      each_apart : (reaction : Reaction) (items : List Activation) → Apart (reacting_to_each event by reaction items)
      unfolding reacting_to_each
      each_apart reaction [] s = refl
      each_apart reaction (a ∷ more) s =
          let p = reacting_to event by reaction a s in
          apart_then p (reacting_to event by reaction a (with_natives s natives)) (reacting_to_each event by reaction more) p.end
          (asking_apart reaction.code.code (entry_of a.unit (Some (unit_of event))) (by a) (each a) s) refl (each_apart reaction more)

      reacting_apart : (plan : Plan) (place : ℕ) (reaction : Option Reaction) → Apart (reacting plan.schema event place by reaction)
      reacting_apart plan place None s = refl
      reacting_apart plan place (Some reaction) s =
          let items = pending_for s.agenda place in
          apart_if (any_match plan.schema reaction.clauses event) (reacting_to_each event by reaction items (with_natives s natives)) (idle (with_natives s natives))
          (reacting_to_each event by reaction items s) (idle s) (each_apart reaction items s) refl

    activating_apart : (place : ℕ) (base : ℤ) → Apart (activating event place base)
    activating_apart place base s =
        let note = Triggered (new_activation s.agenda place (unit_of event) base) ∷ [] in
        let agenda = with_activation s.agenda place (unit_of event) base in
        apart_if (is_full s.agenda) (over finishes.Full (with_natives s natives)) (emitting note (with_agenda (with_natives s natives) agenda) None)
        (over finishes.Full s) (emitting note (with_agenda s agenda) None) refl refl

    required_apart : (place : ℕ) (answer : Answer) → Apart (required_by event place answer)
    required_apart place (answers.Rated base) s = activating_apart place base s
    required_apart place answers.Declined s = refl
    required_apart place answers.Yes s = refl
    required_apart place answers.No s = refl
    required_apart place answers.Done s = refl

    triggering_apart : (place : ℕ) (rate : ℤ) (code : Option Checked) → Apart (triggering event place rate code)
    triggering_apart place rate None s = activating_apart place rate s
    triggering_apart place rate (Some code) s = asking_apart code.code (entry_of (unit_of event) None) (required_by event place) (required_apart place) s

    triggered_apart : (plan : Plan) (place : ℕ) (source : Source) → Apart (if_triggered plan.schema event place source)
    triggered_apart plan place source s =
        apart_if (any_match plan.schema source.triggers event) (triggering event place source.rate source.require (with_natives s natives)) (idle (with_natives s natives))
        (triggering event place source.rate source.require s) (idle s) (triggering_apart place source.rate source.require s) refl

    source_apart : (plan : Plan) (place : ℕ) (source : Source) → Apart (source_response plan.schema event place source)
    source_apart plan place source s =
        let first = reacting plan.schema event place obviated_by source.obviate s in
        apart_then first (reacting plan.schema event place obviated_by source.obviate (with_natives s natives))
        (λ t. and_then (reacting plan.schema event place rerated_by source.retrigger t) (if_triggered plan.schema event place source)) first.end
        (reacting_apart obviated_by obviated_apart plan place source.obviate s) refl
        (λ t. let second = reacting plan.schema event place rerated_by source.retrigger t in
        apart_then second (reacting plan.schema event place rerated_by source.retrigger (with_natives t natives)) (if_triggered plan.schema event place source) second.end
        (reacting_apart rerated_by rerated_apart plan place source.retrigger t) refl (triggered_apart plan place source))

    responses_apart : (plan : Plan) (place : ℕ) (sources : List Source) → Apart (response_by plan.schema event place sources)
    unfolding response_by
    responses_apart plan place [] s = refl
    responses_apart plan place (source ∷ more) s =
        let p = source_response plan.schema event place source s in
        apart_then p (source_response plan.schema event place source (with_natives s natives)) (response_by plan.schema event (place + 1) more) p.end
        (source_apart plan place source s) refl (responses_apart plan (place + 1) more)

  -- ---- events, and asks, one after another

  module _ (plan : Plan) where
    processes_apart : (events : List Event) → Apart (processing_all plan events)
    unfolding processing_all
    processes_apart [] s = refl
    processes_apart (event ∷ events) s =
        let p = processing plan event s in
        apart_then p (processing plan event (with_natives s natives)) (processing_all plan events) p.end
        (ap segment (responses_apart event plan 0 plan.sources s)) refl (processes_apart events)

    pub reported_apart : (part : State → Response) → Apart part → Apart (λ s. reported plan (part s))
    reported_apart part apart s =
        let r = part s in
        let p = segment r in
        ap (reported plan) (apart s) ∙ apart_then p (segment (beside r)) (processing_all plan (events_in r.emitted)) p.end refl refl (processes_apart (events_in r.emitted))

  ask_apart : (number : ℕ) (result : Result Blackboard Denial) → Apart (upon_ask number result)
  ask_apart number (Ok board) s = refl
  ask_apart number (Err (denials.Refused refusal)) s = refl
  ask_apart number (Err denials.Full) s = refl
  ask_apart number (Err denials.Memory) s = refl

  asks_apart : (number : ℕ) (asks : List Ask) → Apart (each_applied number asks)
  unfolding each_applied
  asks_apart number [] s = refl
  asks_apart number (ask ∷ more) s =
      let p = upon_ask number (applied ask s.board) s in
      apart_then p (upon_ask number (applied ask s.board) (with_natives s natives)) (each_applied (number + 1) more) p.end
      (ask_apart number (applied ask s.board) s) refl (asks_apart (number + 1) more)

  pub asked_apart : (last : ℕ → Note) (asks : List Ask) → Apart (asked last asks)
  asked_apart last asks s =
      let p = each_applied 1 asks s in
      apart_then p (each_applied 1 asks (with_natives s natives)) (λ t. emitting (last (length asks) ∷ []) t None) p.end
      (asks_apart 1 asks s) refl (λ t. refl)
