-- What holds of every response to an event, where it holds of the parts that it is made of.
use Rattle.std.proofs.Common.{◌≡◌, ◌<◌, inl, inr, ℕ, ◌+◌, ℤ, Bool, true, false, cond, List, [], ◌∷◌, length, Option, Some, None, option_map, Result, Ok, Err, refl, ap, arith}
use Rattle.std.specs.Prelude.{All, Contains}
use Rattle.std.proofs.lemmas.List.Elements.{All-contains_itself, All-head, All-tail}
use Rattle.bb_trace.specs.Event.{Event}
use Rattle.bb_trace.specs.Events.{unit_of}
use Rattle.bb_rules.specs.Match.{any_match}
use Rattle.bb_agenda.specs.declared.focusing.activation.Activation.{Activation}
use Rattle.bb_agenda.specs.Agenda.{is_full, pending_for}
use Rattle.bb_agenda.specs.Changes.{new_activation, with_activation, with_base, with_obviated}
use Rattle.bb_verify.specs.Accepted.{Checked}
use Rattle.bb_machine.specs.declared.outcome.Answer.{Answer}
use Rattle.bb_machine.specs.declared.outcome.Answer.TheVariants as answers
use Rattle.bb_machine.specs.declared.outcome.Entry.{Entry}
use Rattle.bb_machine.specs.declared.outcome.Outcome.{Outcome}
use Rattle.bb_machine.specs.declared.outcome.Stop.{Stop}
use Rattle.bb_rules.specs.declared.source.Reaction.{Reaction}
use Rattle.bb_rules.specs.Parts.{Source}
use Rattle.bb_trace.specs.End as finishes
use Rattle.bb_trace.specs.declared.note.Note.TheVariants.{Triggered, Declined, Obviated, Retriggered}
use Rattle.bb_run_plan.specs.Plan.{Plan}
use Rattle.bb_run.specs.State.{State, with_board, with_agenda}
use Rattle.bb_run.specs.Emission.{Response, emitting, idle, over, and_then, and_then_unless}
use Rattle.bb_run.specs.Asking.{attempt, asking, end_by, entry_of, reply_by, upon}
use Rattle.bb_run.specs.Processing.{activating, if_triggered, obviated_by, reacting, reacting_to, reacting_to_each, required_by, rerated_by, response, response_by, source_response, triggering}
use Rattle.bb_run.specs.Causes.{IsAsked, code_of}

module _ (plan : Plan) (Holds : State → Response → Type 0) where
  -- the code is asked by a source of the plan
  abbrev pub OfPlan : Checked → Type 0
  OfPlan code = (source : Source) × Contains plan.sources source × IsAsked source code

  -- a property holds of each part that a response is made of
  pub record HoldsOfParts : Type 0 where
    pub nothing : (s : State) → Holds s (idle s)
    pub full : (s : State) → is_full s.agenda ≡ true → Holds s (over finishes.Full s)
    pub stopped : (s : State) (code : Checked) (entry : Entry) (stop : Stop) → OfPlan code → (attempt code.code entry s.board).0 ≡ Err stop
        → Holds s (over (end_by stop) (with_board s (attempt code.code entry s.board).1))
    pub went_on : (s : State) (code : Checked) (entry : Entry) (r : Response) → OfPlan code → Holds (with_board s (attempt code.code entry s.board).1) r → Holds s r
    pub triggered : (s : State) (source unit : ℕ) (base : ℤ) → source < length plan.sources → is_full s.agenda ≡ false
        → Holds s (emitting (Triggered (new_activation s.agenda source unit base) ∷ []) (with_agenda s (with_activation s.agenda source unit base)) None)
    pub declined : (s : State) (source unit : ℕ) → Holds s (emitting (Declined source unit ∷ []) s None)
    pub obviated : (s : State) (number : ℕ) → Holds s (emitting (Obviated number ∷ []) (with_agenda s (with_obviated s.agenda number)) None)
    pub rebased : (s : State) (number : ℕ) (base : ℤ) → Holds s (emitting (Retriggered number base ∷ []) (with_agenda s (with_base s.agenda number base)) None)
    pub further : (s : State) (r : Response) (next : State → Response) → Holds s r → Holds r.state (next r.state) → Holds s (and_then_unless r.end r next)

  module _ (parts : HoldsOfParts) where
    -- by a test
    either : (s : State) (b : Bool) (p q : Response) → (b ≡ true → Holds s p) → (b ≡ false → Holds s q) → Holds s (cond b p q)
    either s true p q yes' no' = yes' refl
    either s false p q yes' no' = no' refl

    -- a code is asked
    replied : (s : State) (code : Checked) (entry : Entry) (next : Answer → State → Response) (r : Result Outcome Stop) → OfPlan code → (attempt code.code entry s.board).0 ≡ r
        → ((answer : Answer) (t : State) → Holds t (next answer t)) → Holds s (upon (reply_by r) next (with_board s (attempt code.code entry s.board).1))
    replied s code entry next (Ok o) of is goes =
        let board = (attempt code.code entry s.board).1 in
        parts.went_on s code entry (next o.answer (with_board s board)) of (goes o.answer (with_board s board))
    replied s code entry next (Err stop) of is goes = parts.stopped s code entry stop of is

    asks : (s : State) (code : Checked) (entry : Entry) (next : Answer → State → Response) → OfPlan code → ((answer : Answer) (t : State) → Holds t (next answer t)) → Holds s (asking code.code entry next s)
    asks s code entry next of goes = replied s code entry next (attempt code.code entry s.board).0 of refl goes

    -- what is pending of a source
    obviates : (a : Activation) (answer : Answer) (t : State) → Holds t (obviated_by a answer t)
    obviates a answers.Yes t = parts.obviated t a.number
    obviates a answers.No t = parts.nothing t
    obviates a answers.Done t = parts.nothing t
    obviates a answers.Declined t = parts.nothing t
    obviates a (answers.Rated base) t = parts.nothing t

    rerates : (a : Activation) (answer : Answer) (t : State) → Holds t (rerated_by a answer t)
    rerates a (answers.Rated base) t = parts.rebased t a.number base
    rerates a answers.Yes t = parts.nothing t
    rerates a answers.No t = parts.nothing t
    rerates a answers.Done t = parts.nothing t
    rerates a answers.Declined t = parts.nothing t

    module _ (event : Event) (by : Activation → Answer → State → Response) (reacts : (a : Activation) (answer : Answer) (t : State) → Holds t (by a answer t)) where
      reacts_each : (reaction : Reaction) (items : List Activation) (s : State) → OfPlan reaction.code → Holds s (reacting_to_each event by reaction items s)
      unfolding reacting_to_each
      reacts_each reaction [] s of = parts.nothing s
      reacts_each reaction (a ∷ more) s of =
          let r = reacting_to event by reaction a s in
          parts.further s r (reacting_to_each event by reaction more) (asks s reaction.code (entry_of a.unit (Some (unit_of event))) (by a) of (reacts a)) (reacts_each reaction more r.state of)

      reacts_if : (place : ℕ) (reaction : Option Reaction) (s : State) → ((x : Reaction) → reaction ≡ Some x → OfPlan x.code) → Holds s (reacting plan.schema event place by reaction s)
      reacts_if place None s of = parts.nothing s
      reacts_if place (Some reaction) s of =
          either s (any_match plan.schema reaction.clauses event) (reacting_to_each event by reaction (pending_for s.agenda place) s) (idle s)
          (λ is. reacts_each reaction (pending_for s.agenda place) s (of reaction refl)) (λ not. parts.nothing s)

    -- what triggers a source
    activates : (event : Event) (place : ℕ) (base : ℤ) (s : State) → place < length plan.sources → Holds s (activating event place base s)
    activates event place base s under =
        either s (is_full s.agenda) (over finishes.Full s)
        (emitting (Triggered (new_activation s.agenda place (unit_of event) base) ∷ []) (with_agenda s (with_activation s.agenda place (unit_of event) base)) None)
        (parts.full s) (λ room. parts.triggered s place (unit_of event) base under room)

    requires_by : (event : Event) (place : ℕ) → place < length plan.sources → (answer : Answer) (t : State) → Holds t (required_by event place answer t)
    requires_by event place under (answers.Rated base) t = activates event place base t under
    requires_by event place under answers.Declined t = parts.declined t place (unit_of event)
    requires_by event place under answers.Yes t = parts.declined t place (unit_of event)
    requires_by event place under answers.No t = parts.declined t place (unit_of event)
    requires_by event place under answers.Done t = parts.declined t place (unit_of event)

    triggers : (event : Event) (place : ℕ) (rate : ℤ) (code : Option Checked) (s : State) → place < length plan.sources → ((x : Checked) → code ≡ Some x → OfPlan x) → Holds s (triggering event place rate code s)
    triggers event place rate None s under of = activates event place rate s under
    triggers event place rate (Some code) s under of = asks s code (entry_of (unit_of event) None) (required_by event place) (of code refl) (requires_by event place under)

    -- sources in order
    source_responds : (event : Event) (place : ℕ) (source : Source) (s : State) → place < length plan.sources → Contains plan.sources source → Holds s (source_response plan.schema event place source s)
    source_responds event place source s under there =
        let first = reacting plan.schema event place obviated_by source.obviate s in
        let second = reacting plan.schema event place rerated_by source.retrigger first.state in
        parts.further s first (λ t. and_then (reacting plan.schema event place rerated_by source.retrigger t) (if_triggered plan.schema event place source))
        (reacts_if event obviated_by obviates place source.obviate s (λ x is. (source, there, inr (inr (inl (ap (option_map code_of) is))))))
        (parts.further first.state second (if_triggered plan.schema event place source)
        (reacts_if event rerated_by rerates place source.retrigger first.state (λ x is. (source, there, inr (inr (inr (ap (option_map code_of) is))))))
        (either second.state (any_match plan.schema source.triggers event) (triggering event place source.rate source.require second.state) (idle second.state)
        (λ is. triggers event place source.rate source.require second.state under (λ x same. (source, there, inl same))) (λ not. parts.nothing second.state)))

    responds_by : (event : Event) (place : ℕ) (sources : List Source) (s : State) → place + length sources ≡ length plan.sources → All (Contains plan.sources) sources → Holds s (response_by plan.schema event place sources s)
    unfolding response_by
    responds_by event place [] s count all = parts.nothing s
    responds_by event place (source ∷ more) s count all =
        let r = source_response plan.schema event place source s in
        let left : place + 1 + length more ≡ length plan.sources = omega (arith, count) in
        let under : place < length plan.sources = omega (arith, count) in
        parts.further s r (response_by plan.schema event (place + 1) more) (source_responds event place source s under (All-head (Contains plan.sources) source more all))
        (responds_by event (place + 1) more r.state left (All-tail (Contains plan.sources) source more all))

    pub holds : (event : Event) (s : State) → Holds s (response plan event s)
    holds event s = responds_by event 0 plan.sources s (omega arith) (All-contains_itself plan.sources)
