-- What the sources emit in response to events, by what was emitted before, the clauses of the plan, and what codes
-- answer on a blackboard. If a code comes to no answer, `None` marks what is not emitted, and the run is over.
use Rattle.std.specs.Prelude.{ℕ, ◌+◌, ℤ, List, [], ◌∷◌, ◌++◌, length, filter, Option, Some, None, Result, Ok, Err}
use Rattle.std.specs.Prelude.{if◌then◌else◌}
use Rattle.std.specs.List.{filter_map, flat_map}
use Rattle.bb_agenda.specs.declared.focusing.activation.Activation.{Activation}
use Rattle.bb_agenda.specs.Agenda.{is_of}
use Rattle.bb_machine.specs.declared.outcome.Answer.{Answer}
use Rattle.bb_machine.specs.declared.outcome.Answer.TheVariants.{Rated, Yes}
use Rattle.bb_machine.specs.declared.outcome.Entry.{Entry}
use Rattle.bb_machine.specs.declared.outcome.Outcome.{Outcome}
use Rattle.bb_machine.specs.declared.outcome.Stop.{Stop}
use Rattle.bb_trace.specs.Board.{Board as Blackboard}
use Rattle.bb_trace.specs.Event.{Event}
use Rattle.bb_trace.specs.Events.{unit_of}
use Rattle.bb_rules.specs.Match.{any_match}
use Rattle.bb_rules.specs.declared.source.Reaction.{Reaction}
use Rattle.bb_rules.specs.Parts.{Source}
use Rattle.bb_trace.specs.declared.note.Note.{Note}
use Rattle.bb_trace.specs.declared.note.Note.TheVariants.{Triggered, Declined, Obviated, Retriggered}
use Rattle.bb_verify.specs.Accepted.{Checked}
use Rattle.bb_run_plan.specs.Plan.{Plan}
use Rattle.bb_run.specs.Asking.{attempt, entry_of}
use Rattle.bb_run.specs.Order.{pending_after, triggered_in}

-- ---- what a code answers

-- the answer of an execution, if it came to one
abbrev pub answer_in : Result Outcome Stop → Option Answer
answer_in (Ok o) = Some o.answer
answer_in (Err stop) = None

-- what a code answers for an entry on a blackboard, if it comes to an answer
abbrev pub answer_of : Checked → Entry → Blackboard → Option Answer
answer_of code entry board = answer_in (attempt code.code entry board).0

-- ---- a pending activation

-- what is pending for the source at a place, after these notes
abbrev pub waiting_for : (past : List Note) → (place : ℕ) → List Activation
waiting_for past place = filter (is_of place) (pending_after past)

-- it is obviated if the answer is yes
abbrev pub if_yes : Activation → Option Answer → List (Option Note)
if_yes a (Some Yes) = Some (Obviated a.number) ∷ []
if_yes a (Some _) = []
if_yes a None = None ∷ []

-- it gets another base if the answer is a rating
abbrev pub if_rated : Activation → Option Answer → List (Option Note)
if_rated a (Some (Rated base)) = Some (Retriggered a.number base) ∷ []
if_rated a (Some _) = []
if_rated a None = None ∷ []

-- a reaction is asked about every pending activation, for its unit and the event's
abbrev pub told_about_each :
    Blackboard → Event → (Activation → Option Answer → List (Option Note)) → Reaction → (waiting : List Activation)
    → List (Option Note)
told_about_each board event by reaction waiting =
    flat_map (λ a. by a (answer_of reaction.code (entry_of a.unit (Some (unit_of event))) board)) waiting

-- the same, if there is a reaction and its clauses name the event
abbrev pub reacts :
    Plan → Blackboard → Event → (Activation → Option Answer → List (Option Note)) → Option Reaction → List Activation
    → List (Option Note)
reacts plan board event by None waiting = []
reacts plan board event by (Some reaction) waiting =
    if any_match plan.schema reaction.clauses event then told_about_each board event by reaction waiting else []

-- ---- a source that an event triggers

-- it gets the next activation, with this base
abbrev pub gets : Event → (place : ℕ) → (base : ℤ) → (past : List Note) → List (Option Note)
gets event place base past =
    Some (Triggered
    (record { number = length (triggered_in past) + 1; source = place; unit = unit_of event; base = base })) ∷ []

-- it gets one with the base that its requirement rates; with any other answer it declines
abbrev pub gets_if_rated : Event → (place : ℕ) → Option Answer → (past : List Note) → List (Option Note)
gets_if_rated event place (Some (Rated base)) past = gets event place base past
gets_if_rated event place (Some _) past = Some (Declined place (unit_of event)) ∷ []
gets_if_rated event place None past = None ∷ []

-- it gets one with its rate if it requires nothing
abbrev pub gets_by :
    Blackboard → Event → (place : ℕ) → (rate : ℤ) → Option Checked → (past : List Note) → List (Option Note)
gets_by board event place rate None past = gets event place rate past
gets_by board event place rate (Some code) past =
    gets_if_rated event place (answer_of code (entry_of (unit_of event) None) board) past

-- the same, if at least one of its clauses names the event
abbrev pub triggers : Plan → Blackboard → Event → (place : ℕ) → Source → (past : List Note) → List (Option Note)
triggers plan board event place source past =
    if any_match plan.schema source.triggers event then gets_by board event place source.rate source.require past
    else []

-- ---- all responses

-- the notes among these
abbrev pub known : List (Option Note) → List Note
known all = filter_map (λ note. note) all

-- notes, followed by what comes after them
abbrev pub and_after :
    (past : List Note) → (first : List (Option Note)) → (List Note → List (Option Note)) → List (Option Note)
and_after past first next = first ++ next (past ++ known first)

-- the source at a place: its pending activations are obviated, those still pending get another base, and then it is
-- triggered
abbrev pub responses_of :
    Plan → Blackboard → Event → (place : ℕ) → Source → (past : List Note) → List (Option Note)
responses_of plan board event place source past =
    and_after past (reacts plan board event if_yes source.obviate (waiting_for past place))
    (λ later. and_after later (reacts plan board event if_rated source.retrigger (waiting_for later place))
    (triggers plan board event place source))

-- the sources from a place on, in order
abbrev pub responses_from :
    Plan → Blackboard → Event → (place : ℕ) → List Source → (past : List Note) → List (Option Note)
responses_from plan board event place [] past = []
responses_from plan board event place (source ∷ more) past =
    and_after past (responses_of plan board event place source past) (responses_from plan board event (place + 1) more)

-- the responses to events, in order: all sources respond to the first, and then to the next
abbrev pub responses : Plan → Blackboard → List Event → (past : List Note) → List (Option Note)
responses plan board [] past = []
responses plan board (event ∷ events) past =
    and_after past (responses_from plan board event 0 plan.sources past) (responses plan board events)
