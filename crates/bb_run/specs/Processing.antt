-- The response to an event (GBBopen Agenda Shell): each source in order obviates and retriggers its pending
-- activations, and is triggered.
use Rattle.std.specs.Prelude.{ℕ, ◌+◌, ℤ, List, [], ◌∷◌, Option, Some, None, if◌then◌else◌}
use Rattle.std.specs.List.{flat_map}
use Rattle.bb_schema.specs.Schema.{Schema}
use Rattle.bb_trace.specs.Event.{Event}
use Rattle.bb_trace.specs.BoardNote.TheVariants.{Event as happened}
use Rattle.bb_trace.specs.Events.{unit_of}
use Rattle.bb_agenda.specs.declared.focusing.activation.Activation.{Activation}
use Rattle.bb_agenda.specs.Agenda.{is_full, pending_for}
use Rattle.bb_agenda.specs.Changes.{new_activation, with_activation, with_base, with_obviated}
use Rattle.bb_machine.specs.declared.outcome.Answer.{Answer}
use Rattle.bb_machine.specs.declared.outcome.Answer.TheVariants.{Rated, Yes}
use Rattle.bb_verify.specs.Accepted.{Checked}
use Rattle.bb_rules.specs.declared.source.Reaction.{Reaction}
use Rattle.bb_rules.specs.Parts.{Source}
use Rattle.bb_rules.specs.Match.{any_match}
use Rattle.bb_trace.specs.End.{Full}
use Rattle.bb_trace.specs.declared.note.Note.{Note}
use Rattle.bb_trace.specs.declared.note.Note.TheVariants as notes
use Rattle.bb_run_plan.specs.Plan.{Plan}
use Rattle.bb_run.specs.State.{State, with_agenda}
use Rattle.bb_run.specs.Emission.{Response, Stretch, emitting, idle, over, and_then, segment}
use Rattle.bb_run.specs.Asking.{asking, entry_of}

-- ---- what a source does about its pending activations

-- a yes makes a pending activation needless
abbrev pub obviated_by : Activation → Answer → State → Response
obviated_by a Yes s = emitting (notes.Obviated a.number ∷ []) (with_agenda s (with_obviated s.agenda a.number)) None
obviated_by a _ s = idle s

-- a rating becomes the base of a pending activation
abbrev pub rerated_by : Activation → Answer → State → Response
rerated_by a (Rated base) s =
    emitting (notes.Retriggered a.number base ∷ []) (with_agenda s (with_base s.agenda a.number base)) None
rerated_by a _ s = idle s

-- the code of a reaction is asked about a pending activation
abbrev pub reacting_to : Event → (Activation → Answer → State → Response) → Reaction → Activation → State → Response
reacting_to event by reaction a s = asking reaction.code.code (entry_of a.unit (Some (unit_of event))) (by a) s

-- the code of a reaction is asked about every one of these pending activations, in order
unfoldable pub reacting_to_each :
    Event → (Activation → Answer → State → Response) → Reaction → List Activation → State → Response
reacting_to_each event by reaction [] s = idle s
reacting_to_each event by reaction (a ∷ more) s =
    and_then (reacting_to event by reaction a s) (reacting_to_each event by reaction more)

-- a reaction to every pending activation of the source at a place, if there is a reaction and its clauses name the
-- event
abbrev pub reacting : Schema → Event → ℕ → (Activation → Answer → State → Response) → Option Reaction → State → Response
reacting schema event place by None s = idle s
reacting schema event place by (Some reaction) s =
    if any_match schema reaction.clauses event
    then reacting_to_each event by reaction (pending_for s.agenda place) s else idle s

-- ---- what triggers a source

-- the source at a place gets an activation for an event, with this base; if the agenda is full, the run is over
abbrev pub activating : Event → ℕ → ℤ → State → Response
activating event place base s =
    if is_full s.agenda then over Full s
    else emitting (notes.Triggered (new_activation s.agenda place (unit_of event) base) ∷ [])
    (with_agenda s (with_activation s.agenda place (unit_of event) base)) None

-- an answer that is a rating makes an activation with this base; with any other answer the source declines
abbrev pub required_by : Event → ℕ → Answer → State → Response
required_by event place (Rated base) s = activating event place base s
required_by event place _ s = emitting (notes.Declined place (unit_of event) ∷ []) s None

-- a source that is triggered asks its requirement, if it has one
abbrev pub triggering : Event → ℕ → ℤ → Option Checked → State → Response
triggering event place rate None s = activating event place rate s
triggering event place rate (Some code) s =
    asking code.code (entry_of (unit_of event) None) (required_by event place) s

-- a source is triggered if at least one of its clauses names the event
abbrev pub if_triggered : Schema → Event → ℕ → Source → State → Response
if_triggered schema event place source s =
    if any_match schema source.triggers event then triggering event place source.rate source.require s else idle s

-- ---- sources in order

-- the source at a place first obviates, then retriggers, then is triggered
abbrev pub source_response : Schema → Event → ℕ → Source → State → Response
source_response schema event place source s =
    and_then (reacting schema event place obviated_by source.obviate s)
    (λ t. and_then (reacting schema event place rerated_by source.retrigger t) (if_triggered schema event place source))

-- the response of the sources from this place on, in order
unfoldable pub response_by : Schema → Event → ℕ → List Source → State → Response
response_by schema event place [] s = idle s
response_by schema event place (source ∷ sources) s =
    and_then (source_response schema event place source s) (response_by schema event (place + 1) sources)

-- the response of all sources
abbrev pub response : Plan → Event → State → Response
response plan event s = response_by plan.schema event 0 plan.sources s

-- the processing of an event is emitted as one segment
abbrev pub processing : Plan → Event → State → Stretch
processing plan event s = segment (response plan event s)

-- the processing of events in order, one segment each
unfoldable pub processing_all : Plan → List Event → State → Stretch
processing_all plan [] s = idle s
processing_all plan (event ∷ events) s = and_then (processing plan event s) (processing_all plan events)

-- the event of a note, if it has one
abbrev pub event_in : Note → List Event
event_in (notes.Board (happened event)) = event ∷ []
event_in _ = []

-- the events of notes, in order
abbrev pub events_in : List Note → List Event
events_in emitted = flat_map event_in emitted

-- a response is emitted, and then its events are processed
abbrev pub reported : Plan → Response → Stretch
reported plan r = and_then (segment r) (processing_all plan (events_in r.emitted))
