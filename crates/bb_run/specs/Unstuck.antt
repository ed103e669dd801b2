-- Why no run is stuck: every execution begins with units that fit its part.
use Rattle.std.specs.Prelude.{◌≡◌, ◌⊎◌, ◌≤◌, ⊤, true, All, Contains, slice_get, Option, Some, None}
use Rattle.bb_schema.specs.Schema.{Schema}
use Rattle.bb_schema.specs.Fits as schemas
use Rattle.bb_verify.specs.Accepted.{Checked}
use Rattle.bb_theorem_machine.specs.Fits.{Fits, is_event_of}
use Rattle.bb_theorem_machine.specs.Kinds.{WasOf}
use Rattle.bb_theorem_machine.specs.NeverWrong.{Begins}
use Rattle.bb_agenda.specs.declared.focusing.activation.Activation.{Activation}
use Rattle.bb_agenda.specs.Agenda.{pending_of}
use Rattle.bb_rules.specs.declared.source.Act.TheVariants as acts
use Rattle.bb_trace.specs.Board.{Board as Blackboard}
use Rattle.bb_trace.specs.Event.{Event}
use Rattle.bb_trace.specs.Events.{unit_of}
use Rattle.bb_rules.specs.Law.{HasSoundCodes, IsMade}
use Rattle.bb_rules.specs.Match.{any_match}
use Rattle.bb_rules.specs.declared.source.Reaction.{Reaction}
use Rattle.bb_rules.specs.Parts.{Source}
use Rattle.bb_trace.specs.End.{End}
use Rattle.bb_trace.specs.End as ends
use Rattle.bb_trace.specs.declared.note.Note.{Note}
use Rattle.bb_trace.specs.declared.note.Note.TheVariants.{Ended}
use Rattle.bb_run_plan.specs.Plan.{Plan}
use Rattle.bb_run.specs.State.{State}
use Rattle.bb_run.specs.Asking.{entry_of}
use Rattle.bb_run.specs.Emission.{Stretch}
use Rattle.bb_run.specs.Executed.{upon_choice}
use Rattle.bb_run.specs.Order.{notes_of}
use Rattle.bb_run.specs.Processing.{events_in, response}

-- ---- what a run needs

-- the sources of a plan were made under its schema, from sound codes
pub record IsWellMade (plan : Plan) : Type 0 where
  pub schema : schemas.Fits plan.schema
  pub made : All (IsMade plan.schema) plan.sources
  pub codes : All HasSoundCodes plan.sources

-- the blackboard has the plan's schema and fits it
pub record FitsPlan (plan : Plan) (board : Blackboard) : Type 0 where
  pub schema : board.schema ≡ plan.schema
  pub world : Fits plan.schema board.world

-- ---- invariants

-- the activation's unit was created with its source's class, or is that of quiescence
abbrev pub SuitsSource : Plan → Blackboard → Activation → Type 0
SuitsSource plan board a =
    (source : Source) → slice_get plan.sources a.source ≡ Some source
    → WasOf plan.schema board.world source.class a.unit

-- the blackboard fits, and every pending activation suits its source
pub record IsReady (plan : Plan) (s : State) : Type 0 where
  pub board : FitsPlan plan s.board
  pub waiting : All (SuitsSource plan s.board) (pending_of s.agenda)

-- what is executed for a chosen activation begins with units that fit its part: its source's act, and the revalidation
abbrev pub BeginsFor : Plan → State → Activation → Type 0
BeginsFor plan s a =
    (source : Source) (code : Checked) → slice_get plan.sources a.source ≡ Some source
    → (source.act ≡ acts.Code code) ⊎ (source.revalidate ≡ Some code)
    → Begins code.part code.frames code.code (entry_of a.unit None) s.board

-- an event belongs to a blackboard: its unit was created, and has its class if it is live; or the event is quiescence
abbrev pub IsEventOf : Schema → Blackboard → Event → Type 0
IsEventOf s board event = is_event_of s board.world.units event ≡ true

-- an event is processed in a ready state, and belongs to its blackboard
abbrev pub IsReadyFor : Plan → Event × State → Type 0
IsReadyFor plan visit = IsReady plan visit.1 × IsEventOf plan.schema visit.1.board visit.0

-- every code that is executed in a state begins with units that fit its part
pub record BeginsEach (plan : Plan) (s : State) : Type 0 where
  -- what is executed for a pending activation
  pub act : (a : Activation) → Contains (pending_of s.agenda) a → BeginsFor plan s a
  -- that leaves a ready state, and the events that it emits belong to its blackboard
  pub leaves : (a : Activation) (source : Source) → Contains (pending_of s.agenda) a
      → slice_get plan.sources a.source ≡ Some source → let r = upon_choice source a s in
      IsReady plan r.state × All (IsEventOf plan.schema r.state.board) (events_in r.emitted)
  -- the requirement of a source that an event of the blackboard triggers
  pub require : (event : Event) (source : Source) (code : Checked) → IsEventOf plan.schema s.board event
      → Contains plan.sources source → source.require ≡ Some code
      → any_match plan.schema source.triggers event ≡ true
      → Begins code.part code.frames code.code (entry_of (unit_of event) None) s.board
  -- a reaction of a source to such an event, about any of its pending activations
  pub react : (event : Event) (source : Source) (reaction : Reaction) (a : Activation)
      → IsEventOf plan.schema s.board event → Contains (pending_of s.agenda) a
      → slice_get plan.sources a.source ≡ Some source
      → (source.obviate ≡ Some reaction) ⊎ (source.retrigger ≡ Some reaction)
      → any_match plan.schema reaction.clauses event ≡ true
      → Begins reaction.code.part reaction.code.frames reaction.code.code (entry_of a.unit (Some (unit_of event)))
      s.board
  -- the response to such an event leaves a ready state
  pub answers : (event : Event) → IsEventOf plan.schema s.board event → IsReady plan (response plan event s).state

-- ---- consequences

-- a run does not end stuck
abbrev pub NotStuck : Option End → Type 0
NotStuck (Some (ends.Stuck reason)) = ⊥
NotStuck _ = ⊤

-- a run does not end with a native due
abbrev pub NotDue : Option End → Type 0
NotDue (Some (ends.Due a)) = ⊥
NotDue _ = ⊤

-- an execution made no more steps than the budget on its line
abbrev pub KeepsBudget : Note → Type 0
KeepsBudget (Ended steps found budget) = steps ≤ budget
KeepsBudget _ = ⊤

-- a run of well-made sources, on a blackboard that fits them
pub record IsUnstuck (run : Stretch) : Type 0 where
  -- it does not end stuck
  pub end : NotStuck run.end
  -- no execution in it makes more steps than the budget on its line
  pub budgets : All KeepsBudget (notes_of run)
