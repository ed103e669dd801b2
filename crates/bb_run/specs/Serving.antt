-- What the code of a run needs so that every code is executed for units that fit its part.
use Rattle.std.specs.Prelude.{◌≡◌, All, List, Some}
use Rattle.bb_verify.specs.Accepted.{Checked}
use Rattle.bb_machine.specs.declared.outcome.Entry.{Entry}
use Rattle.bb_theorem_machine.specs.NeverWrong.{Begins}
use Rattle.bb_agenda.specs.declared.focusing.activation.Activation.{Activation}
use Rattle.bb_agenda.specs.Agenda.{pending_of}
use Rattle.bb_trace.specs.Board.{Board as Blackboard}
use Rattle.bb_trace.specs.Event.{Event}
use Rattle.bb_trace.specs.Events.{unit_of}
use Rattle.bb_rules.specs.Law.{IsMade}
use Rattle.bb_rules.specs.declared.source.Reaction.{Reaction}
use Rattle.bb_run_plan.specs.Plan.{Plan}
use Rattle.bb_run.specs.Asking.{entry_of}
use Rattle.bb_run.specs.Knowing.{Knows}
use Rattle.bb_run.specs.State.{State}
use Rattle.bb_run.specs.Unstuck.{FitsPlan, IsReady, IsReadyFor, IsWellMade, SuitsSource}
use Rattle.bb_run.specs.Weighed.{KnowsFoci}

-- a code is executed for an entry that fits its part
abbrev pub CanExecute : Checked → Entry → Blackboard → Type 0
CanExecute code entry board = Begins code.part code.frames code.code entry board

-- a reaction can be asked about an activation at an event
abbrev pub ReactsTo : Reaction → Event → Blackboard → Activation → Type 0
ReactsTo reaction event board a = CanExecute reaction.code (entry_of a.unit (Some (unit_of event))) board

-- a reaction can be asked about every one of these activations at an event
abbrev pub ReactsToAll : Reaction → Event → Blackboard → List Activation → Type 0
ReactsToAll reaction event board items = All (ReactsTo reaction event board) items

-- the sources were made under the plan's schema, and the state is ready
pub record Serves (plan : Plan) (s : State) : Type 0 where
  pub sound : IsWellMade plan
  pub ready : IsReady plan s

-- the same, and the event is one of the state's blackboard
pub record ServesAt (plan : Plan) (event : Event) (s : State) : Type 0 where
  pub sound : IsWellMade plan
  pub ready : IsReadyFor plan (event, s)

-- the sources were made under the plan's schema, and a run may begin with the blackboard
pub record MayServe (plan : Plan) (board : Blackboard) : Type 0 where
  pub sound : IsWellMade plan
  pub fits : FitsPlan plan board

-- what holds between two parts of a run: the agenda knows the foci, and every code has units that fit its part
pub record IsSteady (plan : Plan) (s : State) : Type 0 where
  pub knows : Knows plan s
  pub serves : Serves plan s

-- the part of it that does not follow from the invariants of schema, plan and blackboard
pub record Lasts (plan : Plan) (s : State) : Type 0 where
  pub made : ∥ All (IsMade plan.schema) plan.sources ∥₁
  pub schema : s.board.schema ≡ plan.schema
  pub waiting : All (SuitsSource plan s.board) (pending_of s.agenda)
  pub foci : KnowsFoci plan s
