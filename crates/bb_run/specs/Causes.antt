-- Why a run ends full or stuck, or with a native due.
use Rattle.std.specs.Prelude.{◌≡◌, ◌⊎◌, ◌≤◌, ◌-◌, ◌^◌, ℕ, ⊤, true, Contains, List, length, Option, Some, None, Err, option_map}
use Rattle.std.specs.Prelude.{slice_get}
use Rattle.bb_agenda.specs.declared.focusing.activation.Activation.{Activation}
use Rattle.bb_agenda.specs.Agenda.{Agenda, pending_of}
use Rattle.bb_verify.specs.Accepted.{Checked}
use Rattle.bb_machine.specs.declared.outcome.Entry.{Entry}
use Rattle.bb_machine.specs.declared.outcome.Stop.{Stop}
use Rattle.bb_machine.specs.declared.outcome.Stop.TheVariants as stops
use Rattle.bb_machine.specs.declared.outcome.Stuck.{Stuck}
use Rattle.bb_theorem_machine.specs.Units.{is_full as no_unit_left}
use Rattle.bb_rules.specs.declared.source.Act.TheVariants as acts
use Rattle.bb_trace.specs.Applied.{applied}
use Rattle.bb_trace.specs.Ask.{Ask}
use Rattle.bb_trace.specs.Denial.TheVariants as denials
use Rattle.bb_trace.specs.Native.{Native}
use Rattle.bb_trace.specs.Roster.{after_act_at, asks_at, place_of}
use Rattle.bb_trace.specs.Sight.{Sight}
use Rattle.bb_trace.specs.Board.{Board as Blackboard, with_world}
use Rattle.bb_trace.specs.World.{after_take}
use Rattle.bb_rules.specs.declared.source.Reaction.{Reaction}
use Rattle.bb_rules.specs.Parts.{Source}
use Rattle.bb_trace.specs.End.{End}
use Rattle.bb_trace.specs.End as ends
use Rattle.bb_run_plan.specs.Plan.{Plan}
use Rattle.bb_run.specs.State.{State}
use Rattle.bb_run.specs.Asking.{attempt}

-- the code of a reaction
abbrev pub code_of : Reaction → Checked
code_of reaction = reaction.code

-- the source asks the code about an event or an activation
abbrev pub IsAsked : Source → Checked → Type 0
IsAsked source code =
    (source.require ≡ Some code) ⊎ ((source.revalidate ≡ Some code)
    ⊎ ((option_map code_of source.obviate ≡ Some code) ⊎ (option_map code_of source.retrigger ≡ Some code)))

-- the code is one of the source's: its act, or one that it asks
abbrev pub IsPart : Source → Checked → Type 0
IsPart source code = (source.act ≡ acts.Code code) ⊎ IsAsked source code

-- an execution of a code of a source stopped in this way, and left this blackboard
pub record WasStopped (plan : Plan) (board : Blackboard) (stop : Stop) : Type 0 where
  pub source : Source
  pub one : Contains plan.sources source
  pub code : Checked
  pub part : IsPart source code
  pub entry : Entry
  pub before : Blackboard
  pub came : (attempt code.code entry before).0 ≡ Err stop
  -- if the code is an act, its notes are taken
  pub left : let after = (attempt code.code entry before).1 in
      (board ≡ after) ⊎ (board ≡ with_world after (after_take after.world))

-- a native asked, for a source, for a unit, and no unit can be created
pub record WasDenied (plan : Plan) (s : State) : Type 0 where
  pub source : Source
  pub one : Contains plan.sources source
  pub native : source.act ≡ acts.Native
  -- the natives before the call, and the place of the one that was called
  pub before : List Native
  pub place : ℕ
  pub place_is : place_of before source.name ≡ Some place
  pub unit : ℕ
  pub seen : Sight
  pub after : s.natives ≡ after_act_at before place unit seen
  pub ask : Ask
  pub asked : Contains (asks_at before place unit seen) ask
  pub came : applied ask s.board ≡ Err denials.Full

-- a source has a native for its act, and there is none of its name
abbrev pub LacksNative : Plan → List Native → Type 0
LacksNative plan natives =
    (source : Source) × Contains plan.sources source × (source.act ≡ acts.Native)
    × (place_of natives source.name ≡ None)

-- the source of an activation has a native for its act, and there is none of its name
abbrev pub LacksNativeFor : Plan → List Native → Activation → Type 0
LacksNativeFor plan natives a =
    (source : Source) × (slice_get plan.sources a.source ≡ Some source) × (source.act ≡ acts.Native)
    × (place_of natives source.name ≡ None)

-- the maximum number of activations are pending, or the last number was given
abbrev pub IsFull : Agenda → Type 0
IsFull agenda = (65536 ≤ length (pending_of agenda)) ⊎ (2 ^ 63 - 1 ≤ length agenda.given)

-- why a run ends in this state
pub data Cause (plan : Plan) (s : State) : End → Type 0 where
  -- the run is full: its agenda is full
  of_agenda : IsFull s.agenda → Cause plan s ends.Full
  -- the run is full: no unit can be created, and its last execution was stopped for that
  of_units : (steps found : ℕ) → WasStopped plan s.board (stops.Full steps found)
      → no_unit_left s.board.world.units ≡ true → Cause plan s ends.Full
  -- the run is full: no unit can be created, and a native asked for one
  of_ask : WasDenied plan s → no_unit_left s.board.world.units ≡ true → Cause plan s ends.Full
  -- the run is stuck: its last execution was stuck
  of_execution : (reason : Stuck) (steps found : ℕ) → WasStopped plan s.board (stops.Stuck reason steps found)
      → Cause plan s (ends.Stuck reason)
  -- a native is due: none of its name was handed in
  of_native : (a : Activation) → LacksNativeFor plan s.natives a → Cause plan s (ends.Due a)

-- a run that ends full or stuck, or with a native due, has a cause
abbrev pub HasCause : Plan → State → Option End → Type 0
HasCause plan s (Some ends.Full) = Cause plan s ends.Full
HasCause plan s (Some (ends.Due a)) = Cause plan s (ends.Due a)
HasCause plan s (Some (ends.Stuck reason)) = Cause plan s (ends.Stuck reason)
HasCause plan s _ = ⊤
