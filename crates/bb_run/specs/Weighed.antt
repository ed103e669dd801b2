-- The agenda has the blackboard's foci, so it rates by them.
use Rattle.std.specs.Prelude.{◌≡◌, ◌<◌, ℕ, true, []}
use Rattle.std.specs.FinMap.{get}
use Rattle.bb_theorem_machine.specs.Units.{is_live}
use Rattle.bb_trace.specs.Board.{Board as Blackboard}
use Rattle.bb_run_plan.specs.Plan.{Plan}
use Rattle.bb_run.specs.State.{State}
use Rattle.bb_run_plan.specs.Foci.{focus_of, setting_of}

-- the agenda has the foci of the blackboard, and no others
pub record KnowsFoci (plan : Plan) (s : State) : Type 0 where
  -- the blackboard's notes were taken
  pub taken : s.board.world.notes ≡ []
  -- the agenda has, for every unit, the focus that it is, and none if it is not a focus
  pub each : (n : ℕ) → get s.agenda.foci n ≡ focus_of s.board.schema s.board.world.units n
  -- the agenda matches foci with the sources of the plan
  pub setting : s.agenda.setting ≡ setting_of plan

-- every live number was given out; this holds of a blackboard that fits
abbrev pub NumbersGiven : Blackboard → Type 0
NumbersGiven board = (n : ℕ) → is_live board.world.units n ≡ true → n < board.world.units.next
