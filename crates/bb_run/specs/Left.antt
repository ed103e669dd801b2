-- The state that a run leaves.
use Rattle.std.specs.Prelude.{◌≤◌, length}
use Rattle.bb_agenda.specs.Agenda.{pending_of}
use Rattle.bb_trace.specs.Board.{Board as Blackboard}
use Rattle.bb_run_plan.specs.Plan.{Plan}
use Rattle.bb_run.specs.State.{State}
use Rattle.bb_run.specs.Reads.{AsksByReading}
use Rattle.bb_run.specs.Unstuck.{FitsPlan, IsReady, IsWellMade}
use Rattle.bb_run.specs.Weighed.{KnowsFoci, NumbersGiven}

-- a run that began on this blackboard leaves this state; since choices are made in such states, this holds at each
-- choice too
pub record IsLeft (plan : Plan) (board : Blackboard) (s : State) : Type 0 where
  -- at most the maximum number of activations are pending
  pub few : length (pending_of s.agenda) ≤ 65536
  -- the agenda was told the foci that the blackboard now has, if what sources are asked only reads
  pub foci : AsksByReading plan → NumbersGiven board → KnowsFoci plan s
  -- the blackboard fits, and pending activations suit their sources, if the sources are well made for the first
  -- blackboard
  pub ready : IsWellMade plan → FitsPlan plan board → IsReady plan s
