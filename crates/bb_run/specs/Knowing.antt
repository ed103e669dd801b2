-- What the code of a run needs to rate by the foci of the blackboard.
use Rattle.bb_trace.specs.Board.{Board as Blackboard}
use Rattle.bb_run_plan.specs.Plan.{Plan}
use Rattle.bb_run.specs.State.{State}
use Rattle.bb_run.specs.Reads.{AsksByReading}
use Rattle.bb_run.specs.Weighed.{KnowsFoci, NumbersGiven}

-- the agenda knows the foci, and will continue to, since what sources ask only reads
pub record Knows (plan : Plan) (s : State) : Type 0 where
  pub reading : AsksByReading plan
  pub foci : KnowsFoci plan s

-- the agenda will know the foci once it was told all units of this blackboard
pub record MayKnow (plan : Plan) (board : Blackboard) : Type 0 where
  pub reading : AsksByReading plan
  pub given : NumbersGiven board
