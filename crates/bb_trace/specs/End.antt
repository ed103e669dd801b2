-- How a run of the definitions ends, or why it returns to its host. Runs of the code end in all of these ways but the
-- last (`End` of src/).
use Rattle.bb_agenda.specs.declared.focusing.activation.Activation.{Activation}
use Rattle.bb_machine.specs.declared.outcome.Stuck.{Stuck as Reason}

pub data End : Type 0 where
  -- nothing can be chosen, and quiescence changed nothing
  Quiescence : End
  -- the limit of cycles was reached, and something can still be chosen
  Limit : End
  -- the blackboard or the agenda is full
  Full : End
  -- this activation was chosen, and its source acts by a native that was not handed in
  Due : Activation → End
  -- an execution was stuck
  Stuck : Reason → End
