-- What a code of a source answers, and how the run ends if it comes to no answer.
use Rattle.std.specs.Prelude.{ℕ, Option, Result, Ok, Err}
use Rattle.bb_trace.specs.Board.{Board as Blackboard}
use Rattle.bb_code.specs.Code.{Code}
use Rattle.bb_verify.specs.Budget.{budget}
use Rattle.bb_verify.specs.declared.checked.TheConstants.{FOUND_LIMIT}
use Rattle.bb_machine.specs.Activation.{activation}
use Rattle.bb_machine.specs.declared.outcome.Answer.{Answer as Answered}
use Rattle.bb_machine.specs.declared.outcome.Entry.{Entry}
use Rattle.bb_machine.specs.declared.outcome.Outcome.{Outcome}
use Rattle.bb_machine.specs.declared.outcome.Stop.{Stop}
use Rattle.bb_machine.specs.declared.outcome.Stop.TheVariants as stops
use Rattle.bb_trace.specs.End.{End}
use Rattle.bb_trace.specs.End as ends
use Rattle.bb_run.specs.declared.asking.Reply.{Reply}
use Rattle.bb_run.specs.declared.asking.Reply.TheVariants.{Answer, Over}
use Rattle.bb_run.specs.State.{State, with_board}
use Rattle.bb_run.specs.Emission.{Response, over}

-- what the code of a part begins with: the activation's unit, and the event's unit if the part answers an event
abbrev pub entry_of : (unit : ℕ) → Option ℕ → Entry
entry_of unit event = record { it = unit; ev = event }

-- a code is executed for an entry, within the maximum budget that it may need
abbrev pub attempt : Code → Entry → Blackboard → Result Outcome Stop × Blackboard
attempt code entry board = activation (budget code FOUND_LIMIT) code entry board

-- how the run ends if an execution stops before an answer; executions of the definitions never run out of memory
abbrev pub end_by : Stop → End
end_by (stops.Full steps found) = ends.Full
end_by (stops.Stuck reason steps found) = ends.Stuck reason
end_by stops.Memory = ends.Full

-- how a code replies: with its answer, or, if it comes to none, with the end of the run
abbrev pub reply_by : Result Outcome Stop → Reply
reply_by (Ok o) = Answer o.answer
reply_by (Err stop) = Over (end_by stop)

-- the response to a reply
abbrev pub upon : Reply → (Answered → State → Response) → State → Response
upon (Answer answer) next s = next answer s
upon (Over end) next s = over end s

-- a code is asked, and its answer determines the response
abbrev pub asking : Code → Entry → (Answered → State → Response) → State → Response
asking code entry next s = let e = attempt code entry s.board in upon (reply_by e.0) next (with_board s e.1)
