-- What is asked about events and activations leaves the blackboard unchanged.
use Rattle.std.specs.Prelude.{◌≡◌, true, All, Contains}
use Rattle.bb_agenda.specs.declared.focusing.activation.Activation.{Activation}
use Rattle.bb_machine.specs.Writes.{has_no_writes}
use Rattle.bb_verify.specs.Accepted.{Checked}
use Rattle.bb_trace.specs.Board.{Board as Blackboard}
use Rattle.bb_trace.specs.Event.{Event}
use Rattle.bb_rules.specs.Law.{HasSoundCodes}
use Rattle.bb_rules.specs.Parts.{Source}
use Rattle.bb_run_plan.specs.Plan.{Plan}
use Rattle.bb_run.specs.State.{State}
use Rattle.bb_run.specs.Causes.{IsAsked}
use Rattle.bb_run.specs.Processing.{response}
use Rattle.bb_run.specs.Run.{validity}

-- no code that a source of the plan asks has an op that writes; this holds for codes accepted for their part
abbrev pub AsksByReading : Plan → Type 0
AsksByReading plan =
    (source : Source) (code : Checked) → Contains plan.sources source → IsAsked source code
    → has_no_writes code.code ≡ true

-- what sources are asked only reads
pub record ReadsOnly (plan : Plan) : Type 0 where
  -- no code that a source asks writes, if the codes of the sources are sound, as those of every plan are
  pub sound : All HasSoundCodes plan.sources → AsksByReading plan
  -- then responses to an event leave the blackboard unchanged, and so does what is asked about a choice
  pub events : (event : Event) (s : State) → AsksByReading plan → (response plan event s).state.board ≡ s.board
  pub choices : (source : Source) (a : Activation) (board : Blackboard) → AsksByReading plan
      → Contains plan.sources source → (validity source.revalidate a board).1 ≡ board
  -- no native answers to an event
  pub natives : (event : Event) (s : State) → (response plan event s).state.natives ≡ s.natives
