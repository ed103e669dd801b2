-- What follows a choice.
use Rattle.std.specs.Prelude.{◌≡◌, List, [], ◌∷◌, ◌++◌, slice_get, Option, Some, None}
use Rattle.bb_agenda.specs.declared.focusing.activation.Activation.{Activation}
use Rattle.bb_agenda.specs.Changes.{with_executed}
use Rattle.bb_rules.specs.Parts.{Source}
use Rattle.bb_trace.specs.End.{End}
use Rattle.bb_trace.specs.declared.note.Note.{Note}
use Rattle.bb_trace.specs.declared.note.Note.TheVariants.{Invalid}
use Rattle.bb_trace.specs.Native.{Native}
use Rattle.bb_run_plan.specs.Plan.{Plan}
use Rattle.bb_run.specs.declared.execution.Verdict.{Verdict}
use Rattle.bb_run.specs.declared.execution.Verdict.TheVariants as verdicts
use Rattle.bb_run.specs.State.{State, with_board, with_agenda}
use Rattle.bb_run.specs.Emission.{Response, emitting, over}
use Rattle.bb_run.specs.Run.{execution, finish, validity}

-- what is emitted upon a choice: what the execution of an act for its unit emits, or that the activation is invalid
abbrev pub upon_verdict : Verdict → Source → Activation → State → Response
upon_verdict verdicts.Valid source a s =
    execution source.name source.act a (with_agenda s (with_executed s.agenda a.number))
upon_verdict verdicts.Invalid source a s = emitting (Invalid a.number ∷ []) s None
upon_verdict (verdicts.Over end) source a s = over end s

-- what is emitted upon a choice, by the verdict of the source's revalidation
abbrev pub upon_choice : Source → Activation → State → Response
upon_choice source a s = let v = validity source.revalidate a s.board in upon_verdict v.0 source a (with_board s v.1)

-- the finish and the closings, if the run ends
abbrev pub finish_by : Option End → List Native → List Note
finish_by None natives = []
finish_by (Some end) natives = finish end natives

-- an activation was chosen in this state, and these notes follow the choice
pub record IsFollowed (plan : Plan) (s : State) (a : Activation) (after : List Note) : Type 0 where
  -- the source of the activation exists
  pub source : Source
  pub source_is : slice_get plan.sources a.source ≡ Some source
  -- what is emitted upon the choice comes first, and then the finish if the run ends there
  pub rest : List Note
  pub begins : let emitted = upon_choice source a s in after ≡ (emitted.emitted ++ finish_by emitted.end emitted.state.natives) ++ rest
