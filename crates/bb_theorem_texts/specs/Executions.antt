-- What a run executes of a source that is text does what the text says.
use Rattle.std.specs.Prelude.{◌≡◌, ℕ, true, Contains, Option, Some, None}
use Rattle.bb_schema.specs.Schema.{Schema, class_named}
use Rattle.bb_board.specs.Board.{Board}
use Rattle.bb_board.specs.Events.{unit_of}
use Rattle.bb_board.specs.declared.event.Event.{Event}
use Rattle.bb_verify.specs.Accepted.{Checked}
use Rattle.bb_verify.specs.Budget.{budget}
use Rattle.bb_verify.specs.PartType.{Part}
use Rattle.bb_verify.specs.PartType.TheVariants.{Require, Obviate, Retrigger, Revalidate, Do}
use Rattle.bb_verify.specs.declared.checked.TheConstants.{FOUND_LIMIT}
use Rattle.bb_machine.specs.Activation.{activation}
use Rattle.bb_machine.specs.declared.outcome.Entry.{Entry}
use Rattle.bb_lang.specs.ActText.{ActText}
use Rattle.bb_lang.specs.ActText.TheVariants as texts
use Rattle.bb_lang.specs.Blocks.{BlockTree}
use Rattle.bb_lang.specs.PartText.{PartText}
use Rattle.bb_lang.specs.ReactionText.{ReactionText}
use Rattle.bb_lang.specs.SourceText.{SourceText}
use Rattle.bb_agenda.specs.Agenda.{pending_of}
use Rattle.bb_agenda.specs.declared.focusing.activation.Activation.{Activation}
use Rattle.bb_rules.specs.Match.{any_match}
use Rattle.bb_rules.specs.Parts.{Source}
use Rattle.bb_rules.specs.declared.source.Act.TheVariants as acts
use Rattle.bb_rules.specs.declared.source.Reaction.{Reaction}
use Rattle.bb_run_plan.specs.Plan.{Plan}
use Rattle.bb_run.specs.Asking.{entry_of}
use Rattle.bb_run.specs.State.{State}
use Rattle.bb_run.specs.Unstuck.{IsEventOf}
use Rattle.bb_theorem_meaning.specs.Parts.{meaning}
use Rattle.bb_theorem_meaning.specs.Told.{IsTold}

-- ---- one execution, with the limit that a run gives it (`attempt` of bb_run)

-- it ends as the block of a part means
abbrev pub IsToldBy : Part → BlockTree → Checked → Entry → Board → Type 0
IsToldBy part block c entry b =
    IsTold (meaning part block entry b) (activation (budget c.code FOUND_LIMIT) c.code entry b)

-- the text has the part, and the execution ends as the part means
abbrev pub IsPartTold : Part → Option PartText → Checked → Entry → Board → Type 0
IsPartTold part None c entry b = ⊥
IsPartTold part (Some text) c entry b = IsToldBy part text.block c entry b

abbrev pub IsActTold : (class : ℕ) → ActText → Checked → Entry → Board → Type 0
IsActTold class texts.Native c entry b = ⊥
IsActTold class (texts.Do text) c entry b = IsToldBy (Do class) text.block c entry b

-- the text has the reaction, for events of the same class, and the execution ends as the reaction means
abbrev pub IsReactionTold : Schema → ((of : ℕ) → Part) → Option ReactionText → Reaction → Entry → Board → Type 0
IsReactionTold s part None r entry b = ⊥
IsReactionTold s part (Some text) r entry b =
    (class_named s text.class ≡ Some r.class) × IsToldBy (part r.class) text.block r.code entry b

-- ---- all executions of a source

-- an activation of the source at a place is pending
abbrev pub IsPending : State → (i : ℕ) → Activation → Type 0
IsPending s i a = Contains (pending_of s.agenda) a × (a.source ≡ i)

-- in a state, each execution of the source at a place ends as its text means; these are the executions that `BeginsEach`
-- of bb_run has
pub record AreTold (plan : Plan) (s : State) (i : ℕ) (source : Source) (text : SourceText) : Type 0 where
  -- the source's class is the one that the text names
  pub class : class_named plan.schema text.header.class ≡ Some source.class
  -- its act for a pending activation, and the revalidation before
  pub act : (a : Activation) (c : Checked) → IsPending s i a → source.act ≡ acts.Code c
      → IsActTold source.class text.act c (entry_of a.unit None) s.board
  pub revalidate : (a : Activation) (c : Checked) → IsPending s i a → source.revalidate ≡ Some c
      → IsPartTold (Revalidate source.class) text.parts.revalidate c (entry_of a.unit None) s.board
  -- its requirement, at an event of the blackboard that triggers it
  pub require : (event : Event) (c : Checked) → IsEventOf plan.schema s.board event → source.require ≡ Some c
      → any_match plan.schema source.triggers event ≡ true
      → IsPartTold (Require source.class) text.parts.require c (entry_of (unit_of event) None) s.board
  -- its reactions to such an event, about a pending activation
  pub obviate : (event : Event) (a : Activation) (r : Reaction) → IsEventOf plan.schema s.board event
      → IsPending s i a → source.obviate ≡ Some r → any_match plan.schema r.clauses event ≡ true
      → IsReactionTold plan.schema (Obviate source.class) text.parts.obviate r
      (entry_of a.unit (Some (unit_of event))) s.board
  pub retrigger : (event : Event) (a : Activation) (r : Reaction) → IsEventOf plan.schema s.board event
      → IsPending s i a → source.retrigger ≡ Some r → any_match plan.schema r.clauses event ≡ true
      → IsReactionTold plan.schema (Retrigger source.class) text.parts.retrigger r
      (entry_of a.unit (Some (unit_of event))) s.board
