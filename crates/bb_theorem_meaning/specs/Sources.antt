-- Sources whose parts have no `for`; what it means that the verifier accepts the codes of a source, and that the codes
-- mean their texts.
use Rattle.std.specs.Prelude.{◌≡◌, ◌≤◌, ℕ, Bool, true, ◌&&◌, List, length, Option, Some, None, IfSome, Ok}
use Rattle.bb_schema.specs.Schema.{Schema, class_named}
use Rattle.bb_code.specs.Code.{Code}
use Rattle.bb_lang.specs.ActText.{ActText}
use Rattle.bb_lang.specs.ActText.TheVariants as acts
use Rattle.bb_lang.specs.Blocks.{BlockTree}
use Rattle.bb_lang.specs.PartText.{PartText}
use Rattle.bb_lang.specs.ReactionText.{ReactionText}
use Rattle.bb_lang.specs.SourceText.{SourceText}
use Rattle.bb_bundle.specs.declared.draft.ActDraft.{ActDraft}
use Rattle.bb_bundle.specs.declared.draft.ActDraft.TheVariants as drafts
use Rattle.bb_bundle.specs.declared.draft.ReactionDraft.{ReactionDraft}
use Rattle.bb_bundle.specs.declared.draft.SourceDraft.{SourceDraft}
use Rattle.bb_verify_effect.specs.declared.frame.Frame.{Frame}
use Rattle.bb_verify_effect.specs.declared.part.Part.{Part}
use Rattle.bb_verify_effect.specs.declared.part.Part.TheVariants.{Require, Obviate, Retrigger, Revalidate, Do}
use Rattle.bb_verify.specs.Accepted.{checked}
use Rattle.bb_verify.specs.Budget.{budget}
use Rattle.bb_verify.specs.declared.checked.TheConstants.{FOUND_LIMIT}
use Rattle.bb_board.specs.Board.{Board}
use Rattle.bb_board.specs.Fits.{Fits}
use Rattle.bb_machine.specs.Activation.{activation}
use Rattle.bb_machine.specs.declared.outcome.Entry.{Entry}
use Rattle.bb_theorem_machine.specs.NeverWrong.{EntryFits}
use Rattle.bb_theorem_meaning.specs.Parts.{meaning}
use Rattle.bb_theorem_meaning.specs.Loopless.{is_loopless}
use Rattle.bb_theorem_meaning.specs.Told.{IsTold}

-- ---- no part has a `for`

abbrev pub part_is_loopless : Option PartText → Bool
part_is_loopless None = true
part_is_loopless (Some text) = is_loopless text.block

abbrev pub reaction_is_loopless : Option ReactionText → Bool
reaction_is_loopless None = true
reaction_is_loopless (Some text) = is_loopless text.block

abbrev pub act_is_loopless : ActText → Bool
act_is_loopless acts.Native = true
act_is_loopless (acts.Do text) = is_loopless text.block

abbrev pub is_loopless_source : SourceText → Bool
is_loopless_source text =
    part_is_loopless text.parts.require && (reaction_is_loopless text.parts.obviate
    && (reaction_is_loopless text.parts.retrigger
    && (part_is_loopless text.parts.revalidate && act_is_loopless text.act)))

-- ---- each code is accepted for its part

-- the verifier accepts a code for a part, with these frames
abbrev pub IsAccepted : Schema → Part → Code → Type 0
IsAccepted s part code =
    (frames : List Frame) × (checked s part code ≡ Ok (record { code = code; part = part; frames = frames }))

-- a reaction's code, for events of its class
abbrev pub IsAcceptedFor : Schema → ((of : ℕ) → Part) → ReactionDraft Code → Type 0
IsAcceptedFor s part r = (of : ℕ) × (class_named s r.class ≡ Some of) × IsAccepted s (part of) r.code

abbrev pub IsAcceptedAct : Schema → (class : ℕ) → ActDraft Code → Type 0
IsAcceptedAct s class drafts.Native = Unit {0}
IsAcceptedAct s class (drafts.Do code) = IsAccepted s (Do class) code

-- the codes of a source are accepted for their parts, for units of its class
pub record AreAccepted (s : Schema) (draft : SourceDraft Code) : Type 0 where
  pub class : ℕ
  pub named : class_named s draft.header.class ≡ Some class
  pub require : IfSome draft.parts.require (IsAccepted s (Require class))
  pub obviate : IfSome draft.parts.obviate (IsAcceptedFor s (Obviate class))
  pub retrigger : IfSome draft.parts.retrigger (IsAcceptedFor s (Retrigger class))
  pub revalidate : IfSome draft.parts.revalidate (IsAccepted s (Revalidate class))
  pub act : IsAcceptedAct s class draft.act

-- ---- each code means the text of its part, on every blackboard of a schema

-- how many steps are enough for an execution of a code: the number of its ops, if no op is executed twice; and its
-- budget, whatever loops it has
abbrev pub once_each : Code → ℕ
once_each code = length code.ops

abbrev pub within_budget : Code → ℕ
within_budget code = budget code FOUND_LIMIT

-- an execution of the code on any blackboard that has the schema and fits it, for units that fit the part, and with a
-- limit of at least that many steps, ends as the block means
abbrev pub IsMeant : (steps : Code → ℕ) → Schema → Part → BlockTree → Code → Type 0
IsMeant steps s part block code =
    (b : Board) (entry : Entry) (limit : ℕ) → b.schema ≡ s → Fits s b.world → EntryFits s b.world part entry
    → steps code ≤ limit → IsTold (meaning part block entry b) (activation limit code entry b)

-- the source has a part exactly if its text has it
abbrev pub IsMeantIf : (steps : Code → ℕ) → Schema → Part → Option PartText → Option Code → Type 0
IsMeantIf steps s part None None = Unit {0}
IsMeantIf steps s part (Some text) (Some code) = IsMeant steps s part text.block code
IsMeantIf steps s part _ _ = ⊥

-- a reaction has the class and the clauses of its text, and its code is for events of that class
pub record IsMeantFor (steps : Code → ℕ) (s : Schema) (part : (of : ℕ) → Part) (text : ReactionText) (r : ReactionDraft Code) : Type 0 where
  pub of : ℕ
  pub named : class_named s text.class ≡ Some of
  pub class : r.class ≡ text.class
  pub clauses : r.clauses ≡ text.clauses
  pub code : IsMeant steps s (part of) text.block r.code

abbrev pub IsMeantReaction : (steps : Code → ℕ) → Schema → ((of : ℕ) → Part) → Option ReactionText → Option (ReactionDraft Code) → Type 0
IsMeantReaction steps s part None None = Unit {0}
IsMeantReaction steps s part (Some text) (Some r) = IsMeantFor steps s part text r
IsMeantReaction steps s part _ _ = ⊥

abbrev pub IsMeantAct : (steps : Code → ℕ) → Schema → (class : ℕ) → ActText → ActDraft Code → Type 0
IsMeantAct steps s class acts.Native drafts.Native = Unit {0}
IsMeantAct steps s class (acts.Do text) (drafts.Do code) = IsMeant steps s (Do class) text.block code
IsMeantAct steps s class _ _ = ⊥

-- a source has the name, class, rate, clauses and parts of its text, and each of its codes means its part
pub record AreMeant (steps : Code → ℕ) (s : Schema) (text : SourceText) (draft : SourceDraft Code) : Type 0 where
  pub name : draft.header.name ≡ text.header.name
  pub class : draft.header.class ≡ text.header.class
  pub rate : draft.header.rate ≡ text.rate
  pub triggers : draft.header.triggers ≡ text.clauses
  pub of : ℕ
  pub named : class_named s text.header.class ≡ Some of
  pub require : IsMeantIf steps s (Require of) text.parts.require draft.parts.require
  pub obviate : IsMeantReaction steps s (Obviate of) text.parts.obviate draft.parts.obviate
  pub retrigger : IsMeantReaction steps s (Retrigger of) text.parts.retrigger draft.parts.retrigger
  pub revalidate : IsMeantIf steps s (Revalidate of) text.parts.revalidate draft.parts.revalidate
  pub act : IsMeantAct steps s of text.act draft.act
