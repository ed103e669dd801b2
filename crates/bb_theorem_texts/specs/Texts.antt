-- What becomes of an input's sources that are text.
use Rattle.std.specs.Prelude.{◌≡◌, ℕ, List, slice_get, Option, Some, None, option_map, Ok, Err}
use Rattle.std.specs.List.{AllZip}
use Rattle.bb_schema.specs.Schema.{Schema, class_named, slot_named, space_named}
use Rattle.bb_board.specs.declared.event.ChangeKind.{ChangeKind}
use Rattle.bb_board.specs.declared.event.ChangeKind.TheVariants as kinds
use Rattle.bb_code.specs.Code.{Code}
use Rattle.bb_verify.specs.Accepted.{Checked}
use Rattle.bb_lang.specs.SourceText.{SourceText}
use Rattle.bb_bundle.specs.Bundle.{sources_of}
use Rattle.bb_bundle.specs.ChangeText.{ChangeText}
use Rattle.bb_bundle.specs.ChangeText.TheVariants as changes
use Rattle.bb_bundle.specs.ClauseText.{ClauseText}
use Rattle.bb_bundle.specs.ClauseText.TheVariants as texts
use Rattle.bb_bundle.specs.declared.draft.ActDraft.{ActDraft}
use Rattle.bb_bundle.specs.declared.draft.ActDraft.TheVariants as drafts
use Rattle.bb_bundle.specs.declared.draft.ReactionDraft.{ReactionDraft}
use Rattle.bb_bundle.specs.declared.draft.SourceDraft.{SourceDraft}
use Rattle.bb_rules.specs.declared.clause.Clause.{Clause}
use Rattle.bb_rules.specs.declared.clause.Clause.TheVariants as clauses
use Rattle.bb_rules.specs.declared.source.Act.{Act}
use Rattle.bb_rules.specs.declared.source.Act.TheVariants as acts
use Rattle.bb_rules.specs.declared.source.Reaction.{Reaction}
use Rattle.bb_shell.specs.Accepting.{accepted_source}
use Rattle.bb_shell.specs.InputFault.{InputFault}
use Rattle.bb_rules.specs.Parts.{Source}
use Rattle.bb_theorem_meaning.specs.Sources.{AreMeant, within_budget}

-- this fault refuses one of the sources of a bundle
pub record IsRefusedInBundle (s : Schema) (bundle : List ℕ) (fault : InputFault) : Type 0 where
  pub sources : List (SourceDraft Code)
  pub read : sources_of bundle ≡ Ok sources
  pub place : ℕ
  pub source : SourceDraft Code
  pub there : slice_get sources place ≡ Some source
  pub refused : accepted_source s source ≡ Err fault

-- a kind of change is what a text says: its slot or space is the one that the text names
abbrev pub IsKind : Schema → (class : ℕ) → ChangeText → ChangeKind → Type 0
IsKind s class changes.Create kind = kind ≡ kinds.Create
IsKind s class changes.Delete kind = kind ≡ kinds.Delete
IsKind s class (changes.Update name) kind =
    (slot : ℕ) × (slot_named s class name ≡ Some slot) × (kind ≡ kinds.Update slot)
IsKind s class (changes.Link name) kind =
    (slot : ℕ) × (slot_named s class name ≡ Some slot) × (kind ≡ kinds.Link slot)
IsKind s class (changes.Unlink name) kind =
    (slot : ℕ) × (slot_named s class name ≡ Some slot) × (kind ≡ kinds.Unlink slot)
IsKind s class (changes.Enter name) kind =
    (space : ℕ) × (space_named s name ≡ Some space) × (kind ≡ kinds.Enter space)
IsKind s class (changes.Leave name) kind =
    (space : ℕ) × (space_named s name ≡ Some space) × (kind ≡ kinds.Leave space)

-- a clause is what a text says: quiescence, or a change of this kind to units of the class that the text names
abbrev pub IsClause : Schema → ClauseText → Clause → Type 0
IsClause s (texts.Change kind name) (clauses.Change change class) =
    (class_named s name ≡ Some class) × IsKind s class kind change
IsClause s (texts.Change kind name) clauses.Quiescence = ⊥
IsClause s texts.Quiescence clause = clause ≡ clauses.Quiescence

-- a reaction has the class, the clauses and the code of a draft
pub record IsReaction (s : Schema) (draft : ReactionDraft Code) (reaction : Reaction) : Type 0 where
  pub class : class_named s draft.class ≡ Some reaction.class
  pub clauses : AllZip (IsClause s) draft.clauses reaction.clauses
  pub code : reaction.code.code ≡ draft.code

-- there is a reaction exactly if there is a draft of one, and it is the draft's
abbrev pub HasReaction : Schema → Option (ReactionDraft Code) → Option Reaction → Type 0
HasReaction s None None = Unit {0}
HasReaction s None (Some reaction) = ⊥
HasReaction s (Some draft) None = ⊥
HasReaction s (Some draft) (Some reaction) = IsReaction s draft reaction

-- the code of a part
abbrev pub code_in : Option Checked → Option Code
code_in part = option_map (λ c. c.code) part

abbrev pub act_in : Act → ActDraft Code
act_in (acts.Code c) = drafts.Do c.code
act_in acts.Native = drafts.Native

-- a source has the name, the class, the rate, the triggers, the reactions and the codes of a draft
pub record HasCodes (s : Schema) (draft : SourceDraft Code) (source : Source) : Type 0 where
  pub name : source.name ≡ draft.header.name
  pub class : class_named s draft.header.class ≡ Some source.class
  pub rate : source.rate ≡ draft.header.rate
  pub triggers : AllZip (IsClause s) draft.header.triggers source.triggers
  pub require : code_in source.require ≡ draft.parts.require
  pub obviate : HasReaction s draft.parts.obviate source.obviate
  pub retrigger : HasReaction s draft.parts.retrigger source.retrigger
  pub revalidate : code_in source.revalidate ≡ draft.parts.revalidate
  pub act : act_in source.act ≡ draft.act

-- a source is what a text says: it has the name, the class, the rate, the clauses and the parts of the text, and each of
-- its codes means the text of its part
pub record IsAsWritten (s : Schema) (text : SourceText) (source : Source) : Type 0 where
  pub draft : SourceDraft Code
  pub means : AreMeant within_budget s text draft
  pub codes : HasCodes s draft source

-- the source at this place is what a text says
pub record RunsAt (s : Schema) (made : List Source) (i : ℕ) (text : SourceText) : Type 0 where
  pub source : Source
  pub there : slice_get made i ≡ Some source
  pub written : IsAsWritten s text source
