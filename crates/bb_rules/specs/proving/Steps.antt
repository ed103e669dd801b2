-- The steps by which the code makes a source of its draft. No public contract cites them.
use Rattle.std.specs.Prelude.{ℕ, List, Option, Some, None, Result, Ok}
use Rattle.bb_basis.specs.Results.{◌>>=◌}
use Rattle.bb_bundle.specs.declared.draft.ReactionDraft.{ReactionDraft}
use Rattle.bb_bundle.specs.declared.draft.SourceDraft.{SourceDraft}
use Rattle.bb_schema.specs.Schema.{Schema}
use Rattle.bb_verify.specs.Accepted.{Checked}
use Rattle.bb_rules.specs.declared.found.Found.{Found}
use Rattle.bb_rules.specs.declared.clause.Clause.{Clause}
use Rattle.bb_rules.specs.declared.fault.RuleFault.{RuleFault}
use Rattle.bb_rules.specs.declared.place.ClauseList.{ClauseList}
use Rattle.bb_rules.specs.declared.place.ClauseList.TheVariants as lists
use Rattle.bb_rules.specs.declared.resolve.Classes.{Classes}
use Rattle.bb_rules.specs.declared.source.Reaction.{Reaction}
use Rattle.bb_rules.specs.Parts.{Source}
use Rattle.bb_rules.specs.Source.{classes_of, clauses_of, made_of, parts_fit}

-- the clauses of a reaction, if there is one, looked up as this list
abbrev pub reaction_clauses : {C : Type 0} → Schema → ClauseList → Option ℕ → Option (ReactionDraft C) → Result (Option (List Clause)) RuleFault
reaction_clauses s list (Some class) (Some draft) = do
  found ← clauses_of s list class draft.clauses
  Ok (Some found)
reaction_clauses s list _ _ = Ok None

-- what the names in a draft with these classes stand for
unfoldable pub found_with : {C : Type 0} → Schema → Classes → SourceDraft C → Result Found RuleFault
found_with s c draft = do
  triggers ← clauses_of s lists.Triggers c.own draft.header.triggers
  obviating ← reaction_clauses s lists.Obviate c.obviated draft.parts.obviate
  retriggering ← reaction_clauses s lists.Retrigger c.retriggered draft.parts.retrigger
  Ok (record { classes = c; triggers = triggers; obviating = obviating; retriggering = retriggering })

-- what the names in a draft stand for; a fault if a code was not accepted for its part
unfoldable pub found : Schema → SourceDraft Checked → Result Found RuleFault
found s draft = do
  c ← classes_of s draft
  _ ← parts_fit c draft
  found_with s c draft

-- a reaction of its class, its clauses and its code, if all are present
abbrev pub reaction_with : Option ℕ → Option (List Clause) → Option (ReactionDraft Checked) → Option Reaction
reaction_with (Some class) (Some clauses) (Some draft) = Some (record { class = class; clauses = clauses; code = draft.code })
reaction_with _ _ _ = None

-- the source of a draft whose names are looked up
abbrev pub source_with : Found → SourceDraft Checked → Source
source_with f draft =
    made_of draft f.classes f.triggers (reaction_with f.classes.obviated f.obviating draft.parts.obviate)
    (reaction_with f.classes.retriggered f.retriggering draft.parts.retrigger)
