-- The source that a draft makes under a schema: its names are looked up, until one does not fit.
use Rattle.std.specs.Prelude.{ℕ, Bool, false, ◌&&◌, ◌==◌, List, Option, Some, None, option_map, is_some}
use Rattle.std.specs.Prelude.{Result, Ok, Err, if◌then◌else◌}
use Rattle.bb_basis.specs.Results.{◌>>=◌, ok_or, try_map_at}
use Rattle.bb_board.specs.declared.event.ChangeKind.{ChangeKind}
use Rattle.bb_board.specs.declared.event.ChangeKind.TheVariants as kinds
use Rattle.bb_bundle.specs.ChangeText.{ChangeText}
use Rattle.bb_bundle.specs.ChangeText.TheVariants as changes
use Rattle.bb_bundle.specs.ClauseText.{ClauseText}
use Rattle.bb_bundle.specs.ClauseText.TheVariants as texts
use Rattle.bb_bundle.specs.declared.draft.ReactionDraft.{ReactionDraft}
use Rattle.bb_bundle.specs.declared.draft.ActDraft.{ActDraft}
use Rattle.bb_bundle.specs.declared.draft.ActDraft.TheVariants as drafts
use Rattle.bb_bundle.specs.declared.draft.SourceDraft.{SourceDraft}
use Rattle.bb_schema.specs.Schema.{Schema, class_named, default_of, descends, slot_named, space_named}
use Rattle.bb_schema.specs.Slots.{link_of}
use Rattle.bb_verify.specs.Accepted.{Checked}
use Rattle.bb_verify.specs.PartType.{Part}
use Rattle.bb_verify.specs.PartType.TheVariants as parts
use Rattle.bb_rules.specs.declared.clause.Clause.{Clause}
use Rattle.bb_rules.specs.declared.clause.Clause.TheVariants as clauses
use Rattle.bb_rules.specs.declared.fault.ClauseFlaw.{ClauseFlaw}
use Rattle.bb_rules.specs.declared.fault.ClauseFlaw.TheVariants as flaws
use Rattle.bb_rules.specs.declared.fault.RuleFault.{RuleFault}
use Rattle.bb_rules.specs.declared.fault.RuleFault.TheVariants as faults
use Rattle.bb_rules.specs.declared.place.ClassPlace.{ClassPlace}
use Rattle.bb_rules.specs.declared.place.ClassPlace.TheVariants as places
use Rattle.bb_rules.specs.declared.place.ClauseList.{ClauseList}
use Rattle.bb_rules.specs.declared.place.ClauseList.TheVariants as lists
use Rattle.bb_rules.specs.declared.resolve.Classes.{Classes}
use Rattle.bb_rules.specs.declared.source.Act.{Act}
use Rattle.bb_rules.specs.declared.source.Act.TheVariants as acts
use Rattle.bb_rules.specs.declared.source.Reaction.{Reaction}
use Rattle.bb_rules.specs.Parts.{Source}
use Rattle.bb_rules.specs.Faults.{at_clause}

-- ---- classes

-- the class of a name at this place
abbrev pub class_of : Schema → ClassPlace → List ℕ → Result ℕ RuleFault
class_of s place name = ok_or (class_named s name) (faults.Class place)

-- the class of a reaction, if there is one, named at this place
abbrev pub reaction_class : {C : Type 0} → Schema → ClassPlace → Option (ReactionDraft C) → Result (Option ℕ) RuleFault
reaction_class s place None = Ok None
reaction_class s place (Some draft) = do
  class ← class_of s place draft.class
  Ok (Some class)

-- the class of a source, and those of its reactions
unfoldable pub classes_of : {C : Type 0} → Schema → SourceDraft C → Result Classes RuleFault
classes_of s draft = do
  own ← class_of s places.Source draft.header.class
  obviated ← reaction_class s places.Obviate draft.parts.obviate
  retriggered ← reaction_class s places.Retrigger draft.parts.retrigger
  Ok (record { own = own; obviated = obviated; retriggered = retriggered })

-- the parts of its reactions, with their classes
abbrev pub obviate_part : Classes → Option Part
obviate_part c = option_map (parts.Obviate c.own) c.obviated

abbrev pub retrigger_part : Classes → Option Part
retrigger_part c = option_map (parts.Retrigger c.own) c.retriggered

-- ---- codes

-- the two parts are the same, with the same classes
abbrev pub is_same_part : Part → Part → Bool
is_same_part (parts.Require class) (parts.Require other) = class == other
is_same_part (parts.Obviate class of) (parts.Obviate other from) = class == other && of == from
is_same_part (parts.Retrigger class of) (parts.Retrigger other from) = class == other && of == from
is_same_part (parts.Revalidate class) (parts.Revalidate other) = class == other
is_same_part (parts.Do class) (parts.Do other) = class == other
is_same_part _ _ = false

-- a code, if there is one, was accepted for this part
abbrev pub is_for : Part → Option Checked → Result (Unit {0}) RuleFault
is_for part None = Ok tt
is_for part (Some code) = if is_same_part code.part part then Ok tt else Err faults.Part

-- the code of a reaction, if there is one
abbrev pub reaction_code : Option (ReactionDraft Checked) → Option Checked
reaction_code draft = option_map (λ d. d.code) draft

-- the code of what an activation does, if it has one
abbrev pub act_code : ActDraft Checked → Option Checked
act_code (drafts.Do code) = Some code
act_code drafts.Native = None

-- a reaction's code, if there is one, was accepted for its part
abbrev pub is_for_reaction : Option Part → Option Checked → Result (Unit {0}) RuleFault
is_for_reaction None code = Ok tt
is_for_reaction (Some part) code = is_for part code

-- each code of a source was accepted for its part and these classes
unfoldable pub parts_fit : Classes → SourceDraft Checked → Result (Unit {0}) RuleFault
parts_fit c draft = do
  _ ← is_for (parts.Require c.own) draft.parts.require
  _ ← is_for_reaction (obviate_part c) (reaction_code draft.parts.obviate)
  _ ← is_for_reaction (retrigger_part c) (reaction_code draft.parts.retrigger)
  _ ← is_for (parts.Revalidate c.own) draft.parts.revalidate
  is_for (parts.Do c.own) (act_code draft.act)

-- ---- clauses

-- the class of a name, if it is this one or descends from it
abbrev pub class_within : Schema → ℕ → List ℕ → Result ℕ ClauseFlaw
class_within s class name = do
  changed ← ok_or (class_named s name) flaws.Class
  if descends s changed class then Ok changed else Err flaws.Class

-- the ordinary slot with a name in a class
abbrev pub ordinary_slot : Schema → ℕ → List ℕ → Result ℕ ClauseFlaw
ordinary_slot s class name = do
  slot ← ok_or (slot_named s class name) flaws.Slot
  if is_some (default_of s slot) then Ok slot else Err flaws.Slot

-- the link slot with a name in a class
abbrev pub link_slot : Schema → ℕ → List ℕ → Result ℕ ClauseFlaw
link_slot s class name = do
  slot ← ok_or (slot_named s class name) flaws.Slot
  if is_some (link_of s.slots slot) then Ok slot else Err flaws.Slot

-- the space of a name
abbrev pub space_of : Schema → List ℕ → Result ℕ ClauseFlaw
space_of s name = ok_or (space_named s name) flaws.Space

-- the kind of change in a clause with this class
abbrev pub kind_of : Schema → ℕ → ChangeText → Result ChangeKind ClauseFlaw
kind_of s class changes.Create = Ok kinds.Create
kind_of s class changes.Delete = Ok kinds.Delete
kind_of s class (changes.Update name) = do
  slot ← ordinary_slot s class name
  Ok (kinds.Update slot)
kind_of s class (changes.Link name) = do
  slot ← link_slot s class name
  Ok (kinds.Link slot)
kind_of s class (changes.Unlink name) = do
  slot ← link_slot s class name
  Ok (kinds.Unlink slot)
kind_of s class (changes.Enter name) = do
  space ← space_of s name
  Ok (kinds.Enter space)
kind_of s class (changes.Leave name) = do
  space ← space_of s name
  Ok (kinds.Leave space)

-- a clause about units of this class
abbrev pub clause_of : Schema → ℕ → ClauseText → Result Clause ClauseFlaw
clause_of s within (texts.Change kind name) = do
  class ← class_within s within name
  change ← kind_of s class kind
  Ok (clauses.Change change class)
clause_of s within texts.Quiescence = Ok clauses.Quiescence

-- all clauses of a list, in order; a flaw gets its place in the list
abbrev pub clauses_of : Schema → ClauseList → (within : ℕ) → List ClauseText → Result (List Clause) RuleFault
clauses_of s list within texts = try_map_at (at_clause list) (clause_of s within) 0 texts

-- ---- the source

-- a reaction, if there is one, with its clauses looked up as this list
abbrev pub reaction_of : Schema → ClauseList → Option ℕ → Option (ReactionDraft Checked) → Result (Option Reaction) RuleFault
reaction_of s list (Some class) (Some draft) = do
  found ← clauses_of s list class draft.clauses
  Ok (Some (record { class = class; clauses = found; code = draft.code }))
reaction_of s list _ _ = Ok None

-- what an activation does
abbrev pub act_of : ActDraft Checked → Act
act_of (drafts.Do code) = acts.Code code
act_of drafts.Native = acts.Native

-- the source of a draft, with the class, triggers and reactions that were found
abbrev pub made_of : SourceDraft Checked → Classes → List Clause → (obviate retrigger : Option Reaction) → Source
made_of draft c triggers obviate retrigger = record {
  name = draft.header.name;
  class = c.own;
  rate = draft.header.rate;
  triggers = triggers;
  require = draft.parts.require;
  obviate = obviate;
  retrigger = retrigger;
  revalidate = draft.parts.revalidate;
  act = act_of draft.act;
}

-- the classes are looked up, then each code must be for its part, then each clause is looked up
unfoldable pub source_of : Schema → SourceDraft Checked → Result Source RuleFault
source_of s draft = do
  c ← classes_of s draft
  _ ← parts_fit c draft
  triggers ← clauses_of s lists.Triggers c.own draft.header.triggers
  obviate ← reaction_of s lists.Obviate c.obviated draft.parts.obviate
  retrigger ← reaction_of s lists.Retrigger c.retriggered draft.parts.retrigger
  Ok (made_of draft c triggers obviate retrigger)
