-- The source of a tree, with a code for each part that is a block, or the first fault of the text.
use Rattle.std.specs.Prelude.{ℕ, List, Option, Some, None, Result, Ok, Err, if◌then◌else◌}
use Rattle.bb_basis.specs.Results.{◌>>=◌, ok_or}
use Rattle.bb_code.specs.Code.{Code}
use Rattle.bb_verify_effect.specs.declared.part.Part.{Part}
use Rattle.bb_verify_effect.specs.declared.part.Part.TheVariants.{Require, Obviate, Retrigger, Revalidate, Do}
use Rattle.bb_schema.specs.Schema.{Schema, class_named}
use Rattle.bb_lang.specs.ActText.{ActText}
use Rattle.bb_lang.specs.ActText.TheVariants as acts
use Rattle.bb_lang.specs.PartText.{PartText}
use Rattle.bb_lang.specs.PartTexts.{PartTexts}
use Rattle.bb_lang.specs.ReactionText.{ReactionText}
use Rattle.bb_lang.specs.SourceText.{SourceText}
use Rattle.bb_compile_scope.specs.Place.{Place}
use Rattle.bb_compile_scope.specs.declared.fault.TextFlaw.TheVariants.{Unknown, NoEnd}
use Rattle.bb_compile_scope.specs.declared.fault.CompileFault.{CompileFault}
use Rattle.bb_compile_scope.specs.declared.fault.CompileFault.TheVariants.{At}
use Rattle.bb_compile_scope.specs.Ending.{block_ends}
use Rattle.bb_compile.specs.Parts.{part_code}
use Rattle.bb_bundle.specs.declared.draft.ActDraft.{ActDraft}
use Rattle.bb_bundle.specs.declared.draft.ActDraft.TheVariants as drafts
use Rattle.bb_bundle.specs.declared.draft.Header.{Header}
use Rattle.bb_bundle.specs.declared.draft.Parts.{Parts}
use Rattle.bb_bundle.specs.declared.draft.ReactionDraft.{ReactionDraft}
use Rattle.bb_bundle.specs.declared.draft.SourceDraft.{SourceDraft}
use Rattle.bb_bundle.specs.Spelled.{if_spelled}

-- ---- parts

-- the class named after an `on`, at a place
abbrev pub class_on : Schema → (name : List ℕ) → Place → Result ℕ CompileFault
class_on schema name on = ok_or (class_named schema name) (At Unknown on)

-- the class of a reaction's events; a reaction that can run past its end is refused first, at its own place
abbrev pub class_of_events : Schema → ReactionText → Result ℕ CompileFault
class_of_events schema text =
    if block_ends text.block then class_on schema text.class text.on else Err (At NoEnd text.place)

-- a part that the source may have
abbrev pub part_of : Schema → Part → Option PartText → Result (Option Code) CompileFault
part_of schema part None = Ok None
part_of schema part (Some text) = part_code schema part text.place text.block >>= λ code. Ok (Some code)

-- a reaction to events
unfoldable pub reaction_of : Schema → Part → ReactionText → Result (ReactionDraft Code) CompileFault
reaction_of schema part text = do
  code ← part_code schema part text.place text.block
  Ok (record { class = text.class; clauses = text.clauses; code = code })

-- a reaction that the source may have, for events of a class
abbrev pub reaction_if : Schema → ((of : ℕ) → Part) → Option ReactionText → Result (Option (ReactionDraft Code)) CompileFault
reaction_if schema part None = Ok None
reaction_if schema part (Some text) = do
  of ← class_of_events schema text
  reaction ← reaction_of schema (part of) text
  Ok (Some reaction)

-- the act
abbrev pub act_of : Schema → (class : ℕ) → ActText → Result (ActDraft Code) CompileFault
act_of schema class acts.Native = Ok drafts.Native
act_of schema class (acts.Do text) = part_code schema (Do class) text.place text.block >>= λ code. Ok (drafts.Do code)

-- the parts other than the act, one after another
unfoldable pub parts_of : Schema → (class : ℕ) → PartTexts → Result (Parts Code) CompileFault
parts_of schema class texts = do
  require ← part_of schema (Require class) texts.require
  obviate ← reaction_if schema (Obviate class) texts.obviate
  retrigger ← reaction_if schema (Retrigger class) texts.retrigger
  revalidate ← part_of schema (Revalidate class) texts.revalidate
  Ok (record { require = require; obviate = obviate; retrigger = retrigger; revalidate = revalidate })

-- ---- the source: its name, class, rate, clauses and set of parts are those of the tree

abbrev pub header_of : SourceText → Header
header_of text = record {
  name = text.header.name;
  class = text.header.class;
  rate = text.rate;
  triggers = text.clauses;
}

unfoldable pub draft_of : Schema → SourceText → Result (SourceDraft Code) CompileFault
draft_of schema text = do
  class ← class_on schema text.header.class text.header.on
  parts ← parts_of schema class text.parts
  act ← act_of schema class text.act
  Ok (record { header = header_of text; parts = parts; act = act })

-- the source of a tree; a fault if not all of its names are valid, or it lacks clauses
unfoldable pub compiled : Schema → SourceText → Result (SourceDraft Code) CompileFault
compiled schema text = do
  draft ← draft_of schema text
  ok_or (if_spelled draft) (At Unknown text.header.on)
