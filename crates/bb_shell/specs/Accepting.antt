-- The codes of a source, each accepted for its part, or the first fault.
use Rattle.std.specs.Prelude.{ℕ, List, Option, Some, None, Result, Ok}
use Rattle.bb_basis.specs.Results.{◌>>=◌, map_err}
use Rattle.bb_schema.specs.Schema.{Schema}
use Rattle.bb_code.specs.Code.{Code}
use Rattle.bb_verify.specs.Accepted.{Checked, checked}
use Rattle.bb_verify.specs.PartType.{Part}
use Rattle.bb_verify.specs.PartType.TheVariants.{Require, Revalidate, Do}
use Rattle.bb_bundle.specs.declared.draft.ActDraft.{ActDraft}
use Rattle.bb_bundle.specs.declared.draft.ActDraft.TheVariants as acts
use Rattle.bb_bundle.specs.declared.draft.Parts.{Parts}
use Rattle.bb_bundle.specs.declared.draft.ReactionDraft.{ReactionDraft}
use Rattle.bb_bundle.specs.declared.draft.SourceDraft.{SourceDraft}
use Rattle.bb_rules.specs.declared.resolve.Classes.{Classes}
use Rattle.bb_rules.specs.Source.{classes_of, obviate_part, retrigger_part}
use Rattle.bb_shell.specs.declared.accepting.CodeFault.{CodeFault}
use Rattle.bb_shell.specs.declared.accepting.CodeFault.TheVariants as faults
use Rattle.bb_refusal.specs.declared.input_fault.InputFault.{InputFault}
use Rattle.bb_refusal.specs.declared.input_fault.InputFault.TheVariants as inputs

-- a code that is accepted for a part
abbrev pub accepted_code : Schema → Part → Code → Result Checked CodeFault
accepted_code s part code = map_err (faults.Verify part) (checked s part code)

-- the accepted code of a part, if there is one
abbrev pub accepted_part : Schema → Part → Option Code → Result (Option Checked) CodeFault
accepted_part s part None = Ok None
accepted_part s part (Some code) = do
  checked' ← accepted_code s part code
  Ok (Some checked')

-- a reaction with its code accepted, if there is one
abbrev pub accepted_reaction : Schema → Option Part → Option (ReactionDraft Code) → Result (Option (ReactionDraft Checked)) CodeFault
accepted_reaction s (Some part) (Some draft) = do
  code ← accepted_code s part draft.code
  Ok (Some (record { class = draft.class; clauses = draft.clauses; code = code }))
accepted_reaction s _ _ = Ok None

-- the act of a source, with its code accepted
abbrev pub accepted_act : Schema → Part → ActDraft Code → Result (ActDraft Checked) CodeFault
accepted_act s part (acts.Do code) = do
  checked' ← accepted_code s part code
  Ok (acts.Do checked')
accepted_act s part acts.Native = Ok acts.Native

-- the parts besides the act, accepted in the order of a bundle
unfoldable pub accepted_parts : Schema → Classes → Parts Code → Result (Parts Checked) CodeFault
accepted_parts s c codes = do
  require ← accepted_part s (Require c.own) codes.require
  obviate ← accepted_reaction s (obviate_part c) codes.obviate
  retrigger ← accepted_reaction s (retrigger_part c) codes.retrigger
  revalidate ← accepted_part s (Revalidate c.own) codes.revalidate
  Ok (record { require = require; obviate = obviate; retrigger = retrigger; revalidate = revalidate })

-- a draft with its codes accepted, the act last
unfoldable pub accepted_draft : Schema → Classes → SourceDraft Code → Result (SourceDraft Checked) CodeFault
accepted_draft s c draft = do
  parts ← accepted_parts s c draft.parts
  act ← accepted_act s (Do c.own) draft.act
  Ok (record { header = draft.header; parts = parts; act = act })

-- the fault of a code as a fault of the source with this name
abbrev pub in_source : List ℕ → CodeFault → InputFault
in_source name (faults.Verify part fault) = inputs.Verify name part fault
in_source name faults.Memory = inputs.Memory

-- a source with its codes accepted: the classes are looked up, then each code is verified
abbrev pub accepted_source : Schema → SourceDraft Code → Result (SourceDraft Checked) InputFault
accepted_source s draft = do
  classes ← map_err (inputs.Rule draft.header.name) (classes_of s draft)
  map_err (in_source draft.header.name) (accepted_draft s classes draft)
