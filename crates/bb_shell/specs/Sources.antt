-- The sources that run together, from a text and a bundle. Each refusal is the first, step by step.
use Rattle.std.specs.Prelude.{ℕ, List, ◌++◌, Result, Ok}
use Rattle.bb_basis.specs.Results.{◌>>=◌, map_err, try_map}
use Rattle.bb_schema.specs.Schema.{Schema}
use Rattle.bb_verify.specs.Accepted.{Checked}
use Rattle.bb_code.specs.Code.{Code}
use Rattle.bb_lang.specs.Sources.{sources_of as trees_of}
use Rattle.bb_lang.specs.SourceText.{SourceText}
use Rattle.bb_compile.specs.Compiled.{compiled}
use Rattle.bb_bundle.specs.Bundle.{sources_of}
use Rattle.bb_bundle.specs.declared.draft.SourceDraft.{SourceDraft}
use Rattle.bb_rules.specs.Parts.{Source}
use Rattle.bb_rules.specs.Source.{source_of}
use Rattle.bb_refusal.specs.declared.input_fault.InputFault.{InputFault}
use Rattle.bb_refusal.specs.declared.input_fault.InputFault.TheVariants.{Bundle, Compile, Lang, Memory, Rule}
use Rattle.bb_shell.specs.Accepting.{accepted_source}
use Rattle.bb_shell.specs.declared.fitting.Unfit.{Unfit}
use Rattle.bb_shell.specs.declared.fitting.Unfit.TheVariants as unfits
use Rattle.bb_shell.specs.Fitting.{fitted}

-- a source with its names resolved
abbrev pub resolved_source : Schema → SourceDraft Checked → Result Source InputFault
resolved_source s draft = map_err (Rule draft.header.name) (source_of s draft)

-- a source that does not fit is refused under its name
abbrev pub in_input : Unfit → InputFault
in_input (unfits.Source name fault) = Rule name fault
in_input unfits.Memory = Memory

-- all sources: each is accepted, then each is resolved, then each must fit the earlier ones
unfoldable pub sources_for : (natives : List (List ℕ)) → Schema → List (SourceDraft Code) → Result (List Source) InputFault
sources_for natives s codes = do
  accepted' ← try_map (accepted_source s) codes
  resolved ← try_map (resolved_source s) accepted'
  map_err in_input (fitted natives resolved)

-- the codes of a source that is text; a fault has the source's name
abbrev pub compiled_source : Schema → SourceText → Result (SourceDraft Code) InputFault
compiled_source s tree = map_err (Compile tree.header.name) (compiled s tree)

-- the codes of the sources of a text, all of which is read before a source is compiled
unfoldable pub compiled_text : Schema → (sources : List ℕ) → Result (List (SourceDraft Code)) InputFault
compiled_text s sources = do
  trees ← map_err Lang (trees_of sources)
  try_map (compiled_source s) trees

-- the codes of a text and then those of a bundle, all of which is read after the text is compiled
unfoldable pub codes_in : Schema → (sources bundle : List ℕ) → Result (List (SourceDraft Code)) InputFault
codes_in s sources bundle = do
  compiled' ← compiled_text s sources
  bundled ← map_err Bundle (sources_of bundle)
  Ok (compiled' ++ bundled)

-- the sources that both texts mean: all codes are present before one is verified
unfoldable pub given : (natives : List (List ℕ)) → Schema → (sources bundle : List ℕ) → Result (List Source) InputFault
given natives s sources bundle = do
  codes ← codes_in s sources bundle
  sources_for natives s codes
