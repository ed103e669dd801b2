-- The compilation of an input, which reads neither units nor a bundle, and runs nothing.
use Rattle.std.specs.Prelude.{◌≡◌, ℕ, List, Option, Result, Ok, IsOkAnd}
use Rattle.bb_basis.specs.Results.{◌>>=◌, map_err}
use Rattle.bb_schema.specs.Reading.{schema_of}
use Rattle.bb_code.specs.Code.{Code}
use Rattle.bb_bundle.specs.Bundle.{sources_of}
use Rattle.bb_bundle.specs.Written.{bundle_text}
use Rattle.bb_bundle.specs.declared.draft.SourceDraft.{SourceDraft}
use Rattle.bb_shell.specs.Sources.{compiled_text}
use Rattle.bb_shell.specs.Written.{Wrote}
use Rattle.bb_shell.specs.declared.written.Done.{Done}
use Rattle.bb_refusal.specs.declared.input_fault.InputFault.{InputFault}
use Rattle.bb_refusal.specs.declared.input_fault.InputFault.TheVariants as inputs

-- the sources of an input's text with their codes, or the first refusal
unfoldable pub bundle_in : (schema sources : List ℕ) → Result (List (SourceDraft Code)) InputFault
bundle_in schema sources = do
  s ← map_err inputs.Schema (schema_of schema)
  compiled_text s sources

-- there are sources, and a bundle of them was written this far
abbrev pub WritesBundle : Result (List (SourceDraft Code)) InputFault → Done → (taken given : Option (List ℕ)) → Type 0
WritesBundle codes done taken given = IsOkAnd codes (λ xs. Wrote (bundle_text xs) done taken given)

-- there are sources, and the bundle of them is read as the same sources
abbrev pub IsReadAgain : Result (List (SourceDraft Code)) InputFault → Type 0
IsReadAgain codes = IsOkAnd codes (λ xs. sources_of (bundle_text xs) ≡ Ok xs)
