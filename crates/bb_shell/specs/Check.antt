-- The check of an input, which reads no units and runs nothing.
use Rattle.std.specs.Prelude.{ℕ, List, Option, Result, IsOkAnd}
use Rattle.bb_basis.specs.Results.{◌>>=◌, map_err}
use Rattle.bb_schema.specs.Reading.{schema_of}
use Rattle.bb_rules.specs.Parts.{Source}
use Rattle.bb_shell.specs.CheckText.{check_text}
use Rattle.bb_shell.specs.Sources.{given}
use Rattle.bb_shell.specs.Written.{Wrote}
use Rattle.bb_shell.specs.declared.written.Done.{Done}
use Rattle.bb_refusal.specs.declared.input_fault.InputFault.{InputFault}
use Rattle.bb_refusal.specs.declared.input_fault.InputFault.TheVariants as inputs

-- the sources of an input's texts, or the first refusal
unfoldable pub sources_in : (natives : List (List ℕ)) → (schema sources bundle : List ℕ) → Result (List Source) InputFault
sources_in natives schema sources bundle = do
  s ← map_err inputs.Schema (schema_of schema)
  given natives s sources bundle

-- there are sources, and the lines about them were written this far
abbrev pub WritesCheck : Result (List Source) InputFault → Done → (taken given : Option (List ℕ)) → Type 0
WritesCheck sources done taken given = IsOkAnd sources (λ xs. Wrote (check_text xs) done taken given)
