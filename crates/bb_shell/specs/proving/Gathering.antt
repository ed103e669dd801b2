-- The outcome of an input's sources if each goes through all steps before the next one. No public clause cites it.
use Rattle.std.specs.Prelude.{ℕ, List, [], Result, Ok, Err}
use Rattle.bb_basis.specs.Results.{◌>>=◌, map_err, try_fold}
use Rattle.bb_schema.specs.Schema.{Schema}
use Rattle.bb_verify.specs.Accepted.{Checked}
use Rattle.bb_code.specs.Code.{Code}
use Rattle.bb_bundle.specs.declared.draft.SourceDraft.{SourceDraft}
use Rattle.bb_rules.specs.Parts.{Source}
use Rattle.bb_shell.specs.declared.fitting.Unfit.{Unfit}
use Rattle.bb_refusal.specs.declared.input_fault.InputFault.{InputFault}
use Rattle.bb_shell.specs.declared.sources.Resolution.{Resolution}
use Rattle.bb_shell.specs.declared.sources.Resolution.TheVariants as resolutions
use Rattle.bb_shell.specs.Accepting.{accepted_source}
use Rattle.bb_shell.specs.Fitting.{source_after}
use Rattle.bb_shell.specs.Sources.{in_input, resolved_source}

-- the sources that run together so far, or the first that does not fit; the first source whose names can't be resolved
-- takes precedence over both
abbrev pub Gathering : Type 0
Gathering = Result (Result (List Source) Unfit) InputFault

abbrev pub resolution_as : Resolution → Gathering
resolution_as (resolutions.Fit sources) = Ok (Ok sources)
resolution_as (resolutions.Unfit unfit) = Ok (Err unfit)
resolution_as (resolutions.Unresolved fault) = Err fault

-- the outcome with another source, whose codes are accepted
abbrev pub with_draft : (natives : List (List ℕ)) → Schema → Gathering → SourceDraft Checked → Gathering
with_draft natives s g draft = do
  fit ← g
  source ← resolved_source s draft
  Ok (fit >>= λ sources. source_after natives sources source)

-- the outcome with another source, whose codes are yet to be accepted
abbrev pub with_code : (natives : List (List ℕ)) → Schema → Gathering → SourceDraft Code → Result Gathering InputFault
with_code natives s g code = do
  draft ← accepted_source s code
  Ok (with_draft natives s g draft)

-- the outcome of all sources
abbrev pub gathering : (natives : List (List ℕ)) → Schema → List (SourceDraft Code) → Result Gathering InputFault
gathering natives s codes = try_fold (with_code natives s) (Ok (Ok [])) codes

-- what is finally returned
abbrev pub ended : Gathering → Result (List Source) InputFault
ended g = g >>= map_err in_input
