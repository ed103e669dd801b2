-- What the sources of a held run can cost.
use Rattle.std.specs.Prelude.{ℕ, ◌-◌, ◌^◌, Bool, max, min, List, map, Option, Some, None}
use Rattle.std.specs.List.{fold, list_any}
use Rattle.bb_rules.specs.Cost.{creates, most_steps}
use Rattle.bb_rules.specs.Parts.{Source}
use Rattle.bb_run_held.specs.declared.running.Running.{Running}
use Rattle.bb_verify.specs.declared.checked.TheConstants.{FOUND_LIMIT}
use Rattle.bb_c_run.specs.declared.no_native.NoNative.{NoNative}

-- the maximum number of steps of any code of some sources, if no sequence that it finds has more than `found` units
abbrev pub most_steps_of : List Source → (found : ℕ) → ℕ
most_steps_of sources found = fold max 0 (map (λ s. most_steps s found) sources)

-- the same for a held run, up to the maximum of a 64-bit number
abbrev pub most_steps_in : {b : _} → Option (Running NoNative b) → (found : ℕ) → Option ℕ
most_steps_in None found = None
most_steps_in (Some r) found = Some (min (most_steps_of r.plan.sources (min found FOUND_LIMIT)) (2 ^ 64 - 1))

-- whether a code of its sources creates units
abbrev pub creates_in : {b : _} → Option (Running NoNative b) → Option Bool
creates_in None = None
creates_in (Some r) = Some (list_any creates r.plan.sources)
