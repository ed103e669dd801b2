-- The step budget: the maximum number of steps of an execution of a code (of this project).
use Rattle.std.specs.Prelude.{ℕ, ◌+◌, ◌^◌}
use Rattle.std.specs.List.{sum_by}
use Rattle.bb_code.specs.Code.{Code, places}
use Rattle.bb_verify.specs.nesting.Loops.{depth}

-- how often a place can be executed, if `loops` loops hold it and no sequence has more than m units
abbrev pub turns : (m loops : ℕ) → ℕ
turns m loops = (m + 1) ^ loops

-- the sum over all places
abbrev pub budget : Code → ℕ → ℕ
budget code m = sum_by (λ place. turns m (depth code place)) (places code)
