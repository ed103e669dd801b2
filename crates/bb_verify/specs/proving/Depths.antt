-- The places of a code by depth: the number of loops that hold them.
use Rattle.std.specs.Prelude.{ℕ, ◌+◌, ◌*◌, ◌==◌, List, map, get_or}
use Rattle.std.specs.List.{range_with_len, sum_by, count_by}
use Rattle.bb_code.specs.Code.{Code, places}
use Rattle.bb_verify.specs.declared.nesting.loops.TheConstants.{NESTING_LIMIT}
use Rattle.bb_verify.specs.nesting.Loops.{depth}
use Rattle.bb_verify.specs.Budget.{turns}

-- the depth of each place
abbrev pub depths_of : Code → List ℕ
depths_of code = map (depth code) (places code)

-- the number of places of depth `loops`
abbrev pub count_of : List ℕ → ℕ → ℕ
count_of depths loops = count_by (λ d. d == loops) depths

-- the number of places of depth 0, of depth 1, and so on
abbrev pub counts_of : List ℕ → List ℕ
counts_of depths = map (count_of depths) (range_with_len 0 (NESTING_LIMIT + 1))

-- the step budget, given the number of places of each depth
abbrev pub budget_by : List ℕ → ℕ → ℕ
budget_by counts m = sum_by (λ loops. get_or counts loops 0 * turns m loops) (range_with_len 0 (NESTING_LIMIT + 1))
