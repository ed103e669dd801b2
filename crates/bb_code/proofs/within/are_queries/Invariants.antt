use Rattle.std.proofs.Common.{ℕ, ◌<◌, slice_index_or}
use Rattle.bb_pattern.specs.declared.query.Query.{Query}
use Rattle.bb_code.specs.Code.{IsQuery}
use Rattle.bb_code.proofs.within.are_queries.Given as goal

-- the queries so far may stand in a code
abbrev pub invariant-loop-query : goal.invariant-loop-query
invariant-loop-query l = (k : ℕ) (d : Query) → k < l.query-index → IsQuery (slice_index_or l.queries k d)
