use Rattle.std.proofs.Common.{◌≡◌, ◌++◌, map}
use Rattle.std.specs.List.{filter, range_with_len}
use Rattle.bb_lint.specs.declared.warning.Warning.TheVariants.{Unused}
use Rattle.bb_lint.specs.Unused.{is_unused}
use Rattle.bb_lint.proofs.warning.warn_of_queries.Given as goal

abbrev pub invariant-loop-query : goal.invariant-loop-query
invariant-loop-query l = l.warnings.items ≡ l.fn.warnings.items ++ map Unused (filter (is_unused l.code) (range_with_len 0 l.query))
