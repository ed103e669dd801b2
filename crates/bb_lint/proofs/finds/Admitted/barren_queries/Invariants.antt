use Rattle.std.proofs.Common.{◌≡◌, ◌++◌, drop, map}
use Rattle.bb_lint.specs.Finds.{is_barren}
use Rattle.bb_lint.proofs.finds.Admitted.barren_queries.Given as goal

abbrev pub invariant-loop-query : goal.invariant-loop-query
invariant-loop-query l =
    l.barren.items ++ map (is_barren l.schema) (drop l.query-index l.query-items) ≡ map (is_barren l.schema) l.code.queries
