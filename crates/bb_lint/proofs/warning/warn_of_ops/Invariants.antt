use Rattle.std.proofs.Common.{◌≡◌, ◌++◌}
use Rattle.std.specs.List.{filter_map, range_with_len}
use Rattle.bb_lint.specs.Warnings.{warning_at}
use Rattle.bb_lint.proofs.warning.warn_of_ops.Given as goal

abbrev pub invariant-loop-place : goal.invariant-loop-place
invariant-loop-place l = l.warnings.items ≡ l.fn.warnings.items ++ filter_map (warning_at l.schema l.checked) (range_with_len 0 l.place)
