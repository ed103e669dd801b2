use Rattle.std.proofs.Common.{◌≡◌, false, replicate}
use Rattle.bb_lint.proofs.unused.none_named.Given as goal

abbrev pub invariant-loop-place : goal.invariant-loop-place
invariant-loop-place l = l.table.items ≡ replicate l.place false
