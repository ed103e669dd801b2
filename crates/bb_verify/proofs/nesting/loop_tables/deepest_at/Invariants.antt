use Rattle.std.proofs.Common.{◌+◌, ◌≤◌}
use Rattle.bb_verify.proofs.nesting_lemmas.LoopTableLemmas.{NoneFrom}
use Rattle.bb_verify.proofs.nesting.loop_tables.deepest_at.Given as goal

abbrev pub invariant-loop-found : goal.invariant-loop-found
invariant-loop-found l = record { low : l.found ≤ l.place + 1; above : NoneFrom l.reach l.place l.found }

abbrev pub decreases-loop-found : goal.decreases-loop-found
decreases-loop-found l = l.found
