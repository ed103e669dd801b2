use Rattle.bb_verify.specs.nesting.proving.LoopTables.{HasDeepest}
use Rattle.bb_verify.proofs.nesting.loop_tables.deepest_of.Given as goal

abbrev pub invariant-loop-place : goal.invariant-loop-place
invariant-loop-place l = HasDeepest l.place l.reach l.deepest.items
