use Rattle.std.proofs.Common.{take}
use Rattle.bb_verify.specs.nesting.proving.LoopTables.{HasReach}
use Rattle.bb_verify.proofs.nesting.loop_tables.reach_of.Given as goal

abbrev pub invariant-loop-l : goal.invariant-loop-l
invariant-loop-l l = HasReach l.count (take l.l-index l.loops) l.reach.items
