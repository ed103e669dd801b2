use Rattle.std.proofs.Common.{take}
use Rattle.bb_verify.specs.nesting.proving.LoopTables.{HasEnds}
use Rattle.bb_verify.proofs.nesting.loop_tables.ends_of.Given as goal

abbrev pub invariant-loop-l : goal.invariant-loop-l
invariant-loop-l l = HasEnds l.count (take l.l-index l.loops) l.ends.items
