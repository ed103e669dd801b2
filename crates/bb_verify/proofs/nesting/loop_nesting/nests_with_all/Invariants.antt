use Rattle.std.proofs.Common.{◌≡◌, drop}
use Rattle.bb_code.specs.Each.{each}
use Rattle.bb_verify.specs.nesting.Loops.{nests}
use Rattle.bb_verify.proofs.nesting.loop_nesting.nests_with_all.Given as goal

abbrev pub invariant-loop-outer : goal.invariant-loop-outer
invariant-loop-outer l = each (nests l.code l.l) (drop l.outer-index l.loops) ≡ each (nests l.code l.l) l.loops
