use Rattle.std.proofs.Common.{◌≡◌, drop, None}
use Rattle.bb_verify.specs.nesting.Loops.{lowest_outside}
use Rattle.bb_verify.proofs.nesting.loop_list.lowest_outside.Given as goal

abbrev pub invariant-loop-l : goal.invariant-loop-l
invariant-loop-l l = lowest_outside l.count l.so_far (drop l.l-index l.loops) ≡ lowest_outside l.count None l.loops
