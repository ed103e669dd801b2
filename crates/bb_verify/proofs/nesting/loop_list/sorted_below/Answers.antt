use Rattle.std.proofs.Common.{arith}
use Rattle.bb_verify.proofs.nesting_lemmas.SortedLemmas.{sorted_next, sorted_end}
use Rattle.bb_verify.proofs.nesting.loop_list.sorted_below.Goals as goal

pub loop-next-preserved : goal.loop-next-preserved
loop-next-preserved c = record {
  some = omega arith;
  so_far = sorted_next c.loop-next.sorted c.least_misplaced-sorted.result c.args.loops.now c.loop-next.next _ _ _ c.loop-next.invariant.some c.loop-next-test.true c.least_misplaced-sorted.ensures c.loop-next.invariant.so_far;
}

pub returns : goal.returns
returns c = sorted_end c.loop-next.sorted c.args.loops.now c.loop-next.next _ c.loop-next.invariant.some c.loop-next-test.false c.loop-next.invariant.so_far
