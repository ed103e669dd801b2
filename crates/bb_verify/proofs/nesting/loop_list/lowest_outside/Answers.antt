use Rattle.bb_verify.proofs.nesting_lemmas.LoopLemmas.{outside_skip, outside_take, outside_end}
use Rattle.bb_verify.proofs.nesting.loop_list.lowest_outside.Goals as goal

pub loop-l-preserved-then-l-count : goal.loop-l-preserved-then-l-count
loop-l-preserved-then-l-count c = outside_skip c.args.count c.loop-l.so_far c.args.loops.now c.loop-l.l-index _ _ c.loop-l-test.true c.if-l-count.true c.loop-l.invariant

pub loop-l-preserved : goal.loop-l-preserved
loop-l-preserved c = outside_take c.args.count c.loop-l.so_far c.args.loops.now c.loop-l.l-index _ c.lesser.result _ c.loop-l-test.true c.if-l-count.false c.lesser.ensures c.loop-l.invariant

pub returns : goal.returns
returns c = outside_end c.args.count c.loop-l.so_far c.args.loops.now c.loop-l.l-index _ c.loop-l-test.false c.loop-l.invariant
