use Rattle.std.proofs.Common.{arith}
use Rattle.bb_verify.proofs.nesting_lemmas.LoopTableLemmas.{climbed}
use Rattle.bb_verify.proofs.nesting.loop_tables.deepest_at.Goals as goal

pub loop-found-preserved : goal.loop-found-preserved
loop-found-preserved c =
    let p = climbed c.args.reach.now c.args.deepest.now c.args.place c.loop-found.found c.requires.before c.loop-found-test.true c.loop-found.invariant.low c.if-reach-found.true c.loop-found.invariant.above in
    let less = p.0 in
    let low = c.loop-found.invariant.low in
    record { low = omega (arith, less, low); above = p.1 }
