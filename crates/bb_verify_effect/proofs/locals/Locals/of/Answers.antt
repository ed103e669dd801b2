use Rattle.std.proofs.Common.{arith, ◌∙◌, length-set}
use Rattle.bb_verify_effect.proofs.StackLemmas.{copy_next}
use Rattle.bb_verify_effect.proofs.locals.Locals.of.Goals as goal

pub loop-i-preserved : goal.loop-i-preserved
loop-i-preserved c =
    let lt = c.loop-i-test.true in
    let long = c.loop-i.invariant.1 in
    let few = c.requires in
    (copy_next c.loop-i.kinds c.args.declared.now c.loop-i.i _ (omega (arith, lt, long, few)) lt c.loop-i.invariant.0, length-set c.loop-i.kinds c.loop-i.i _ ∙ long)

pub invariant_of-result : goal.invariant_of-result
invariant_of-result c = (c.loop-i.invariant.1, c.requires)
