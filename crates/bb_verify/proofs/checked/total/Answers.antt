use Rattle.std.proofs.Common.{◌*◌, get_or}
use Rattle.bb_verify.specs.Budget.{turns}
use Rattle.bb_verify.proofs.BudgetLemmas.{total_next}
use Rattle.bb_verify.proofs.checked.total.Goals as goal

pub loop-loops-preserved : goal.loop-loops-preserved
loop-loops-preserved c =
    total_next (λ k. get_or c.args.places_in.now k 0 * turns c.args.found k) c.loop-loops.sum c.turns_of-sum.result c.loop-loops.loops c.turns_of-sum.ensures.value c.turns_of-sum.ensures.small c.loop-loops.invariant
