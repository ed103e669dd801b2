use Rattle.std.proofs.Common.{arith}
use Rattle.bb_verify_effect.proofs.StackLemmas.{length_of}
use Rattle.bb_verify_effect.proofs.stack.Stack.entries.Goals as goal

pub returns-clause-few : goal.returns-clause-few
returns-clause-few c =
    let long = length_of c.self.inside.kinds c.self.inside.len _ c.self.view_is (omega (arith, c.self.invariant.0, c.self.invariant.1)) in
    omega (arith, long, c.self.invariant.1)
