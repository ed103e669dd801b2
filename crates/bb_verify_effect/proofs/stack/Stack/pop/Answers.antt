use Rattle.std.proofs.Common.{arith, sym}
use Rattle.bb_verify_effect.proofs.StackLemmas.{newest_of}
use Rattle.bb_verify_effect.proofs.stack.Stack.pop.Goals as goal

pub returns : goal.returns
returns c = sym (newest_of c.self.inside.kinds c.self.inside.len _ _ c.self.view_is (omega (arith, c.if-self-eq0.false)) (omega (arith, c.self.invariant.0, c.self.invariant.1)))
