use Rattle.std.proofs.Common.{arith, ap, ◌∙◌, drop}
use Rattle.bb_verify_effect.proofs.StackLemmas.{drop_of, less_of}
use Rattle.bb_verify_effect.proofs.stack.Stack.shorten.Goals as goal

pub returns : goal.returns
returns c =
    drop_of c.self.inside.kinds c.self.inside.len c.args.count
    (less_of c.self.inside.kinds c.self.inside.len c.args.count _ c.self.view_is c.requires (omega (arith, c.self.invariant.0, c.self.invariant.1)))
    (omega (arith, c.self.invariant.0, c.self.invariant.1))
    ∙ ap (drop c.args.count) c.self.view_is
