use Rattle.std.proofs.Common.{◌-◌, ◌≤◌, arith, ap, ◌∙◌, take, drop}
use Rattle.bb_verify_effect.proofs.StackLemmas.{top_of, less_of}
use Rattle.bb_verify_effect.proofs.stack.Stack.top.Goals as goal

pub returns : goal.returns
returns c =
    let less : c.args.count ≤ c.self.inside.len = less_of c.self.inside.kinds c.self.inside.len c.args.count _ c.self.view_is c.requires (omega (arith, c.self.invariant.0, c.self.invariant.1)) in
    ap (λ n. take n (drop (c.self.inside.len - c.args.count) c.self.inside.kinds)) (omega (arith, less))
    ∙ top_of c.self.inside.kinds c.self.inside.len c.args.count _ c.self.view_is less (omega (arith, c.self.invariant.0, c.self.invariant.1))
