use Rattle.std.proofs.Common.{arith, ap, ◌∙◌, set}
use Rattle.std.proofs.Math.Seq.{take-set-lt}
use Rattle.bb_verify_effect.proofs.locals.Locals.put.Goals as goal

pub returns-then-local-self : goal.returns-then-local-self
returns-then-local-self c = take-set-lt c.self.inside.count c.self.inside.kinds c.args.local c.args.kind (omega (arith, c.if-local-self.true)) ∙ ap (λ l. set l c.args.local c.args.kind) c.self.view_is
