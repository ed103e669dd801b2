use Rattle.std.proofs.Common.{arith, ap, sym, ◌∙◌, length}
use Rattle.std.proofs.lemmas.List.{length-take-le}
use Rattle.bb_verify_effect.proofs.locals.Locals.kinds.Goals as goal

pub returns-clause-few : goal.returns-clause-few
returns-clause-few c =
    let long = sym (ap (λ l. length l) c.self.view_is) ∙ length-take-le c.self.inside.count c.self.inside.kinds (omega (arith, c.self.invariant.0, c.self.invariant.1)) in
    omega (arith, long, c.self.invariant.1)
