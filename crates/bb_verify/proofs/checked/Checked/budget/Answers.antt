use Rattle.std.proofs.Common.{ap, ◌∙◌}
use Rattle.bb_verify.specs.proving.Depths.{budget_by}
use Rattle.bb_verify.proofs.BudgetLemmas.{budget_is}
use Rattle.bb_verify.proofs.checked.Checked.budget.Goals as goal

pub returns : goal.returns
returns c =
    rw (← c.self.view_is) (c.total.ensures ∙ (ap (λ counts. budget_by counts c.args.found) c.self.invariant.0 ∙ budget_is c.self.inside.code c.args.found c.self.invariant.1))
