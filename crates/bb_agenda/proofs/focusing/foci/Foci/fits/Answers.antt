use Rattle.std.proofs.Common.{◌∙◌, sym, ap, subst, arith, length, ◌<◌, ◌^◌}
use Rattle.bb_agenda.specs.focusing.proving.Weights.{weight_by, IsSum}
use Rattle.bb_agenda.proofs.focusing_lemmas.SumLemmas.{sums_fit, weight_is}
use Rattle.bb_agenda.proofs.focusing.foci.Foci.fits.Goals as goal

pub returns : goal.returns
returns c = λ p.
    let es = c.self.inside.foci.entries in
    let few : length es < 2 ^ 63 = omega (arith, c.len-count.ensures.len, c.len-count.ensures.small) in
    subst IsSum (sym (weight_is p es c.len-count.ensures.ordered) ∙ ap (weight_by p) c.self.view_is) (sums_fit p es c.self.invariant few)
