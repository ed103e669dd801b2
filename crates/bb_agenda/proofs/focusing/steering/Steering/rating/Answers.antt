use Rattle.std.proofs.Common.{rules, ◌∙◌, ap, w64}
use mir.Val.{SFits}
use Rattle.std.specs.Int.{w128}
use Rattle.std.proofs.lemmas.Int.{to_z-of_z}
use Rattle.bb_agenda.specs.focusing.Rating.{rating_at}
use Rattle.bb_agenda.proofs.focusing_lemmas.WeightLemmas.{rating_is}
use Rattle.bb_agenda.proofs.focusing.steering.Steering.rating.Goals as goal

pub returns : goal.returns
returns c =
    let s = c.args.self.now in
    let a = c.args.activation.now in
    let fits : SFits w128 c.rating_at.result = search rules in
    let base_fits : SFits w64 a.base = search rules in
    to_z-of_z w128 c.rating_at.result fits ∙ c.rating_at.ensures ∙ ap (rating_at s.setting.schema s.setting.sources s.foci a.source) (to_z-of_z w64 a.base base_fits) ∙ rating_is s.setting.schema s.setting.sources s.foci a
