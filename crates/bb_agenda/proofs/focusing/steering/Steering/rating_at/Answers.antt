use Rattle.std.proofs.Common.{◌≡◌, List, ℤ, ◌+ℤ◌, Some, sym, ap, ◌∙◌, rules, w64}
use mir.Val.{SFits}
use Rattle.std.specs.Prelude.{slice_get}
use Rattle.bb_agenda.specs.focusing.Foci.{Steered}
use Rattle.bb_agenda.specs.focusing.Rating.{rating_at}
use Rattle.bb_agenda.proofs.focusing_lemmas.ShiftLemmas.{rated_by, rating_by_weight}
use Rattle.bb_agenda.proofs.focusing.steering.Steering.rating_at.Goals as goal

pub returns-in-Some : goal.returns-in-Some
returns-in-Some c =
    let s = c.self.inside in
    let at : slice_get s.weights.items c.args.place ≡ Some c.in-Some.weight = sym (c.in-Some.ensures ∙ ap (λ (ws : List ℤ). slice_get ws c.args.place) c.deref.ensures.value) in
    let fits : SFits w64 c.args.base = search rules in
    let is = c.self.invariant c.args.place c.in-Some.weight at in
    rated_by c.args.base c.in-Some.weight c.from.result fits is.1 c.from.ensures
    ∙ ap (λ z. c.args.base +ℤ z) is.0
    ∙ sym (rating_by_weight s.setting.schema s.setting.sources s.foci c.args.place c.args.base)
    ∙ ap (λ (x : Steered). rating_at x.setting.schema x.setting.sources x.foci c.args.place c.args.base) c.self.view_is
