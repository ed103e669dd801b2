use Rattle.std.proofs.Common.{Some, option_map, subst, ◌∙◌, length}
use Rattle.bb_agenda.specs.focusing.proving.Weights.{AreShifted}
use Rattle.bb_agenda.proofs.focusing_lemmas.ShiftLemmas.{weights_shifted}
use Rattle.bb_agenda.proofs.focusing.steering.Steering.set.Goals as goal

pub invariant_of-self-2 : goal.invariant_of-self-2
invariant_of-self-2 c =
    let s = c.self.inside.setting in
    let reached = c.reach.new.weights.items in
    weights_shifted s c.in_ok-gone.gone (Some c.args.focus) reached c.self.inside.foci c.set.new.self c.shift.new.weights.items c.reach.ensures
    (subst (λ g. AreShifted s g (Some c.args.focus) (length reached) reached c.shift.new.weights.items) c.as_ref.ensures.value
    (subst (λ n. AreShifted s (option_map (λ f. f.now) c.as_ref.result) n (length reached) reached c.shift.new.weights.items) (c.get.ensures ∙ c.in_ok-gone.ensures.there) c.shift.ensures))
    c.in_ok-gone.ensures.weights c.fits.ensures
