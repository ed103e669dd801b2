use Rattle.std.proofs.Common.{◌≡◌, Bool, Some, None, sym, subst, ◌∙◌, ◌+ℤ◌}
use Rattle.bb_agenda.specs.declared.focusing.focus.Focus.{Focus}
use Rattle.bb_agenda.specs.focusing.proving.Weights.{part_of, weight_by}
use Rattle.bb_agenda.proofs.focusing_lemmas.ShiftLemmas.{weights_same, weights_shifted, no_more}
use Rattle.bb_agenda.proofs.focusing.steering.Steering.remove.Goals as goal

pub invariant_of-self : goal.invariant_of-self
invariant_of-self c =
    weights_same c.self.inside.setting c.self.inside.foci c.remove.new.self c.self.inside.weights.items c.self.invariant
    (λ (p : Focus → Bool). subst (λ g. weight_by p c.remove.new.self +ℤ part_of p g ≡ weight_by p c.self.inside.foci) c.in_default.is (c.remove.ensures.weights p))

pub invariant_of-self-2 : goal.invariant_of-self-2
invariant_of-self-2 c =
    weights_shifted c.self.inside.setting (Some c.in-Some.gone) None c.self.inside.weights.items c.self.inside.foci c.remove.new.self c.shift.new.weights.items c.self.invariant c.shift.ensures
    (λ (p : Focus → Bool). subst (λ g. weight_by p c.remove.new.self +ℤ part_of p g ≡ weight_by p c.self.inside.foci) c.in-Some.is (c.remove.ensures.weights p) ∙ sym (no_more (weight_by p c.self.inside.foci))) c.fits.ensures
