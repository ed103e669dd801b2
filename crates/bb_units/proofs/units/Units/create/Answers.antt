use Rattle.std.proofs.Common.{ℕ, ◌<◌, ◌∙◌, List, length, sym, ap, subst, arith}
use Rattle.bb_schema_classes.specs.declared.value.Value.{Value}
use Rattle.bb_units.specs.Units.{Units}
use Rattle.bb_units.specs.proving.Numbered.{one_given}
use Rattle.bb_units.proofs.FitsLemmas.{FitsWith, with_layout, created_fit}
use Rattle.bb_units.proofs.units.Units.create.Goals as goal

pub invariant_of-self-2 : goal.invariant_of-self-2
invariant_of-self-2 c =
    let l = c.self.inside.layout in
    let g = c.self.inside.units in
    let there = subst (λ (u : Units). c.args.class < length u.layout.slots) (sym c.self.view_is) c.requires in
    let made = c.in_ok-push.ensures.ok ∙ ap (λ (values : List (ℕ × Value)). one_given g (record { class = c.args.class; values = values })) c.in_ok-values.ensures in
    subst (FitsWith l) (sym made) (created_fit (with_layout l g) c.self.invariant c.args.class there (omega arith) (omega arith))
