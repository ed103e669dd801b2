use Rattle.std.proofs.Common.{◌≡◌, true, sym, subst}
use Rattle.std.specs.Prelude.{is_some}
use Rattle.std.proofs.lemmas.Bool.{and_parts}
use Rattle.bb_units.specs.Layout.{can_hold}
use Rattle.bb_units.specs.Units.{Units, value_of}
use Rattle.bb_units.proofs.FitsLemmas.{FitsWith, with_layout, updated_fit}
use Rattle.bb_units.proofs.units.Units.set.Goals as goal

pub invariant_of-self : goal.invariant_of-self
invariant_of-self c =
    let l = c.self.inside.layout in
    let parts = and_parts (is_some (value_of c.args.self.now c.args.unit c.args.slot)) (can_hold c.args.self.now.layout c.args.slot c.args.value) c.requires in
    let held = subst (λ (u : Units). can_hold u.layout c.args.slot c.args.value ≡ true) (sym c.self.view_is) parts.1 in
    subst (FitsWith l) (sym c.set.ensures) (updated_fit (with_layout l c.self.inside.units) c.self.invariant c.args.unit c.args.slot c.args.value held)
