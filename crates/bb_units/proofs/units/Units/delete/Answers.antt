use Rattle.std.proofs.Common.{sym, subst}
use Rattle.bb_units.proofs.FitsLemmas.{FitsWith, with_layout, deleted_fit}
use Rattle.bb_units.proofs.units.Units.delete.Goals as goal

pub invariant_of-self : goal.invariant_of-self
invariant_of-self c =
    let l = c.self.inside.layout in
    subst (FitsWith l) (sym c.remove.ensures) (deleted_fit (with_layout l c.self.inside.units) c.self.invariant c.args.unit)
