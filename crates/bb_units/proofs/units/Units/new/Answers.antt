use Rattle.std.proofs.Common.{sym, subst}
use Rattle.bb_units.specs.Fits.{HoldsDefaults}
use Rattle.bb_units.proofs.FitsLemmas.{FitsWith, none_fit}
use Rattle.bb_units.proofs.KindLemmas.{layout_holds}
use Rattle.bb_units.proofs.units.Units.new.Goals as goal

pub invariant_of-result : goal.invariant_of-result
invariant_of-result c =
    let l = c.in_ok-of.field-0 in
    subst (FitsWith l) (sym c.new.ensures) (none_fit l (subst HoldsDefaults (sym c.in_ok-of.ensures) (layout_holds c.args.schema.now c.fits.ensures)))
