use Rattle.std.proofs.Common.{sym, ◌∙◌}
use Rattle.bb_lint.specs.Warnings.{warning_at}
use Rattle.bb_lint.proofs.ListLemmas.{put_told, left_told}
use Rattle.bb_lint.proofs.warning.warn_of_ops.Goals as goal

pub loop-place-preserved-in_default : goal.loop-place-preserved-in_default
loop-place-preserved-in_default c =
    left_told (warning_at c.args.schema.now c.args.checked.now) c.loop-place.warnings.items c.args.warnings.now.items c.loop-place.place (sym c.in_default.ensures) c.loop-place.invariant

pub loop-place-preserved : goal.loop-place-preserved
loop-place-preserved c =
    c.in_ok-push.ensures.items
    ∙ put_told (warning_at c.args.schema.now c.args.checked.now) c.loop-place.warnings.items c.args.warnings.now.items c.loop-place.place c.in-Some.warning (sym c.in-Some.ensures) c.loop-place.invariant
