use Rattle.std.proofs.Common.{refl}
use Rattle.std.proofs.lemmas.Result.{err_from_is_err_and}
use Rattle.bb_schema_form.specs.Document.{class_declaration}
use Rattle.bb_schema_classes.specs.Faults.{inside_class}
use Rattle.bb_schema_classes.specs.ClassReading.{class_after}
use Rattle.bb_schema_classes.specs.declared.fault.SchemaFault.TheVariants.{Memory}
use Rattle.bb_basis.proofs.PlacedLemmas.{placed_err, placed_ok}
use Rattle.bb_basis.proofs.FoldAtLemmas.{fold_at_next, fold_at_error, fold_at_end}
use Rattle.bb_schema_classes.proofs.read.classes.add_classes.Goals as goal

pub returns-in_err-placed : goal.returns-in_err-placed
returns-in_err-placed c =
    let p = err_from_is_err_and c.from_residual.result c.from_residual.ensures.1 in
    rw (p.1, p.2) (fold_at_error Memory inside_class (class_after c.args.sets.now c.args.all.now) class_declaration c.loop-number.draft c.args.entries.now c.loop-number.number c.index-entries-number.result c.in_err-placed.field-0.0 _ c.loop-number-test.true c.index-entries-number.is
    (placed_err Memory Memory (inside_class c.loop-number.number) (λ _. c.add_class.new.draft) c.add_class.result ((class_after c.args.sets.now c.args.all.now) c.loop-number.draft (class_declaration c.index-entries-number.result)) c.in_err-placed.field-0.0 refl c.add_class.ensures (rw c.saturating_sub.ensures at c.in_err-placed.ensures)) c.loop-number.invariant)

pub loop-number-preserved : goal.loop-number-preserved
loop-number-preserved c =
    fold_at_next inside_class (class_after c.args.sets.now c.args.all.now) class_declaration c.loop-number.draft c.add_class.new.draft c.args.entries.now c.loop-number.number c.index-entries-number.result _ c.loop-number-test.true c.index-entries-number.is
    (placed_ok Memory (inside_class c.loop-number.number) (λ _. c.add_class.new.draft) c.add_class.result ((class_after c.args.sets.now c.args.all.now) c.loop-number.draft (class_declaration c.index-entries-number.result)) c.in_ok-placed.field-0 c.add_class.ensures (rw c.saturating_sub.ensures at c.in_ok-placed.ensures)) c.loop-number.invariant

pub returns : goal.returns
returns c = fold_at_end inside_class (class_after c.args.sets.now c.args.all.now) class_declaration c.loop-number.draft c.args.entries.now c.loop-number.number _ c.loop-number-test.false c.loop-number.invariant
