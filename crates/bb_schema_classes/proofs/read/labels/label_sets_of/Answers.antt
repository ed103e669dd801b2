use Rattle.std.proofs.Common.{refl}
use Rattle.std.proofs.lemmas.Result.{err_from_is_err_and}
use Rattle.bb_schema_form.specs.Document.{label_set_declaration}
use Rattle.bb_schema_form.specs.declared.place.ListKey.TheVariants as lists
use Rattle.bb_schema_classes.specs.Faults.{inside}
use Rattle.bb_schema_classes.specs.LabelReading.{label_set_after}
use Rattle.bb_schema_classes.specs.declared.fault.SchemaFault.TheVariants.{Memory}
use Rattle.bb_basis.proofs.PlacedLemmas.{placed_err, placed_ok}
use Rattle.bb_basis.proofs.FoldAtLemmas.{fold_at_next, fold_at_error, fold_at_end}
use Rattle.bb_schema_classes.proofs.read.labels.label_sets_of.Goals as goal

pub returns-in_err-placed : goal.returns-in_err-placed
returns-in_err-placed c =
    let p = err_from_is_err_and c.from_residual.result c.from_residual.ensures.1 in
    rw (p.1, p.2) (fold_at_error Memory (inside lists.Labels) label_set_after label_set_declaration c.loop-index.sets c.args.entries.now c.loop-index.index c.index-entries-index.result c.in_err-placed.field-0.0 _ c.loop-index-test.true c.index-entries-index.is
    (placed_err Memory Memory (inside lists.Labels c.loop-index.index) (λ _. c.add_label_set.new.sets) c.add_label_set.result (label_set_after c.loop-index.sets (label_set_declaration c.index-entries-index.result)) c.in_err-placed.field-0.0 refl c.add_label_set.ensures c.in_err-placed.ensures) c.loop-index.invariant)

pub loop-index-preserved : goal.loop-index-preserved
loop-index-preserved c =
    fold_at_next (inside lists.Labels) label_set_after label_set_declaration c.loop-index.sets c.add_label_set.new.sets c.args.entries.now c.loop-index.index c.index-entries-index.result _ c.loop-index-test.true c.index-entries-index.is
    (placed_ok Memory (inside lists.Labels c.loop-index.index) (λ _. c.add_label_set.new.sets) c.add_label_set.result (label_set_after c.loop-index.sets (label_set_declaration c.index-entries-index.result)) c.in_ok-placed.field-0 c.add_label_set.ensures c.in_ok-placed.ensures) c.loop-index.invariant

pub returns : goal.returns
returns c = fold_at_end (inside lists.Labels) label_set_after label_set_declaration c.loop-index.sets c.args.entries.now c.loop-index.index _ c.loop-index-test.false c.loop-index.invariant
