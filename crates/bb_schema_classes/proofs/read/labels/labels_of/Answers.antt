use Rattle.std.proofs.Common.{refl}
use Rattle.std.proofs.lemmas.Result.{err_from_is_err_and}
use Rattle.std.specs.Prelude.{string_bytes}
use Rattle.bb_schema_form.specs.declared.place.ListKey.TheVariants as lists
use Rattle.bb_schema_classes.specs.Faults.{inside}
use Rattle.bb_schema_classes.specs.LabelReading.{label_after}
use Rattle.bb_schema_classes.specs.declared.fault.SchemaFault.TheVariants.{Memory}
use Rattle.bb_basis.proofs.PlacedLemmas.{placed_err, placed_ok}
use Rattle.bb_basis.proofs.FoldAtLemmas.{fold_at_next, fold_at_error, fold_at_end}
use Rattle.bb_schema_classes.proofs.read.labels.labels_of.Goals as goal

pub returns-in_err-placed : goal.returns-in_err-placed
returns-in_err-placed c =
    let p = err_from_is_err_and c.from_residual.result c.from_residual.ensures.1 in
    rw (p.1, p.2) (fold_at_error Memory (inside lists.Values) label_after string_bytes c.loop-index.labels c.args.names.now c.loop-index.index c.index-names-index.result c.in_err-placed.field-0.0 _ c.loop-index-test.true c.index-names-index.is
    (placed_err Memory Memory (inside lists.Values c.loop-index.index) (λ _. c.add_label.new.labels) c.add_label.result (label_after c.loop-index.labels (string_bytes c.index-names-index.result)) c.in_err-placed.field-0.0 refl (rw c.as_str.ensures.value at c.add_label.ensures) c.in_err-placed.ensures) c.loop-index.invariant)

pub loop-index-preserved : goal.loop-index-preserved
loop-index-preserved c =
    fold_at_next (inside lists.Values) label_after string_bytes c.loop-index.labels c.add_label.new.labels c.args.names.now c.loop-index.index c.index-names-index.result _ c.loop-index-test.true c.index-names-index.is
    (placed_ok Memory (inside lists.Values c.loop-index.index) (λ _. c.add_label.new.labels) c.add_label.result (label_after c.loop-index.labels (string_bytes c.index-names-index.result)) c.in_ok-placed.field-0 (rw c.as_str.ensures.value at c.add_label.ensures) c.in_ok-placed.ensures) c.loop-index.invariant

pub returns : goal.returns
returns c = fold_at_end (inside lists.Values) label_after string_bytes c.loop-index.labels c.args.names.now c.loop-index.index _ c.loop-index-test.false c.loop-index.invariant
