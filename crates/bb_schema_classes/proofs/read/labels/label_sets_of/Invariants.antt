use Rattle.std.proofs.Common.{◌≡◌, [], drop, map}
use Rattle.bb_basis.specs.Results.{try_fold_at}
use Rattle.bb_schema_form.specs.Document.{label_set_declaration}
use Rattle.bb_schema_form.specs.declared.place.ListKey.TheVariants as lists
use Rattle.bb_schema_classes.specs.Faults.{inside}
use Rattle.bb_schema_classes.specs.LabelReading.{label_set_after}
use Rattle.bb_schema_classes.proofs.read.labels.label_sets_of.Given as goal

abbrev pub invariant-loop-index : goal.invariant-loop-index
invariant-loop-index l =
    try_fold_at (inside lists.Labels) label_set_after l.index l.sets (drop l.index (map label_set_declaration l.entries))
    ≡ try_fold_at (inside lists.Labels) label_set_after 0 [] (map label_set_declaration l.entries)
