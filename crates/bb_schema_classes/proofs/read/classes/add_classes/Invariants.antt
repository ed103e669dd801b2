use Rattle.std.proofs.Common.{◌≡◌, [], drop, map}
use Rattle.bb_basis.specs.Results.{try_fold_at}
use Rattle.bb_schema_form.specs.Document.{class_declaration}
use Rattle.bb_schema_classes.specs.Faults.{inside_class}
use Rattle.bb_schema_classes.specs.ClassReading.{class_after}
use Rattle.bb_schema_classes.proofs.read.classes.add_classes.Given as goal

abbrev pub invariant-loop-number : goal.invariant-loop-number
invariant-loop-number l =
    try_fold_at inside_class (class_after l.sets l.all) l.number l.draft (drop l.number (map class_declaration l.entries))
    ≡ try_fold_at inside_class (class_after l.sets l.all) 0 (record { classes = []; slots = [] }) (map class_declaration l.entries)
