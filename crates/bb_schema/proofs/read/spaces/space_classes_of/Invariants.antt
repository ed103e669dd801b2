use Rattle.std.proofs.Common.{◌≡◌, [], drop, map}
use Rattle.bb_basis.specs.Results.{try_fold_at}
use Rattle.std.specs.Prelude.{string_bytes}
use Rattle.bb_schema_form.specs.declared.place.ListKey.TheVariants as lists
use Rattle.bb_schema_classes.specs.Faults.{inside}
use Rattle.bb_schema.specs.SpaceReading.{space_class_after}
use Rattle.bb_schema.proofs.read.spaces.space_classes_of.Given as goal

abbrev pub invariant-loop-index : goal.invariant-loop-index
invariant-loop-index l =
    try_fold_at (inside lists.Classes) (space_class_after l.schema) l.index l.listed (drop l.index (map string_bytes l.names))
    ≡ try_fold_at (inside lists.Classes) (space_class_after l.schema) 0 [] (map string_bytes l.names)
