use Rattle.std.proofs.Common.{◌≡◌, [], drop, map}
use Rattle.bb_basis.specs.Results.{try_fold_at}
use Rattle.bb_schema_form.specs.Document.{space_declaration}
use Rattle.bb_schema_form.specs.declared.place.ListKey.TheVariants as lists
use Rattle.bb_schema_classes.specs.Faults.{inside}
use Rattle.bb_schema.specs.SpaceReading.{space_after}
use Rattle.bb_schema.proofs.read.spaces.spaces_of.Given as goal

abbrev pub invariant-loop-index : goal.invariant-loop-index
invariant-loop-index l =
    try_fold_at (inside lists.Spaces) (space_after l.schema) l.index l.spaces (drop l.index (map space_declaration l.entries))
    ≡ try_fold_at (inside lists.Spaces) (space_after l.schema) 0 [] (map space_declaration l.entries)
