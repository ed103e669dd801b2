use Rattle.std.proofs.Common.{◌≡◌, [], drop, map}
use Rattle.bb_basis.specs.Results.{try_fold_at}
use Rattle.bb_schema_form.specs.Document.{dim_declaration}
use Rattle.bb_schema_form.specs.declared.place.ListKey.TheVariants as lists
use Rattle.bb_schema_classes.specs.Faults.{inside}
use Rattle.bb_schema.specs.SpaceReading.{dim_after}
use Rattle.bb_schema.proofs.read.spaces.dims_of.Given as goal

abbrev pub invariant-loop-index : goal.invariant-loop-index
invariant-loop-index l =
    try_fold_at (inside lists.Dims) (dim_after l.schema l.listed) l.index l.dims (drop l.index (map dim_declaration l.entries))
    ≡ try_fold_at (inside lists.Dims) (dim_after l.schema l.listed) 0 [] (map dim_declaration l.entries)
