use Rattle.std.proofs.Common.{◌≡◌, drop, map}
use Rattle.bb_basis.specs.Results.{try_fold_at}
use Rattle.bb_schema_form.specs.Document.{link_declaration}
use Rattle.bb_schema_form.specs.declared.place.ListKey.TheVariants as lists
use Rattle.bb_schema_classes.specs.Faults.{inside}
use Rattle.bb_schema_classes.specs.LinkReading.{link_after}
use Rattle.bb_schema_classes.proofs.read.links.add_links.Given as goal

abbrev pub invariant-loop-index : goal.invariant-loop-index
invariant-loop-index l =
    try_fold_at (inside lists.Links) (link_after l.all l.owner.name l.owner.number) l.index l.draft (drop l.index (map link_declaration l.entries))
    ≡ try_fold_at (inside lists.Links) (link_after l.all l.owner.name l.owner.number) 0 l.fn.draft (map link_declaration l.entries)
