use Rattle.std.proofs.Common.{◌≡◌, drop, map}
use Rattle.bb_basis.specs.Results.{try_fold_at}
use Rattle.bb_schema_form.specs.Document.{slot_declaration}
use Rattle.bb_schema_form.specs.declared.place.ListKey.TheVariants as lists
use Rattle.bb_schema_classes.specs.Faults.{inside}
use Rattle.bb_schema_classes.specs.SlotReading.{slot_after}
use Rattle.bb_schema_classes.proofs.read.slots.add_slots.Given as goal

abbrev pub invariant-loop-index : goal.invariant-loop-index
invariant-loop-index l =
    try_fold_at (inside lists.Slots) (slot_after l.sets l.owner) l.index l.class (drop l.index (map slot_declaration l.entries))
    ≡ try_fold_at (inside lists.Slots) (slot_after l.sets l.owner) 0 l.fn.class (map slot_declaration l.entries)
