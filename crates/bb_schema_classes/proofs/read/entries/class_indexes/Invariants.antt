use Rattle.std.proofs.Common.{◌≡◌, map, take}
use Rattle.bb_schema_form.specs.Document.{class_declaration}
use Rattle.bb_schema_classes.proofs.read.entries.class_indexes.Given as goal

abbrev pub invariant-loop-entry : goal.invariant-loop-entry
invariant-loop-entry l = l.classes.items ≡ take l.entry-index (map class_declaration l.entries)
