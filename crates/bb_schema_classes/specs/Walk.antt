-- The result of a walk over the label sets and classes of a document, or its first fault.
use Rattle.std.specs.Prelude.{◌∷◌, [], List, Result, Ok}
use Rattle.bb_basis.specs.Results.{◌>>=◌, try_fold_at}
use Rattle.bb_schema_form.specs.declared.place.ListKey.TheVariants as lists
use Rattle.bb_schema_form.specs.Document.{LabelSetDeclaration, ClassDeclaration}
use Rattle.bb_schema_classes.specs.declared.fault.SchemaFault.{SchemaFault}
use Rattle.bb_schema_classes.specs.Faults.{inside}
-- the label sets, the classes and all slots
pub use Rattle.bb_schema_classes.specs.declared.read.Walked.{Walked}
use Rattle.bb_schema_classes.specs.LabelReading.{label_set_after}
use Rattle.bb_schema_classes.specs.ClassReading.{focus, draft_of}

-- label sets with their labels, then classes with their slots and links, `focus` before all
unfoldable pub walk_of : List LabelSetDeclaration → List ClassDeclaration → Result Walked SchemaFault
walk_of sets classes = do
  label_sets ← try_fold_at (inside lists.Labels) label_set_after 0 [] sets
  draft ← draft_of label_sets (focus ∷ classes) (focus ∷ classes)
  Ok (record { label_sets = label_sets; draft = draft })
