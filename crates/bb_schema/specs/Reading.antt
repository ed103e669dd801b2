-- The schema that a text declares, or its first fault: the JSON, its form, then one walk over the entries.
use Rattle.std.specs.Prelude.{ℕ, [], List, Result, Ok}
use Rattle.bb_basis.specs.Results.{◌>>=◌, map_err, try_map, try_fold_at}
use Rattle.bb_schema_form.specs.Document.{Declarations, SpaceDeclaration}
use Rattle.bb_schema_form.specs.Form.{document_of}
use Rattle.bb_schema_form.specs.declared.fault.DocumentFault.{DocumentFault}
use Rattle.bb_schema_form.specs.declared.fault.DocumentFault.TheVariants.{Json, Shape, Memory}
use Rattle.bb_schema_classes.specs.declared.fault.SchemaFault.{SchemaFault}
use Rattle.bb_schema_classes.specs.declared.fault.SchemaFault.TheVariants.{At, Memory as OutOfMemory}
use Rattle.bb_schema_classes.specs.declared.fault.SchemaFlaw.TheVariants as flaws
use Rattle.bb_schema_classes.specs.Faults.{here, inside}
use Rattle.bb_schema_form.specs.declared.place.ListKey.TheVariants as lists
use Rattle.bb_schema.specs.Schema.{Schema}
use Rattle.bb_schema_classes.specs.declared.read.Walked.{Walked}
use Rattle.bb_schema_classes.specs.Walk.{walk_of}
use Rattle.bb_schema.specs.Resolution.{resolved_slot}
use Rattle.bb_schema.specs.SpaceReading.{space_after}

-- a fault of a document as a fault of a schema
abbrev pub fault_of : DocumentFault → SchemaFault
fault_of Json = here flaws.Json
fault_of (Shape place) = At flaws.Shape place
fault_of Memory = OutOfMemory

-- the schema of the walk's result, with numbers instead of names in links, and without spaces
unfoldable pub bare_schema : Walked → Result Schema SchemaFault
bare_schema w = do
  slots ← try_map (resolved_slot w.draft.classes w.draft.slots) w.draft.slots
  Ok (record { label_sets = w.label_sets; classes = w.draft.classes; slots = slots; spaces = [] })

-- the schema with the spaces of the entries
unfoldable pub schema_with_spaces : Schema → List SpaceDeclaration → Result Schema SchemaFault
schema_with_spaces bare entries =
    try_fold_at (inside lists.Spaces) (space_after bare) 0 [] entries >>= λ spaces. Ok (record bare { spaces = spaces })

-- the whole walk: label sets and classes, then spaces with their classes and dimensions
unfoldable pub declared_schema : Declarations → Result Schema SchemaFault
declared_schema declared = do
  walked ← walk_of declared.label_sets declared.classes
  bare ← bare_schema walked
  schema_with_spaces bare declared.spaces

-- the schema that a text declares
unfoldable pub schema_of : List ℕ → Result Schema SchemaFault
schema_of text = map_err fault_of (document_of text) >>= declared_schema
