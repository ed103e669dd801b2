-- Faults of a document, and their places.
use Rattle.std.specs.Prelude.{ℕ}
use Rattle.bb_schema_form.specs.declared.fault.DocumentFault.{DocumentFault}
use Rattle.bb_schema_form.specs.declared.fault.DocumentFault.TheVariants.{Json, Shape, Memory}
use Rattle.bb_schema_form.specs.declared.place.ListKey.{ListKey}
use Rattle.bb_schema_form.specs.declared.place.DocumentPlace.TheVariants.{Whole}
use Rattle.bb_schema_form.specs.Places.{inside_place}

-- the fault of a value with a wrong form of its own
abbrev pub misshapen : DocumentFault
misshapen = Shape Whole

-- the fault of an entry, with its place seen from the value that lists the entry
abbrev pub inside : ListKey → ℕ → DocumentFault → DocumentFault
inside list index Json = Json
inside list index (Shape place) = Shape (inside_place list index place)
inside list index Memory = Memory
