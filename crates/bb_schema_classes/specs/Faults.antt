-- Faults of a schema: their numbers in refusals, and their places.
use Rattle.std.specs.Prelude.{ℕ, ◌-◌}
use Rattle.bb_schema_form.specs.Places.{inside_place}
use Rattle.bb_schema_form.specs.declared.place.ListKey.{ListKey}
use Rattle.bb_schema_form.specs.declared.place.ListKey.TheVariants.{Classes}
use Rattle.bb_schema_form.specs.declared.place.DocumentPlace.TheVariants.{Whole}
use Rattle.bb_schema_classes.specs.declared.fault.SchemaFlaw.{SchemaFlaw}
use Rattle.bb_schema_classes.specs.declared.fault.SchemaFlaw.TheVariants.{Json, Shape, Name, Twice, Unknown, Inverse, Dimension, Limit}
use Rattle.bb_schema_classes.specs.declared.fault.SchemaFault.{SchemaFault}
use Rattle.bb_schema_classes.specs.declared.fault.SchemaFault.TheVariants.{At, Memory}

abbrev pub flaw_number : SchemaFlaw → ℕ
flaw_number Json = 1
flaw_number Shape = 2
flaw_number Name = 3
flaw_number Twice = 4
flaw_number Unknown = 5
flaw_number Inverse = 6
flaw_number Dimension = 7
flaw_number Limit = 8

abbrev pub fault_number : SchemaFault → ℕ
fault_number (At flaw place) = flaw_number flaw
fault_number Memory = 9

-- the fault of the value that is being read, not of an entry of one of its lists
abbrev pub here : SchemaFlaw → SchemaFault
here flaw = At flaw Whole

-- the fault of an entry, with its place seen from the value that lists the entry
abbrev pub inside : ListKey → ℕ → SchemaFault → SchemaFault
inside list index (At flaw place) = At flaw (inside_place list index place)
inside list index Memory = Memory

-- the fault of the class with a number; `focus`, number 0, has no entry in the document
abbrev pub inside_class : ℕ → SchemaFault → SchemaFault
inside_class number fault = inside Classes (number - 1) fault
