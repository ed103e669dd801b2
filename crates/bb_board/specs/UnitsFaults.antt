-- Faults of a document of first units: their numbers in refusals, and their places.
use Rattle.std.specs.Prelude.{ℕ, Bool, true, false}
use Rattle.bb_units.specs.declared.fault.CreateFault.{CreateFault}
use Rattle.bb_units.specs.declared.fault.CreateFault.TheVariants.{Full as NoMoreUnits, Memory as NoMemory}
use Rattle.bb_board.specs.declared.reason.Reason.{Reason}
use Rattle.bb_board.specs.declared.reason.Reason.TheVariants as reasons
use Rattle.bb_board.specs.declared.units_fault.UnitsFault.{UnitsFault}
use Rattle.bb_board.specs.declared.units_fault.UnitsFault.TheVariants.{At, Memory}
use Rattle.bb_board.specs.declared.units_fault.UnitsFlaw.{UnitsFlaw}
use Rattle.bb_board.specs.declared.units_fault.UnitsFlaw.TheVariants.{Json, Shape, Unknown, Twice, Kind, LinkClass}
use Rattle.bb_board.specs.declared.units_fault.UnitsFlaw.TheVariants.{Space, Full}
use Rattle.bb_schema_form.specs.Places.{inside_place}
use Rattle.bb_schema_form.specs.declared.place.ListKey.{ListKey}
use Rattle.bb_schema_form.specs.declared.place.DocumentPlace.TheVariants.{Whole}

abbrev pub flaw_number : UnitsFlaw → ℕ
flaw_number Json = 1
flaw_number Shape = 2
flaw_number Unknown = 3
flaw_number Twice = 4
flaw_number Kind = 5
flaw_number LinkClass = 6
flaw_number Space = 7
flaw_number Full = 8

abbrev pub fault_number : UnitsFault → ℕ
fault_number (At flaw place) = flaw_number flaw
fault_number Memory = 9

-- a fault of what is read, as a whole
abbrev pub here : UnitsFlaw → UnitsFault
here flaw = At flaw Whole

-- the fault of an entry, its place seen from the value that lists the entry
abbrev pub inside : ListKey → ℕ → UnitsFault → UnitsFault
inside list index (At flaw place) = At flaw (inside_place list index place)
inside list index Memory = Memory

-- memory ran out
abbrev pub is_memory : UnitsFault → Bool
is_memory Memory = true
is_memory _ = false

-- why a unit could not be created, as a fault of the document that names it
abbrev pub of_create_fault : CreateFault → UnitsFault
of_create_fault NoMoreUnits = here Full
of_create_fault NoMemory = Memory

-- why a link or an entry into a space may not be made, as a fault of the document that names it: a slot that is not a
-- link slot counts as one that does not exist
abbrev pub of_reason : Reason → UnitsFault
of_reason reasons.Deleted = here Unknown
of_reason reasons.Slot = here Unknown
of_reason reasons.Kind = here Kind
of_reason reasons.LinkClass = here LinkClass
of_reason reasons.Space = here Space
