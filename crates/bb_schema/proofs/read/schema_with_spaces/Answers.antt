use Rattle.std.proofs.Common.{subst, sym, map}
use Rattle.bb_schema_form.specs.Document.{space_declaration}
use Rattle.bb_schema.specs.Schema.{Schema}
use Rattle.bb_schema.specs.Fits.{AreSpaces}
use Rattle.bb_schema.specs.proving.Readings.{AreReadings}
use Rattle.bb_schema.proofs.SchemaFitLemmas.{spaces_fit}
use Rattle.bb_schema.proofs.read.schema_with_spaces.Goals as goal

pub of-requires-2 : goal.of-requires-2
of-requires-2 c = subst (AreSpaces c.in_ok-slots.slots) (sym c.as_slice.ensures) (spaces_fit c.in_ok-slots.slots (map space_declaration c.args.entries.now) c.in_ok-spaces.spaces c.in_ok-spaces.ensures)

pub with_spaces-requires-clause-spaces : goal.with_spaces-requires-clause-spaces
with_spaces-requires-clause-spaces c = subst (λ (s : Schema). AreSpaces s c.in_ok-spaces.spaces) c.in_ok-slots.ensures (spaces_fit c.in_ok-slots.slots (map space_declaration c.args.entries.now) c.in_ok-spaces.spaces c.in_ok-spaces.ensures)

pub with_spaces-requires-clause-readings : goal.with_spaces-requires-clause-readings
with_spaces-requires-clause-readings c = rw c.as_slice.ensures at (subst (λ (s : Schema). AreReadings (record s { spaces = c.as_slice.result.now }) c.in_ok-readings.readings) c.in_ok-slots.ensures c.in_ok-readings.ensures)
