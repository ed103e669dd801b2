use Rattle.std.proofs.Common.{sym, subst}
use Rattle.bb_schema.specs.Schema.{Schema}
use Rattle.bb_schema.specs.Fits.{AreSpaces}
use Rattle.bb_schema.specs.proving.Readings.{AreReadings}
use Rattle.bb_schema.proofs.SchemaFitLemmas.{spaced_fits}
use Rattle.bb_schema.proofs.schema.Schema.with_spaces.Goals as goal

pub invariant_of-schema : goal.invariant_of-schema
invariant_of-schema c =
    let before : Schema = record { label_sets = c.schema.inside.label_sets; classes = c.schema.inside.classes; slots = c.schema.inside.slots.items; spaces = c.schema.inside.spaces } in
    record { fits = spaced_fits before c.args.spaces c.schema.invariant.fits (subst (λ (s : Schema). AreSpaces s c.args.spaces) (sym c.schema.view_is) c.requires.spaces); counted = c.schema.invariant.counted; all = c.schema.invariant.all; told = c.schema.invariant.told; struck = record { owning = c.schema.invariant.struck.owning; tell = c.schema.invariant.struck.tell }; readings = subst (λ (s : Schema). AreReadings (record s { spaces = c.args.spaces }) c.args.readings) (sym c.schema.view_is) c.requires.readings }
