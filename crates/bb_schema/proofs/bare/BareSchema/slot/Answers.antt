use Rattle.std.proofs.Common.{◌∙◌, ap, List, Option, ℕ}
use Rattle.bb_schema.specs.Schema.{slots_of}
use Rattle.bb_schema.specs.proving.Readings.{slot_with}
use Rattle.bb_schema.proofs.bare.BareSchema.slot.Goals as goal

pub returns : goal.returns
returns c =
    rw (← c.self.view_is) (c.slot_by.ensures ∙ ap (λ (firsts : List (Option ℕ)). slot_with firsts (slots_of c.self.inside.schema.now c.args.class) c.args.first) (c.as_slice.ensures ∙ c.self.invariant.firsts))
