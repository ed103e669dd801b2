use Rattle.std.proofs.Common.{◌∙◌}
use Rattle.bb_schema.proofs.bare.BareSchema.first.Goals as goal

pub returns : goal.returns
returns c = rw (← c.self.view_is) (c.indexed_place.ensures ∙ c.self.invariant.index.first c.args.name.now)
