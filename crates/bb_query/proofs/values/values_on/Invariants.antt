use Rattle.std.proofs.Common.{◌≡◌, ◌++◌, drop}
use Rattle.bb_schema.specs.Schema.{dims_of}
use Rattle.bb_query.specs.PresentValues.{values_on}
use Rattle.bb_query.proofs.values.values_on.Given as goal

abbrev pub invariant-loop-dim : goal.invariant-loop-dim
invariant-loop-dim l =
    l.values ++ values_on l.schema l.units l.unit l.class (drop l.dim (dims_of l.schema l.space))
    ≡ values_on l.schema l.units l.unit l.class (dims_of l.schema l.space)
