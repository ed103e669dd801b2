use Rattle.std.proofs.Common.{◌≡◌}
use Rattle.bb_schema.specs.proving.Relation.{closed_by}
use Rattle.bb_schema.proofs.relation.closed.Given as goal

abbrev pub invariant-loop-number : goal.invariant-loop-number
invariant-loop-number l = l.rows.items ≡ closed_by l.number l.fn.rows.items
