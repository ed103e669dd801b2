use Rattle.std.proofs.Common.{◌≡◌, map, take}
use Rattle.bb_schema.specs.proving.Relation.{through}
use Rattle.bb_schema.proofs.relation.pass.Given as goal

abbrev pub invariant-loop-row : goal.invariant-loop-row
invariant-loop-row l = l.joined.items ≡ map (λ row. through row l.other l.number) (take l.row-index l.rows)
