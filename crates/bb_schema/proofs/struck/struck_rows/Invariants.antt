use Rattle.std.proofs.Common.{◌≡◌, length, map, take}
use Rattle.bb_schema.specs.proving.Struck.{members, struck_row}
use Rattle.bb_schema.proofs.struck.struck_rows.Given as goal

abbrev pub invariant-loop-row : goal.invariant-loop-row
invariant-loop-row l = l.rows.items ≡ map (λ row. struck_row l.lineage (members (length l.lineage) row)) (take l.row-index l.closed)
