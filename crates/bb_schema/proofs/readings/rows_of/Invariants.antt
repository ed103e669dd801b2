use Rattle.std.proofs.Common.{◌≡◌, map}
use Rattle.std.specs.List.{range_with_len}
use Rattle.bb_schema.specs.proving.Relation.{row_has}
use Rattle.bb_schema_classes.specs.Firsts.{row_if}
use Rattle.bb_schema.proofs.readings.rows_of.Given as goal

abbrev pub invariant-loop-first : goal.invariant-loop-first
invariant-loop-first l = l.rows.items ≡ map (λ first. row_if (row_has l.read first) l.dims first) (range_with_len 0 l.first)
