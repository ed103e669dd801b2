use Rattle.std.proofs.Common.{◌≡◌, map}
use Rattle.std.specs.List.{range_with_len}
use Rattle.bb_schema.specs.Heirs.{owned_classes}
use Rattle.bb_schema.specs.proving.Struck.{first_row}
use Rattle.bb_schema.proofs.struck.first_rows.Given as goal

abbrev pub invariant-loop-class : goal.invariant-loop-class
invariant-loop-class l = l.rows.items ≡ map (λ c. first_row l.count (owned_classes l.lineage l.slots c) c) (range_with_len 0 l.class)
