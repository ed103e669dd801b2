use Rattle.std.proofs.Common.{◌≡◌, ◌-◌, length}
use Rattle.std.specs.List.{range_with_len}
use Rattle.bb_code.specs.Each.{each}
use Rattle.bb_verify.specs.Tables.{table_at}
use Rattle.bb_verify.proofs.tables.all_in_tables.Given as goal

abbrev pub invariant-loop-place : goal.invariant-loop-place
invariant-loop-place l = each (table_at l.schema l.code) (range_with_len l.place (length l.code.ops - l.place)) ≡ each (table_at l.schema l.code) (range_with_len 0 (length l.code.ops))
