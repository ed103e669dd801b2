use Rattle.std.proofs.Common.{◌≡◌, drop}
use Rattle.bb_schema.specs.proving.Struck.{all_marked, first_row}
use Rattle.bb_schema.proofs.struck.first_row.Given as goal

abbrev pub invariant-loop-to : goal.invariant-loop-to
invariant-loop-to l = all_marked l.row.items (drop l.to-index l.owned) ≡ first_row l.count l.owned l.class
