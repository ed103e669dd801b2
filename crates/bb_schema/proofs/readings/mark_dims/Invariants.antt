use Rattle.std.proofs.Common.{◌≡◌, drop}
use Rattle.std.specs.List.{fold}
use Rattle.bb_schema.specs.proving.Readings.{mark_first}
use Rattle.bb_schema.proofs.readings.mark_dims.Given as goal

abbrev pub invariant-loop-first : goal.invariant-loop-first
invariant-loop-first l = fold mark_first l.read.items (drop l.first-index l.dims) ≡ fold mark_first l.fn.read.items l.dims
