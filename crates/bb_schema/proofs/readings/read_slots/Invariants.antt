use Rattle.std.proofs.Common.{◌≡◌, drop}
use Rattle.std.specs.List.{fold}
use Rattle.bb_schema.specs.proving.Readings.{mark_first, read_slots}
use Rattle.bb_schema.proofs.readings.read_slots.Given as goal

abbrev pub invariant-loop-firsts : goal.invariant-loop-firsts
invariant-loop-firsts l = fold (fold mark_first) l.read.items (drop l.firsts-index l.dims) ≡ read_slots l.count l.dims
