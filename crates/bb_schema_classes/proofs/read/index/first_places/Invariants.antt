use Rattle.std.proofs.Common.{map, take}
use Rattle.bb_schema_classes.specs.proving.Entries.{IsIndex}
use Rattle.bb_schema_classes.proofs.read.index.first_places.Given as goal

abbrev pub invariant-loop-place : goal.invariant-loop-place
invariant-loop-place g l = IsIndex l.places (take l.place (map g.T.NamedEntry.name_of l.entries))
