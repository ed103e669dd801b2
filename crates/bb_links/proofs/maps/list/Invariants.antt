use Rattle.std.proofs.Common.{◌≡◌, ◌++◌}
use Rattle.std.specs.Map.{values_of}
use Rattle.bb_links.specs.proving.Maps.{row}
use Rattle.bb_links.proofs.maps.list.Given as goal

abbrev pub invariant-loop-value : goal.invariant-loop-value
invariant-loop-value l = l.list.items ++ values_of l.value-iterator ≡ row l.map l.number l.end
