use Rattle.std.proofs.Common.{◌≡◌, ◌++◌, drop}
use Rattle.std.specs.List.{filter_map}
use Rattle.bb_units.specs.proving.Numbered.{number_if_used}
use Rattle.bb_units.proofs.numbered.used_numbers.Given as goal

abbrev pub invariant-loop-unit : goal.invariant-loop-unit
invariant-loop-unit l = l.list.items ++ filter_map number_if_used (drop l.unit-index l.entries) ≡ filter_map number_if_used l.entries
