use Rattle.std.proofs.Common.{◌≡◌, ◌++◌, drop}
use Rattle.bb_units.specs.Layout.{defaults_of}
use Rattle.bb_units.proofs.layout.defaults_of.Given as goal

abbrev pub invariant-loop-slot : goal.invariant-loop-slot
invariant-loop-slot l = l.entries.items ++ defaults_of l.defaults (drop l.slot-index l.slots) ≡ defaults_of l.defaults l.slots
