use Rattle.std.proofs.Common.{◌≡◌, map, take}
use Rattle.bb_schema.specs.Slots.{default_in}
use Rattle.bb_units.proofs.layout.defaults_by_slot.Given as goal

abbrev pub invariant-loop-slot : goal.invariant-loop-slot
invariant-loop-slot l = l.defaults.items ≡ map (λ t. default_in t.content) (take l.slot l.schema.slots)
