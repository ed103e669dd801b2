use Rattle.std.proofs.Common.{◌≡◌, ◌++◌, map, drop}
use Rattle.bb_units.specs.Layout.{defaults_of}
use Rattle.bb_units.proofs.layout.blocks_by_class.Given as goal

abbrev pub invariant-loop-slots : goal.invariant-loop-slots
invariant-loop-slots l =
    l.blocks.items ++ map (λ v. defaults_of l.defaults v.items) (drop l.slots-index l.lists)
    ≡ map (λ v. defaults_of l.defaults v.items) l.lists
