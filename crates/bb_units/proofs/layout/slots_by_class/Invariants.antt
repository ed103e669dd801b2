use Rattle.std.proofs.Common.{◌≡◌, map, take}
use Rattle.bb_units.proofs.layout.slots_by_class.Given as goal

abbrev pub invariant-loop-class : goal.invariant-loop-class
invariant-loop-class l = map (λ v. v.items) l.lists.items ≡ map (λ k. k.slots) (take l.class l.schema.classes)
