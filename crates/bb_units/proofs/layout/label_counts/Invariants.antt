use Rattle.std.proofs.Common.{◌≡◌, map, take, length}
use Rattle.bb_units.proofs.layout.label_counts.Given as goal

abbrev pub invariant-loop-set : goal.invariant-loop-set
invariant-loop-set l = l.counts.items ≡ map (λ s. length s.values) (take l.set l.schema.label_sets)
