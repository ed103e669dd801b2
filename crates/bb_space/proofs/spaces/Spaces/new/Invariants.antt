use Rattle.bb_space.proofs.ListLemmas.{AreBlank}
use Rattle.bb_space.proofs.spaces.Spaces.new.Given as goal

abbrev pub invariant-loop : goal.invariant-loop
invariant-loop l = AreBlank l.counter l.schema.spaces l.spaces.items
