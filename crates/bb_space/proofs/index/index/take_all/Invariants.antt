use Rattle.bb_space.proofs.index_lemmas.PlaceLemmas.{IsTaking}
use Rattle.bb_space.proofs.index.index.take_all.Given as goal

abbrev pub invariant-loop-dim : goal.invariant-loop-dim
invariant-loop-dim l = IsTaking l.dim l.unit l.values l.except l.fn.places l.places
