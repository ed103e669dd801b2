use Rattle.bb_space.specs.index.proving.Places.{ArePut}
use Rattle.bb_space.proofs.index_lemmas.PlaceLemmas.{AreFirstIn}
use Rattle.bb_space.proofs.index.index.put_all.Given as goal

abbrev pub invariant-loop-dim : goal.invariant-loop-dim
invariant-loop-dim l = ArePut l.unit l.values l.fn.places l.places × AreFirstIn l.dim l.unit l.values l.except l.places
