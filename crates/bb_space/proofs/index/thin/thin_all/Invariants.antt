use Rattle.bb_space.specs.index.proving.Marks.{LeavesAllNear}
use Rattle.bb_space.proofs.index.thin.thin_all.Given as goal

abbrev pub invariant-loop-test : goal.invariant-loop-test
invariant-loop-test l = LeavesAllNear l.tests l.places l.among l.list.items
