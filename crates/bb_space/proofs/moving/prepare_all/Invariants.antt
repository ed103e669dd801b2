use Rattle.std.proofs.Common.{drop}
use Rattle.bb_space.proofs.MovingLemmas.{IsPreparing}
use Rattle.bb_space.proofs.moving.prepare_all.Given as goal

abbrev pub invariant-loop-space : goal.invariant-loop-space
invariant-loop-space l = IsPreparing l.unit l.moves (drop l.space-index l.moves) l.fn.spaces.items l.spaces.items
