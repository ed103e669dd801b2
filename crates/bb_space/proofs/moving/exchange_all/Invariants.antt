use Rattle.bb_space.proofs.MovingLemmas.{IsExchanging}
use Rattle.bb_space.proofs.moving.exchange_all.Given as goal

abbrev pub invariant-loop-index : goal.invariant-loop-index
invariant-loop-index l = IsExchanging l.index l.unit l.fn.moves.items l.fn.spaces.items l.moves.items l.spaces.items
