use Rattle.bb_links.proofs.ListedLemmas.{IsMade}
use Rattle.bb_links.proofs.pairs.by_stamp.Given as goal

abbrev pub invariant-loop-pair : goal.invariant-loop-pair
invariant-loop-pair l = IsMade l.stamps l.pairs l.pair-iterator
