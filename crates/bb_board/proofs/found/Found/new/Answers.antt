use Rattle.bb_board.proofs.FoundLemmas.{none_found}
use Rattle.bb_board.proofs.found.Found.new.Goals as goal

pub invariant_of-result : goal.invariant_of-result
invariant_of-result c = rw c.new.ensures.items (none_found c.new-2.result c.new-2.ensures.empty)
