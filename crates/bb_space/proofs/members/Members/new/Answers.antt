use Rattle.bb_space.proofs.LooseLemmas.{indexed_none}
use Rattle.bb_space.proofs.members.Members.new.Goals as goal

pub returns-clause-indexed : goal.returns-clause-indexed
returns-clause-indexed c = indexed_none (record { values = c.new.result; places = c.new-2.result }) c.new.ensures.empty c.new-2.ensures.empty
