use Rattle.std.proofs.Common.{ap}
use Rattle.std.specs.Map.{values_of}
use Rattle.bb_agenda.proofs.FiledLemmas.{filed_none}
use Rattle.bb_agenda.proofs.RankLemmas.{ranked_none}
use Rattle.bb_agenda.proofs.waiting.Waiting.new.Goals as goal

pub invariant_of-result : goal.invariant_of-result
invariant_of-result c =
    rw (c.new.ensures.empty, c.new-3.ensures.items) (record { keyed = tt; filed = filed_none c.new-2.result c.new-2.ensures.sources c.new-2.ensures.units; ranked = ranked_none })

pub returns : goal.returns
returns c = ap values_of c.new.ensures.empty
