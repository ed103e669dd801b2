use Rattle.std.proofs.Common.{sym, subst, take, ◌+◌}
use Rattle.bb_verify.specs.nesting.proving.LoopTables.{HasEnds}
use Rattle.bb_verify.proofs.nesting_lemmas.LoopTableLemmas.{ends_more}
use Rattle.bb_verify.proofs.nesting.loop_tables.ends_of.Goals as goal

pub loop-l-preserved : goal.loop-l-preserved
loop-l-preserved c =
    subst (HasEnds c.args.count (take (c.loop-l.l-index + 1) c.args.loops.now)) (sym c.put_end.ensures)
    (ends_more c.args.count c.loop-l.l-index c.args.loops.now _ c.loop-l.ends.items c.loop-l-test.true c.loop-l.invariant)
