use Rattle.bb_schema.specs.proving.Readings.{mark_first}
use Rattle.bb_schema.proofs.ReadingLemmas.{fold_next_or, fold_end}
use Rattle.bb_schema.proofs.readings.mark_dims.Goals as goal

pub loop-first-preserved : goal.loop-first-preserved
loop-first-preserved c = fold_next_or mark_first c.loop-first.read.items c.mark_first.new.read.items c.args.dims.now c.loop-first.first-index _ _ c.loop-first-test.true c.mark_first.ensures c.loop-first.invariant

pub returns : goal.returns
returns c = fold_end mark_first c.loop-first.read.items c.args.dims.now c.loop-first.first-index _ c.loop-first-test.false c.loop-first.invariant
