use Rattle.bb_verify.proofs.TableLemmas.{rise_low, rise_high, rise_next, rise_end}
use Rattle.bb_verify.proofs.tables.places_rise.Goals as goal

pub returns-then-place-floor : goal.returns-then-place-floor
returns-then-place-floor c = rise_low c.loop-frame.floor c.args.count c.args.frames.now c.loop-frame.frame-index c.frame-item.result _ c.loop-frame-test.true c.frame-item.is c.if-place-floor.true c.loop-frame.invariant

pub returns-then-place-count : goal.returns-then-place-count
returns-then-place-count c = rise_high c.loop-frame.floor c.args.count c.args.frames.now c.loop-frame.frame-index c.frame-item.result _ c.loop-frame-test.true c.frame-item.is c.if-place-count.true c.loop-frame.invariant

pub loop-frame-preserved : goal.loop-frame-preserved
loop-frame-preserved c = rise_next c.loop-frame.floor c.args.count c.args.frames.now c.loop-frame.frame-index c.frame-item.result _ c.loop-frame-test.true c.frame-item.is c.if-place-floor.false c.if-place-count.false c.loop-frame.invariant

pub returns : goal.returns
returns c = rise_end c.loop-frame.floor c.args.count c.args.frames.now c.loop-frame.frame-index _ c.loop-frame-test.false c.loop-frame.invariant
