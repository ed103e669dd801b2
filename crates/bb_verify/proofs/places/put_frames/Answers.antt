use Rattle.std.proofs.Common.{arith}
use Rattle.bb_verify.specs.proving.Numbered.{numbered_frames}
use Rattle.bb_verify.proofs.TableLemmas.{frames_end}
use Rattle.bb_verify.proofs.NumberedLemmas.{numbered_next}
use Rattle.bb_verify.proofs.places.put_frames.Goals as goal

pub loop-number-preserved : goal.loop-number-preserved
loop-number-preserved c = numbered_next c.args.frames.now c.loop-number.all.items c.put_frame.new.all.items c.loop-number.number c.index-frames-number.result _ c.loop-number-test.true c.index-frames-number.is c.put_frame.ensures c.loop-number.invariant

pub returns : goal.returns
returns c = frames_end (numbered_frames c.args.frames.now c.loop-number.all.items) c.args.frames.now c.loop-number.number _ (omega (arith, c.loop-number-test.false)) c.loop-number.invariant
