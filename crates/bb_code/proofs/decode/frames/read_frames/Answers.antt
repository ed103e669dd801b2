use Rattle.std.proofs.Common.{ℕ, List}
use Rattle.std.proofs.lemmas.Result.{err_from_is_err_and}
use Rattle.bb_code.specs.declared.parts.TheConstants.{FRAME_LIMIT}
use Rattle.bb_code.specs.declared.frame.FrameEntry.{FrameEntry}
use Rattle.bb_code.specs.Fields.{list_at, frame_at}
use Rattle.bb_code.proofs.Turns.{repeated_next, repeated_failed, is_done}
use Rattle.bb_code.proofs.decode.frames.read_frames.Goals as goal

pub returns-in_err-frame : goal.returns-in_err-frame
returns-in_err-frame c =
    let p = err_from_is_err_and c.from_residual-in_err-frame.result c.from_residual-in_err-frame.ensures.1 in
    rw (p.1, p.2) (repeated_failed FrameEntry (List ℕ) (frame_at c.args.locals) c.loop.frames.items c.in_ok-count.count c.loop.counter c.loop.rest.now _ (list_at 0 FRAME_LIMIT (frame_at c.args.locals) c.args.bytes.now) c.loop-test.true c.in_err-frame.ensures c.loop.invariant)

pub loop-preserved : goal.loop-preserved
loop-preserved c =
    rw c.in_ok-push.ensures.items (repeated_next FrameEntry (List ℕ) (frame_at c.args.locals) c.loop.frames.items c.in_ok-count.count c.loop.counter c.loop.rest.now c.in_ok-frame.frame c.in_ok-frame.after.now (list_at 0 FRAME_LIMIT (frame_at c.args.locals) c.args.bytes.now) c.loop-test.true c.in_ok-frame.ensures c.loop.invariant)

pub returns : goal.returns
returns c = rw c.from.ensures (is_done FrameEntry (List ℕ) (frame_at c.args.locals) c.loop.frames.items c.in_ok-count.count c.loop.counter c.loop.rest.now (list_at 0 FRAME_LIMIT (frame_at c.args.locals) c.args.bytes.now) c.loop-test.false c.loop.invariant)
