use Rattle.std.proofs.Common.{ap, ◌∙◌}
use Rattle.std.proofs.lemmas.Result.{err_from_is_err_and}
use Rattle.bb_verify.specs.Tables.{known_frame}
use Rattle.bb_verify_effect.proofs.Laws.{each_next, each_error, each_end}
use Rattle.bb_verify.proofs.tables.known_frames.Goals as goal

pub returns-in_err-known_frame : goal.returns-in_err-known_frame
returns-in_err-known_frame c =
    let p = err_from_is_err_and c.from_residual.result c.from_residual.ensures.1 in
    rw (p.1, p.2) (each_error (known_frame c.args.schema.now) c.args.frames.now c.loop-frame.frame-index _ c.in_err-known_frame.field-0.0 _ c.loop-frame-test.true (c.in_err-known_frame.ensures ∙ ap (known_frame c.args.schema.now) c.frame-item.is) c.loop-frame.invariant)

pub loop-frame-preserved : goal.loop-frame-preserved
loop-frame-preserved c = each_next (known_frame c.args.schema.now) c.args.frames.now c.loop-frame.frame-index _ c.in_ok-known_frame.field-0 _ c.loop-frame-test.true (c.in_ok-known_frame.ensures ∙ ap (known_frame c.args.schema.now) c.frame-item.is) c.loop-frame.invariant

pub returns : goal.returns
returns c = each_end (known_frame c.args.schema.now) c.args.frames.now c.loop-frame.frame-index _ c.loop-frame-test.false c.loop-frame.invariant
