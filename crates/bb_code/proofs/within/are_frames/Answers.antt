use Rattle.std.proofs.Common.{ℕ, subst, ◌∙◌, slice_index_or}
use borrow.Author.Count.{below_more}
use Rattle.std.proofs.lemmas.List.{get_or_default}
use Rattle.bb_code.specs.Code.{IsFrame}
use Rattle.bb_code.proofs.within.are_frames.Goals as goal

pub loop-frame-preserved : goal.loop-frame-preserved
loop-frame-preserved c = λ k d below.
    let i = c.loop-frame.frame-index in
    let is = c.frame-item.is ∙ get_or_default c.args.frames.now i c.frame-item.result d c.loop-frame-test.true in
    let here = subst (IsFrame c.args.locals) is (c.is_frame.ensures.0 c.if-not-is_frame.false) in
    below_more (λ (j : ℕ). IsFrame c.args.locals (slice_index_or c.args.frames.now j d)) i (λ j less. c.loop-frame.invariant j d less) here k below
