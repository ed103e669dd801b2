use Rattle.std.proofs.Common.{ℕ, subst, ◌∙◌, slice_index_or}
use borrow.Author.Count.{below_more}
use Rattle.std.proofs.lemmas.List.{get_or_default}
use Rattle.bb_code.specs.Code.{IsText}
use Rattle.bb_code.proofs.within.are_texts.Goals as goal

pub loop-text-preserved : goal.loop-text-preserved
loop-text-preserved c = λ k d below.
    let i = c.loop-text.text-index in
    let is = c.text-item.is ∙ get_or_default c.args.texts.now i c.text-item.result d c.loop-text-test.true in
    let here = subst IsText is (c.is_text.ensures.0 c.if-not-is_text.false) in
    below_more (λ (j : ℕ). IsText (slice_index_or c.args.texts.now j d)) i (λ j less. c.loop-text.invariant j d less) here k below
