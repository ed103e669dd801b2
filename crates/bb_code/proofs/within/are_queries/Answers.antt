use Rattle.std.proofs.Common.{ℕ, subst, ◌∙◌, slice_index_or}
use borrow.Author.Count.{below_more}
use Rattle.std.proofs.lemmas.List.{get_or_default}
use Rattle.bb_code.specs.Code.{IsQuery}
use Rattle.bb_code.proofs.within.are_queries.Goals as goal

pub loop-query-preserved : goal.loop-query-preserved
loop-query-preserved c = λ k d below.
    let i = c.loop-query.query-index in
    let is = c.query-item.is ∙ get_or_default c.args.queries.now i c.query-item.result d c.loop-query-test.true in
    let here = subst IsQuery is (c.is_query.ensures.0 c.if-not-is_query.false) in
    below_more (λ (j : ℕ). IsQuery (slice_index_or c.args.queries.now j d)) i (λ j less. c.loop-query.invariant j d less) here k below
