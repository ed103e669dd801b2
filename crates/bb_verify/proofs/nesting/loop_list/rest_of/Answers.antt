use Rattle.std.proofs.Common.{◌∙◌, arith, ap, length}
use Rattle.bb_verify.proofs.nesting_lemmas.SortedLemmas.{rest_unsorted, rest_sorted}
use Rattle.bb_verify.proofs.nesting.loop_list.rest_of.Goals as goal

pub returns-then-sorted-ops : goal.returns-then-sorted-ops
returns-then-sorted-ops c =
    let same = ap (λ l. length l) c.ops.ensures.value in
    rest_unsorted c.args.code.now c.args.sorted c.requires (omega (arith, c.if-sorted-ops.true, same))

pub returns : goal.returns
returns c =
    let same = ap (λ l. length l) c.ops.ensures.value in
    c.all_inside.ensures ∙ rest_sorted c.args.code.now c.args.sorted c.requires (omega (arith, c.if-sorted-ops.false, same))
