use Rattle.std.proofs.Common.{inr, sym, ◌∙◌}
use Rattle.std.proofs.lemmas.Result.{err_from_is_err_and}
use Rattle.bb_code.specs.Flaws.{out_of_memory}
use Rattle.bb_verify.proofs.nesting_lemmas.SortedLemmas.{below_gives, sorted_inside, sorted_all, loops_rest, all_depths}
use Rattle.bb_verify.proofs.nesting.loops.check_loops.Goals as goal

pub depths_below-requires-clause-inside : goal.depths_below-requires-clause-inside
depths_below-requires-clause-inside c = sorted_inside c.args.code.now c.sorted_of-sorted.result c.sorted_of-sorted.ensures

pub depths_below-requires-clause-rises : goal.depths_below-requires-clause-rises
depths_below-requires-clause-rises c = sorted_all c.args.code.now c.sorted_of-sorted.result c.sorted_of-sorted.ensures

pub returns-in_err-depths-clause-fault : goal.returns-in_err-depths-clause-fault
returns-in_err-depths-clause-fault c =
    let p = err_from_is_err_and c.from_residual-in_err-depths.result c.from_residual-in_err-depths.ensures.1 in
    rw (p.1, p.2) (below_gives out_of_memory c.args.code.now c.sorted_of-sorted.result c.in_err-depths.field-0.0 (sorted_inside c.args.code.now c.sorted_of-sorted.result c.sorted_of-sorted.ensures) c.in_err-depths.ensures)

pub returns-in_err-rest_of-clause-fault : goal.returns-in_err-rest_of-clause-fault
returns-in_err-rest_of-clause-fault c =
    let p = err_from_is_err_and c.from_residual-in_err-rest_of.result c.from_residual-in_err-rest_of.ensures.1 in
    rw (p.1, p.2) (inr (loops_rest c.args.code.now c.sorted_of-sorted.result c.in_ok-depths.depths c.sorted_of-sorted.ensures c.in_ok-depths.ensures ∙ sym c.in_err-rest_of.ensures))

pub returns-clause-fault : goal.returns-clause-fault
returns-clause-fault c = loops_rest c.args.code.now c.sorted_of-sorted.result c.in_ok-depths.depths c.sorted_of-sorted.ensures c.in_ok-depths.ensures ∙ sym c.in_ok-rest_of.ensures

pub returns-clause-depths : goal.returns-clause-depths
returns-clause-depths c = all_depths c.args.code.now c.sorted_of-sorted.result c.in_ok-depths.depths c.sorted_of-sorted.ensures c.in_ok-depths.ensures (sym c.in_ok-rest_of.ensures)
