use Rattle.std.proofs.Common.{arith, ap, length}
use Rattle.std.proofs.lemmas.Result.{err_from_is_err_and}
use Rattle.bb_verify.specs.nesting.Jumps.{jump_at, jumps}
use Rattle.bb_code.proofs.Laws.{range_next, range_error, range_end}
use Rattle.bb_verify.proofs.nesting.jumps.check_jumps.Goals as goal

pub returns-in_err-jump_at : goal.returns-in_err-jump_at
unfolding jumps
returns-in_err-jump_at c =
    let p = err_from_is_err_and c.from_residual.result c.from_residual.ensures.1 in
    let same = ap (λ l. length l) c.ops.ensures.value in
    rw (p.1, p.2) (range_error (jump_at c.args.code.now) c.loop-place.place (length c.args.code.now.ops) c.in_err-jump_at.field-0.0 _ (omega (arith, c.loop-place-test.true, same)) c.in_err-jump_at.ensures c.loop-place.invariant)

pub loop-place-preserved : goal.loop-place-preserved
loop-place-preserved c =
    let same = ap (λ l. length l) c.ops.ensures.value in
    range_next (jump_at c.args.code.now) c.loop-place.place (length c.args.code.now.ops) c.in_ok-jump_at.field-0 _ (omega (arith, c.loop-place-test.true, same)) c.in_ok-jump_at.ensures c.loop-place.invariant

pub returns : goal.returns
unfolding jumps
returns c =
    let same = ap (λ l. length l) c.ops.ensures.value in
    range_end (jump_at c.args.code.now) c.loop-place.place (length c.args.code.now.ops) _ (omega (arith, c.loop-place-test.false, same)) c.loop-place.invariant
