use Rattle.std.proofs.Common.{◌-◌, ◌+◌, ◌<◌, arith, ap, length}
use Rattle.std.specs.List.{range_with_len}
use Rattle.std.proofs.lemmas.Result.{err_from_is_err_and}
use Rattle.bb_basis.proofs.TryFoldLemmas.{try_fold_next, try_fold_error}
use Rattle.bb_code.specs.Flaws.{out_of_memory}
use Rattle.bb_verify.specs.Places.{visit}
use Rattle.bb_verify.specs.proving.Numbered.{frames_by}
use Rattle.bb_verify.specs.proving.Passes.{walk_of}
use Rattle.bb_verify_effect.proofs.Laws.{range-cons, fold_end}
use Rattle.bb_verify.proofs.places.visit_all.Goals as goal

pub returns-in_err-visit : goal.returns-in_err-visit
returns-in_err-visit c =
    let p = err_from_is_err_and c.from_residual.result c.from_residual.ensures.1 in
    let same = ap (λ l. length l) c.ops.ensures.value in
    let count = length c.args.framed.now.code.now.ops in
    let lt : c.loop-place.place < count = omega (arith, c.loop-place-test.true, same) in
    rw (p.1, p.2) (try_fold_error out_of_memory (visit c.args.schema.now c.args.part c.args.framed.now.code.now (frames_by c.args.framed.now)) (walk_of c.loop-place.pass) (range_with_len c.loop-place.place (count - c.loop-place.place)) (range_with_len (c.loop-place.place + 1) (count - (c.loop-place.place + 1))) c.loop-place.place c.in_err-visit.field-0.0 _ (range-cons c.loop-place.place count lt) c.in_err-visit.ensures c.loop-place.invariant)

pub loop-place-preserved : goal.loop-place-preserved
loop-place-preserved c =
    let same = ap (λ l. length l) c.ops.ensures.value in
    let count = length c.args.framed.now.code.now.ops in
    let lt : c.loop-place.place < count = omega (arith, c.loop-place-test.true, same) in
    try_fold_next (visit c.args.schema.now c.args.part c.args.framed.now.code.now (frames_by c.args.framed.now)) (walk_of c.loop-place.pass) (walk_of c.visit.new.pass) (range_with_len c.loop-place.place (count - c.loop-place.place)) (range_with_len (c.loop-place.place + 1) (count - (c.loop-place.place + 1))) c.loop-place.place _ (range-cons c.loop-place.place count lt) c.in_ok-visit.ensures c.loop-place.invariant

pub returns : goal.returns
returns c =
    let same = ap (λ l. length l) c.ops.ensures.value in
    fold_end (visit c.args.schema.now c.args.part c.args.framed.now.code.now (frames_by c.args.framed.now)) (walk_of c.loop-place.pass) c.loop-place.place (length c.args.framed.now.code.now.ops) _ (omega (arith, c.loop-place-test.false, same)) c.loop-place.invariant
