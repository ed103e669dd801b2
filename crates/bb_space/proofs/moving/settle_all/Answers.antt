use Rattle.std.proofs.Common.{◌≡◌, ◌<◌, ◌≤◌, ◌+◌, ◌∙◌, subst, drop, length, unwrap_or, [], Some, refl, arith, slice_get}
use Rattle.std.specs.FinMap as fin
use Rattle.std.proofs.lemmas.Option.{slice_get_read}
use Rattle.bb_space.specs.proving.Indexed.{membership}
use Rattle.bb_space.specs.index.proving.Places.{AreTaken}
use Rattle.bb_space.proofs.MovingLemmas.{settling_at, settled_over, settled_same, settled_more, all_settled}
use Rattle.bb_space.proofs.moving.settle_all.Goals as goal

pub loop-space-preserved-then-index-len : goal.loop-space-preserved-then-index-len
loop-space-preserved-then-index-len c =
    let k = c.loop-space.space-index in
    let unit = c.args.unit in
    let moves = c.args.moves.now in
    let now = c.loop-space.spaces.items in
    let e = c.loop-space-item.result in
    let lt : k < length moves = omega (arith, c.loop-space-test.true, c.loop-space.auto.space-index-end) in
    let at : slice_get moves k ≡ Some e = slice_get_read moves (length moves) k e refl lt c.loop-space-item.is in
    let past : length now ≤ e.0 = omega (arith, c.if-index-len.true, c.len.ensures) in
    let was = settling_at k unit moves now e at c.loop-space.invariant.1 in
    (c.loop-space.invariant.0, settled_over unit e (drop (k + 1) moves) now was past)

pub loop-space-preserved : goal.loop-space-preserved
loop-space-preserved c =
    let k = c.loop-space.space-index in
    let unit = c.args.unit in
    let moves = c.args.moves.now in
    let now = c.loop-space.spaces.items in
    let e = c.loop-space-item.result in
    let lt : k < length moves = omega (arith, c.loop-space-test.true, c.loop-space.auto.space-index-end) in
    let at : slice_get moves k ≡ Some e = slice_get_read moves (length moves) k e refl lt c.loop-space-item.is in
    let m = c.index_mut.result.now in
    let within : e.0 < length now = omega (arith, c.if-index-len.false, c.len.ensures) in
    let there : slice_get now e.0 ≡ Some m = slice_get_read now (length now) e.0 m refl within c.index_mut.ensures.value in
    let was = settling_at k unit moves now e at c.loop-space.invariant.1 in
    let taken = subst (λ vs. AreTaken unit vs (unwrap_or (fin.get (membership m) unit) []) m.places c.settle.new.self.places) c.as_slice.ensures c.settle.ensures.taken in (
      settled_same unit e (drop (k + 1) moves) now was m c.settle.new.self there c.settle.ensures.same ∙ c.loop-space.invariant.0,
      settled_more unit e (drop (k + 1) moves) now was m c.settle.new.self there c.settle.ensures.same taken,
    )

pub returns-clause-indexed : goal.returns-clause-indexed
returns-clause-indexed c =
    let le : length c.args.moves.now ≤ c.loop-space.space-index = omega (arith, c.loop-space-test.false, c.loop-space.auto.space-index-end) in
    all_settled c.loop-space.space-index c.args.unit c.args.moves.now c.loop-space.spaces.items le c.loop-space.invariant.1
