use Rattle.std.proofs.Common.{◌≡◌, ◌<◌, ◌≤◌, ◌+◌, subst, drop, length, Some, refl, arith, slice_get}
use Rattle.std.proofs.lemmas.Option.{slice_get_read}
use Rattle.bb_space.specs.index.proving.Places.{ArePut}
use Rattle.bb_space.specs.proving.Indexed.{is_moved}
use Rattle.bb_space.proofs.LooseLemmas.{put_ready}
use Rattle.bb_space.proofs.MovingLemmas.{preparing_none, preparing_at, preparing_over, prepared_same, prepared_loose, preparing_more, all_ready}
use Rattle.bb_space.proofs.moving.prepare_all.Goals as goal

pub loop-space-init : goal.loop-space-init
loop-space-init c = preparing_none c.args.unit c.args.moves.now c.args.spaces.now.items c.requires

pub loop-space-preserved-then-index-len : goal.loop-space-preserved-then-index-len
loop-space-preserved-then-index-len c =
    let k = c.loop-space.space-index in
    let unit = c.args.unit in
    let moves = c.args.moves.now in
    let now = c.loop-space.spaces.items in
    let e = c.loop-space-item.result in
    let lt : k < length moves = omega (arith, c.loop-space-test.true, c.loop-space.auto.space-index-end) in
    let at : slice_get moves k ≡ Some e = slice_get_read moves (length moves) k e refl lt c.loop-space-item.is in
    let past : length now ≤ e.0 = omega (arith, c.if-index-len.true, c.len.ensures) in
    let was = preparing_at k unit moves c.args.spaces.now.items now e at c.loop-space.invariant in
    preparing_over unit moves e (drop (k + 1) moves) c.args.spaces.now.items now was past

pub returns-in_err-prepare-clause-same : goal.returns-in_err-prepare-clause-same
returns-in_err-prepare-clause-same c =
    let k = c.loop-space.space-index in
    let unit = c.args.unit in
    let moves = c.args.moves.now in
    let now = c.loop-space.spaces.items in
    let e = c.loop-space-item.result in
    let lt : k < length moves = omega (arith, c.loop-space-test.true, c.loop-space.auto.space-index-end) in
    let at : slice_get moves k ≡ Some e = slice_get_read moves (length moves) k e refl lt c.loop-space-item.is in
    let m = c.index_mut.result.now in
    let within : e.0 < length now = omega (arith, c.if-index-len.false, c.len.ensures) in
    let there : slice_get now e.0 ≡ Some m = slice_get_read now (length now) e.0 m refl within c.index_mut.ensures.value in
    let was = preparing_at k unit moves c.args.spaces.now.items now e at c.loop-space.invariant in
    let put = subst (λ vs. ArePut unit vs m.places c.prepare.new.self.places) c.as_slice.ensures c.prepare.ensures.put in
    prepared_same unit moves e (drop (k + 1) moves) c.args.spaces.now.items now was m c.prepare.new.self there c.prepare.ensures.same put

pub returns-in_err-prepare-clause-loose : goal.returns-in_err-prepare-clause-loose
returns-in_err-prepare-clause-loose c =
    let k = c.loop-space.space-index in
    let unit = c.args.unit in
    let moves = c.args.moves.now in
    let now = c.loop-space.spaces.items in
    let e = c.loop-space-item.result in
    let lt : k < length moves = omega (arith, c.loop-space-test.true, c.loop-space.auto.space-index-end) in
    let at : slice_get moves k ≡ Some e = slice_get_read moves (length moves) k e refl lt c.loop-space-item.is in
    let m = c.index_mut.result.now in
    let within : e.0 < length now = omega (arith, c.if-index-len.false, c.len.ensures) in
    let there : slice_get now e.0 ≡ Some m = slice_get_read now (length now) e.0 m refl within c.index_mut.ensures.value in
    let was = preparing_at k unit moves c.args.spaces.now.items now e at c.loop-space.invariant in
    let put = subst (λ vs. ArePut unit vs m.places c.prepare.new.self.places) c.as_slice.ensures c.prepare.ensures.put in
    prepared_loose unit moves e (drop (k + 1) moves) c.args.spaces.now.items now was m c.prepare.new.self there c.prepare.ensures.same put

pub loop-space-preserved : goal.loop-space-preserved
loop-space-preserved c =
    let k = c.loop-space.space-index in
    let unit = c.args.unit in
    let moves = c.args.moves.now in
    let now = c.loop-space.spaces.items in
    let e = c.loop-space-item.result in
    let lt : k < length moves = omega (arith, c.loop-space-test.true, c.loop-space.auto.space-index-end) in
    let at : slice_get moves k ≡ Some e = slice_get_read moves (length moves) k e refl lt c.loop-space-item.is in
    let m = c.index_mut.result.now in
    let within : e.0 < length now = omega (arith, c.if-index-len.false, c.len.ensures) in
    let there : slice_get now e.0 ≡ Some m = slice_get_read now (length now) e.0 m refl within c.index_mut.ensures.value in
    let was = preparing_at k unit moves c.args.spaces.now.items now e at c.loop-space.invariant in
    let put = subst (λ vs. ArePut unit vs m.places c.prepare.new.self.places) c.as_slice.ensures c.prepare.ensures.put in
    preparing_more unit moves e (drop (k + 1) moves) c.args.spaces.now.items now was m c.prepare.new.self there c.prepare.ensures.same put
    (put_ready unit e.1 (is_moved unit e.0 moves) m c.prepare.new.self put (rw (← c.as_slice.ensures) c.in_ok-prepare.ensures.all) (was.loose e.0 m there))

pub returns-clause-ready : goal.returns-clause-ready
returns-clause-ready c =
    let le : length c.args.moves.now ≤ c.loop-space.space-index = omega (arith, c.loop-space-test.false, c.loop-space.auto.space-index-end) in
    all_ready c.loop-space.space-index c.args.unit c.args.moves.now c.args.spaces.now.items c.loop-space.spaces.items le c.loop-space.invariant
