use Rattle.std.proofs.Common.{◌≡◌, ◌<◌, ◌≤◌, ◌+◌, ◌∙◌, sym, ap, subst, set, length, Some, refl, arith, slice_get}
use Rattle.std.proofs.lemmas.Option.{slice_get_read}
use Rattle.bb_space.proofs.ListLemmas.{same_some}
use Rattle.bb_space.proofs.MovingLemmas.{IsExchanging, exchanged_over, exchanged_more, exchanged_all}
use Rattle.bb_space.proofs.moving.exchange_all.Goals as goal

pub loop-index-preserved-then-space-len : goal.loop-index-preserved-then-space-len
loop-index-preserved-then-space-len c =
    let k = c.loop-index.index in
    let left = c.loop-index.moves.items in
    let now = c.loop-index.spaces.items in
    let e = c.index.result.now in
    let lt : k < length left = omega (arith, c.loop-index-test.true, c.loop-index.auto.index-end, c.len-index-end.ensures, c.loop-index.invariant.long) in
    let past : length now ≤ e.0 = omega (arith, c.if-space-len.true, c.len.ensures) in
    exchanged_over k c.args.unit c.args.moves.now.items c.args.spaces.now.items left now c.loop-index.invariant e (slice_get_read left (length left) k e refl lt c.index.ensures) past

pub loop-index-preserved : goal.loop-index-preserved
loop-index-preserved c =
    let k = c.loop-index.index in
    let unit = c.args.unit in
    let moves = c.args.moves.now.items in
    let first = c.args.spaces.now.items in
    let left = c.loop-index.moves.items in
    let now = c.loop-index.spaces.items in
    let d = c.index.result.now in
    let e = c.index_mut-in-loop-index.result.now in
    let m = c.index_mut.result.now in
    let lt : k < length left = omega (arith, c.loop-index-test.true, c.loop-index.auto.index-end, c.len-index-end.ensures, c.loop-index.invariant.long) in
    let within : d.0 < length now = omega (arith, c.if-space-len.false, c.len.ensures) in
    let at : slice_get left k ≡ Some e = slice_get_read left (length left) k e refl lt c.index_mut-in-loop-index.ensures.value in
    let same : e ≡ d = same_some e d (sym at ∙ slice_get_read left (length left) k d refl lt c.index.ensures) in
    let there : slice_get now e.0 ≡ Some m = ap (λ x. slice_get now x.0) same ∙ slice_get_read now (length now) d.0 m refl within c.index_mut.ensures.value in
    subst (λ x. IsExchanging (k + 1) unit moves first (set left k (e.0, c.exchange.new.values)) (set now x.0 c.exchange.new.self)) same
    (exchanged_more k unit moves first left now c.loop-index.invariant e at m c.exchange.new.self c.exchange.new.values there c.exchange.ensures.same c.exchange.ensures.moved c.exchange.ensures.had)

pub returns-clause-moved : goal.returns-clause-moved
returns-clause-moved c =
    let moves = c.args.moves.now.items in
    let le : length moves ≤ c.loop-index.index = omega (arith, c.loop-index-test.false, c.loop-index.auto.index-end, c.len-index-end.ensures) in
    exchanged_all c.loop-index.index c.args.unit moves c.args.spaces.now.items c.loop-index.moves.items c.loop-index.spaces.items le c.loop-index.invariant
