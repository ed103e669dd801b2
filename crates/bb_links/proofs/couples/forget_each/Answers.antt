use Rattle.std.proofs.Common.{◌≡◌, ◌<◌, ◌≤◌, ap, refl, get_or, set, length, arith}
use Rattle.std.specs.Prelude.{slice_get, Some}
use Rattle.std.proofs.lemmas.Option.{slice_get_read}
use Rattle.bb_links.specs.Couples.{Couple}
use Rattle.bb_links.proofs.StandingLemmas.{cleared_one, cleared_past, cleared_all}
use Rattle.bb_links.proofs.couples.forget_each.Goals as goal

pub loop-couple-preserved-then-index-len : goal.loop-couple-preserved-then-index-len
loop-couple-preserved-then-index-len c =
    let list = c.args.list.now in
    let now = c.loop-couple.couples.items in
    let j = get_or list c.loop-couple.couple-index 0 in
    let past : length now ≤ j = omega (arith, c.loop-couple.couples.ok, c.len.ensures, c.if-index-len.true) in
    cleared_past c.args.unit list c.loop-couple.couple-index 0 j c.args.couples.now.items now c.loop-couple-test.true refl c.loop-couple.invariant past

pub loop-couple-preserved : goal.loop-couple-preserved
loop-couple-preserved c =
    let list = c.args.list.now in
    let now = c.loop-couple.couples.items in
    let old : Couple = c.index_mut.result.now in
    let j = get_or list c.loop-couple.couple-index 0 in
    let lt : j < length now = omega (arith, c.loop-couple.couples.ok, c.len.ensures, c.if-index-len.false) in
    let there : slice_get now j ≡ Some old = slice_get_read now (length now) j old refl lt c.index_mut.ensures.value in
    cleared_one c.args.unit list c.loop-couple.couple-index 0 j c.args.couples.now.items now c.loop-couple-test.true refl c.loop-couple.invariant old _ lt there (ap (set now j) c.forget.ensures)

pub returns : goal.returns
returns c = cleared_all c.args.unit c.args.list.now c.loop-couple.couple-index c.args.couples.now.items c.loop-couple.couples.items c.loop-couple-test.false c.requires c.loop-couple.invariant
