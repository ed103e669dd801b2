use Rattle.std.proofs.Common.{◌≡◌, ◌<◌, ◌≤◌, ◌∙◌, Some, ap, refl, get_or, length, arith}
use Rattle.std.specs.Prelude.{slice_get}
use Rattle.std.proofs.lemmas.Option.{slice_get_read}
use Rattle.bb_space.specs.proving.Indexed.{seen}
use Rattle.bb_space.proofs.LeavingLemmas.{is_in, all_listed, cleared_none, cleared_one, cleared_past, cleared_all}
use Rattle.bb_space.proofs.spaces.leave_each.Goals as goal

pub loop-space-init : goal.loop-space-init
loop-space-init c = cleared_none c.args.unit c.args.spaces.now.items c.requires.indexed

pub loop-space-preserved-then-index-len : goal.loop-space-preserved-then-index-len
loop-space-preserved-then-index-len c =
    let list = c.args.list.now in
    let now = c.loop-space.spaces.items in
    let j = get_or list c.loop-space.space-index 0 in
    let past : length now ≤ j = omega (arith, c.loop-space.spaces.ok, c.len.ensures, c.if-index-len.true) in
    cleared_past c.args.unit list c.loop-space.space-index 0 j c.args.spaces.now.items now c.loop-space-test.true refl c.loop-space.invariant past

pub leave-requires : goal.leave-requires
leave-requires c =
    let list = c.args.list.now in
    let now = c.loop-space.spaces.items in
    let m = c.index_mut.result.now in
    let j = get_or list c.loop-space.space-index 0 in
    let lt : j < length now = omega (arith, c.loop-space.spaces.ok, c.len.ensures, c.if-index-len.false) in
    c.loop-space.invariant.indexed j m (slice_get_read now (length now) j m refl lt c.index_mut.ensures.value)

pub loop-space-preserved : goal.loop-space-preserved
loop-space-preserved c =
    let list = c.args.list.now in
    let now = c.loop-space.spaces.items in
    let m = c.index_mut.result.now in
    let j = get_or list c.loop-space.space-index 0 in
    let lt : j < length now = omega (arith, c.loop-space.spaces.ok, c.len.ensures, c.if-index-len.false) in
    let there : slice_get now j ≡ Some m = slice_get_read now (length now) j m refl lt c.index_mut.ensures.value in
    cleared_one c.args.unit list c.loop-space.space-index 0 j c.args.spaces.now.items now c.loop-space-test.true refl c.loop-space.invariant m c.leave.new.self there c.leave.ensures.left c.leave.ensures.indexed

pub returns-clause-left : goal.returns-clause-left
returns-clause-left c =
    let old = c.args.spaces.now.items in
    cleared_all c.args.unit c.args.list.now c.loop-space.space-index old c.loop-space.spaces.items c.loop-space-test.false
    (λ i is. ap (λ l. is_in l i) c.requires.all ∙ all_listed (seen old) c.args.unit i is) c.loop-space.invariant
