use Rattle.std.proofs.Common.{◌≡◌, length, Some, refl, slice_get}
use Rattle.std.proofs.lemmas.Option.{slice_get_read}
use Rattle.std.proofs.lemmas.Result.{on_ok_weaker, on_err_weaker}
use Rattle.bb_space.specs.Spaces.{moved}
use Rattle.bb_space.proofs.ListLemmas.{seen_set, seen_same, indexed_set}
use Rattle.bb_space.proofs.moving.move_one.Goals as goal

pub moved-requires : goal.moved-requires
moved-requires c =
    let now = c.args.spaces.now.items in
    let m = c.index_mut.result.now in
    let there : slice_get now c.args.space ≡ Some m = slice_get_read now (length now) c.args.space m refl c.requires.space c.index_mut.ensures.value in
    c.requires.indexed c.args.space m there

pub returns-clause-moved : goal.returns-clause-moved
returns-clause-moved c =
    let now = c.args.spaces.now.items in
    let m = c.index_mut.result.now in
    let there : slice_get now c.args.space ≡ Some m = slice_get_read now (length now) c.args.space m refl c.requires.space c.index_mut.ensures.value in
    on_ok_weaker c.moved.result (λ h. seen_set now c.args.space m c.moved.new.self (moved c.args.unit c.args.values) there h) c.moved.ensures.moved

pub returns-clause-err : goal.returns-clause-err
returns-clause-err c =
    let now = c.args.spaces.now.items in
    let m = c.index_mut.result.now in
    let there : slice_get now c.args.space ≡ Some m = slice_get_read now (length now) c.args.space m refl c.requires.space c.index_mut.ensures.value in
    on_err_weaker c.moved.result (λ h. seen_same now c.args.space m c.moved.new.self there h) c.moved.ensures.err

pub returns-clause-indexed : goal.returns-clause-indexed
returns-clause-indexed c =
    let now = c.args.spaces.now.items in
    let m = c.index_mut.result.now in
    let there : slice_get now c.args.space ≡ Some m = slice_get_read now (length now) c.args.space m refl c.requires.space c.index_mut.ensures.value in
    indexed_set now c.args.space m c.moved.new.self there c.requires.indexed c.moved.ensures.indexed
