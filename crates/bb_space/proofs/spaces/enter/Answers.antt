use Rattle.std.proofs.Common.{◌≡◌, ◌∙◌, sym, ap, not, length, Some, refl, slice_get}
use Rattle.std.specs.FinMap as fin
use Rattle.std.proofs.lemmas.Option.{slice_get_read}
use Rattle.std.proofs.lemmas.Result.{IfOk-weaker, on_ok_weaker, on_err_weaker}
use Rattle.bb_space.specs.Spaces.{entered}
use Rattle.bb_space.proofs.ListLemmas.{in_space, seen_set, seen_same, indexed_set}
use Rattle.bb_space.proofs.spaces.enter.Goals as goal

pub enter-requires : goal.enter-requires
enter-requires c =
    let now = c.args.spaces.now.items in
    let m = c.index_mut.result.now in
    let there : slice_get now c.args.space ≡ Some m = slice_get_read now (length now) c.args.space m refl c.requires.space c.index_mut.ensures.value in
    c.requires.indexed c.args.space m there

pub returns-clause-new : goal.returns-clause-new
returns-clause-new c =
    let now = c.args.spaces.now.items in
    let m = c.index_mut.result.now in
    let there : slice_get now c.args.space ≡ Some m = slice_get_read now (length now) c.args.space m refl c.requires.space c.index_mut.ensures.value in
    IfOk-weaker c.enter.result _ _ (λ new h. h ∙ ap (λ w. not (fin.contains_key w c.args.unit)) (sym (in_space now c.args.space m there))) c.enter.ensures.new

pub returns-clause-entered : goal.returns-clause-entered
returns-clause-entered c =
    let now = c.args.spaces.now.items in
    let m = c.index_mut.result.now in
    let there : slice_get now c.args.space ≡ Some m = slice_get_read now (length now) c.args.space m refl c.requires.space c.index_mut.ensures.value in
    on_ok_weaker c.enter.result (λ h. seen_set now c.args.space m c.enter.new.self (entered c.args.unit c.args.values) there h) c.enter.ensures.entered

pub returns-clause-err : goal.returns-clause-err
returns-clause-err c =
    let now = c.args.spaces.now.items in
    let m = c.index_mut.result.now in
    let there : slice_get now c.args.space ≡ Some m = slice_get_read now (length now) c.args.space m refl c.requires.space c.index_mut.ensures.value in
    on_err_weaker c.enter.result (λ h. seen_same now c.args.space m c.enter.new.self there h) c.enter.ensures.err

pub returns-clause-indexed : goal.returns-clause-indexed
returns-clause-indexed c =
    let now = c.args.spaces.now.items in
    let m = c.index_mut.result.now in
    let there : slice_get now c.args.space ≡ Some m = slice_get_read now (length now) c.args.space m refl c.requires.space c.index_mut.ensures.value in
    indexed_set now c.args.space m c.enter.new.self there c.requires.indexed c.enter.ensures.indexed
