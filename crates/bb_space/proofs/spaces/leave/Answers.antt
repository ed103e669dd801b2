use Rattle.std.proofs.Common.{◌≡◌, ◌∙◌, sym, ap, length, Some, refl, slice_get}
use Rattle.std.specs.FinMap as fin
use Rattle.std.proofs.lemmas.Option.{slice_get_read}
use Rattle.bb_space.specs.Spaces.{left}
use Rattle.bb_space.proofs.ListLemmas.{in_space, seen_set, indexed_set}
use Rattle.bb_space.proofs.spaces.leave.Goals as goal

pub leave-requires : goal.leave-requires
leave-requires c =
    let now = c.args.spaces.now.items in
    let m = c.index_mut.result.now in
    let there : slice_get now c.args.space ≡ Some m = slice_get_read now (length now) c.args.space m refl c.requires.space c.index_mut.ensures.value in
    c.requires.indexed c.args.space m there

pub returns-clause-was : goal.returns-clause-was
returns-clause-was c =
    let now = c.args.spaces.now.items in
    let m = c.index_mut.result.now in
    let there : slice_get now c.args.space ≡ Some m = slice_get_read now (length now) c.args.space m refl c.requires.space c.index_mut.ensures.value in
    c.leave.ensures.was ∙ ap (λ w. fin.contains_key w c.args.unit) (sym (in_space now c.args.space m there))

pub returns-clause-left : goal.returns-clause-left
returns-clause-left c =
    let now = c.args.spaces.now.items in
    let m = c.index_mut.result.now in
    let there : slice_get now c.args.space ≡ Some m = slice_get_read now (length now) c.args.space m refl c.requires.space c.index_mut.ensures.value in
    seen_set now c.args.space m c.leave.new.self (left c.args.unit) there c.leave.ensures.left

pub returns-clause-indexed : goal.returns-clause-indexed
returns-clause-indexed c =
    let now = c.args.spaces.now.items in
    let m = c.index_mut.result.now in
    let there : slice_get now c.args.space ≡ Some m = slice_get_read now (length now) c.args.space m refl c.requires.space c.index_mut.ensures.value in
    indexed_set now c.args.space m c.leave.new.self there c.requires.indexed c.leave.ensures.indexed
