use Rattle.std.proofs.Common.{◌≡◌, ◌<◌, ◌∙◌, sym, ap, subst, length, Some, refl, slice_get}
use Rattle.std.proofs.lemmas.Option.{slice_get_read, IfSome_then}
use Rattle.std.proofs.lemmas.Result.{IfOk-weaker}
use Rattle.bb_space.specs.Spaces.{membership as membership_in}
use Rattle.bb_space.specs.Passing.{HaveAllPassing}
use Rattle.bb_space.specs.proving.Indexed.{membership}
use Rattle.bb_space.proofs.ListLemmas.{in_space, seen_within}
use Rattle.bb_space.proofs.spaces.Spaces.few_passing.Goals as goal

pub few_passing-requires : goal.few_passing-requires
few_passing-requires c =
    let items = c.self.inside.spaces.items in
    let m = c.index.result.now in
    let lt : c.args.space < length items = seen_within items c.args.self.now c.args.space c.self.view_is c.requires in
    c.self.invariant.0 c.args.space m (slice_get_read items (length items) c.args.space m refl lt c.index.ensures)

pub returns : goal.returns
returns c =
    let items = c.self.inside.spaces.items in
    let m = c.index.result.now in
    let t = c.args.self.now in
    let lt : c.args.space < length items = seen_within items t c.args.space c.self.view_is c.requires in
    let there : slice_get items c.args.space ≡ Some m = slice_get_read items (length items) c.args.space m refl lt c.index.ensures in
    let same : membership_in t c.args.space ≡ membership m = ap (λ s. membership_in s c.args.space) (sym c.self.view_is) ∙ in_space items c.args.space m there in
    IfOk-weaker c.few_passing.result _ _ (λ few h. IfSome_then few h (λ list all. subst (λ w. HaveAllPassing w c.args.tests.now list.items) (sym same) all)) c.few_passing.ensures
