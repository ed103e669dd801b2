use Rattle.std.proofs.Common.{◌≡◌, ◌<◌, ◌∙◌, sym, ap, length, filter, Some, refl, slice_get}
use Rattle.std.specs.FinMap as fin
use Rattle.std.proofs.lemmas.Option.{slice_get_read, IfSome_then}
use Rattle.bb_space.specs.Spaces.{Membership, membership as membership_in}
use Rattle.bb_space.specs.Passing.{passes_one}
use Rattle.bb_space.specs.proving.Indexed.{membership}
use Rattle.bb_space.proofs.ListLemmas.{in_space, seen_within}
use Rattle.bb_space.proofs.spaces.Spaces.count_passing.Goals as goal

pub count_passing-requires : goal.count_passing-requires
count_passing-requires c =
    let items = c.self.inside.spaces.items in
    let m = c.index.result.now in
    let lt : c.args.space < length items = seen_within items c.args.self.now c.args.space c.self.view_is c.requires in
    c.self.invariant.0 c.args.space m (slice_get_read items (length items) c.args.space m refl lt c.index.ensures)

pub returns : goal.returns
returns c =
    let items = c.self.inside.spaces.items in
    let m = c.index.result.now in
    let t = c.args.self.now in
    let leaf = c.args.leaf.now in
    let lt : c.args.space < length items = seen_within items t c.args.space c.self.view_is c.requires in
    let there : slice_get items c.args.space ≡ Some m = slice_get_read items (length items) c.args.space m refl lt c.index.ensures in
    let same : membership_in t c.args.space ≡ membership m = ap (λ s. membership_in s c.args.space) (sym c.self.view_is) ∙ in_space items c.args.space m there in
    IfSome_then c.count_passing.result c.count_passing.ensures (λ n is. is ∙ ap (λ (w : Membership). length (filter (passes_one w leaf) (fin.keys w))) (sym same))
