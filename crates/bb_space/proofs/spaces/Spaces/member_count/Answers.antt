use Rattle.std.proofs.Common.{◌≡◌, ◌<◌, ◌∙◌, sym, ap, length, Some, refl, slice_get}
use Rattle.std.specs.FinMap as fin
use Rattle.std.proofs.lemmas.Option.{slice_get_read}
use Rattle.bb_space.specs.Spaces.{membership as membership_in}
use Rattle.bb_space.specs.proving.Indexed.{membership}
use Rattle.bb_space.proofs.ListLemmas.{in_space, seen_within}
use Rattle.bb_space.proofs.spaces.Spaces.member_count.Goals as goal

pub returns : goal.returns
returns c =
    let items = c.self.inside.spaces.items in
    let m = c.index.result.now in
    let lt : c.args.space < length items = seen_within items c.args.self.now c.args.space c.self.view_is c.requires in
    let there : slice_get items c.args.space ≡ Some m = slice_get_read items (length items) c.args.space m refl lt c.index.ensures in
    let same : membership_in c.args.self.now c.args.space ≡ membership m = ap (λ s. membership_in s c.args.space) (sym c.self.view_is) ∙ in_space items c.args.space m there in
    c.count.ensures ∙ ap fin.len (sym same)
