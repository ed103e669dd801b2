use Rattle.std.proofs.Common.{◌≡◌, ◌<◌, ◌∙◌, sym, ap, subst, length, Some, refl, slice_get}
use Rattle.std.proofs.lemmas.Option.{slice_get_read}
use Rattle.std.proofs.lemmas.Result.{IfOk-weaker}
use Rattle.bb_space.specs.Spaces.{membership as membership_in}
use Rattle.bb_space.specs.proving.Indexed.{membership}
use Rattle.bb_space.proofs.ListLemmas.{in_space, seen_within}
use Rattle.bb_space.specs.Spaces.{AreChosen}
use Rattle.bb_space.specs.Candidates.{candidates_of}
use Rattle.bb_space.proofs.CandidateLemmas.{chosen_from}
use Rattle.bb_space.proofs.spaces.Spaces.candidates.Goals as goal

pub candidates-requires : goal.candidates-requires
candidates-requires c =
    let items = c.self.inside.spaces.items in
    let m = c.index.result.now in
    let lt : c.args.space < length items = seen_within items c.args.self.now c.args.space c.self.view_is c.requires in
    c.self.invariant.0 c.args.space m (slice_get_read items (length items) c.args.space m refl lt c.index.ensures)

pub returns-clause-chosen : goal.returns-clause-chosen
returns-clause-chosen c =
    let items = c.self.inside.spaces.items in
    let m = c.index.result.now in
    let lt : c.args.space < length items = seen_within items c.args.self.now c.args.space c.self.view_is c.requires in
    let there : slice_get items c.args.space ≡ Some m = slice_get_read items (length items) c.args.space m refl lt c.index.ensures in
    let same : membership_in c.args.self.now c.args.space ≡ membership m = ap (λ s. membership_in s c.args.space) (sym c.self.view_is) ∙ in_space items c.args.space m there in
    IfOk-weaker c.candidates.result _ _ (λ list h. subst (AreChosen (membership_in c.args.self.now c.args.space) c.args.leaf.now) (sym (h ∙ ap (λ w. candidates_of w c.args.leaf.now) (sym same))) (chosen_from (membership_in c.args.self.now c.args.space) c.args.leaf.now)) c.candidates.ensures

pub returns-clause-near : goal.returns-clause-near
returns-clause-near c =
    let items = c.self.inside.spaces.items in
    let m = c.index.result.now in
    let lt : c.args.space < length items = seen_within items c.args.self.now c.args.space c.self.view_is c.requires in
    let there : slice_get items c.args.space ≡ Some m = slice_get_read items (length items) c.args.space m refl lt c.index.ensures in
    let same : membership_in c.args.self.now c.args.space ≡ membership m = ap (λ s. membership_in s c.args.space) (sym c.self.view_is) ∙ in_space items c.args.space m there in
    IfOk-weaker c.candidates.result _ _ (λ list h. h ∙ ap (λ w. candidates_of w c.args.leaf.now) (sym same)) c.candidates.ensures
