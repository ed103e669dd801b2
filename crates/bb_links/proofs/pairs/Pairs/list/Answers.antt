use Rattle.std.proofs.Common.{◌∙◌}
use Rattle.std.proofs.lemmas.Result.{IfOk-weaker}
use Rattle.bb_links.specs.proving.Stamps.{pair_under}
use Rattle.bb_links.proofs.ListedLemmas.{values_in_order, paired_of, none_above}
use Rattle.bb_links.proofs.pairs.Pairs.list.Goals as goal

pub by_stamp-requires : goal.by_stamp-requires
by_stamp-requires c = paired_of c.self.inside.next c.self.inside.stamps c.self.invariant.stamped

pub returns : goal.returns
returns c =
    let now = c.self.inside in
    let stamped = c.self.invariant.stamped in
    IfOk-weaker c.listed.result _ _
    (λ list is. is ∙ (values_in_order now.next (pair_under now.stamps) c.in_ok-by_stamp.field-0 c.listed.ensures.ordered (none_above now.next now.stamps stamped) c.in_ok-by_stamp.ensures ∙ c.self.view_is))
    c.listed.ensures.list
