use Rattle.std.proofs.Common.{◌∙◌, ap}
use Rattle.std.proofs.lemmas.Result.{IfOk-weaker}
use Rattle.bb_links.specs.Links.{partners}
use Rattle.bb_links.specs.proving.Stamps.{pair_under}
use Rattle.bb_links.proofs.RowLemmas.{row_is}
use Rattle.bb_links.proofs.pairs.Pairs.partners.Goals as goal

pub returns : goal.returns
returns c =
    let now = c.self.inside in
    IfOk-weaker c.list.result _ _
    (λ list is. is ∙ (row_is c.args.side c.args.unit (pair_under now.stamps) now.partners c.self.invariant.follow c.list.ensures.ordered now.next
    ∙ ap (partners c.args.side c.args.unit) c.self.view_is))
    c.list.ensures.list
