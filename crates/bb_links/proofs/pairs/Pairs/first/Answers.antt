use Rattle.std.proofs.Common.{◌∙◌, ap, List, ℕ}
use Rattle.std.specs.Prelude.{slice_get}
use Rattle.bb_links.specs.Links.{partners}
use Rattle.bb_links.specs.proving.Stamps.{pair_under}
use Rattle.bb_links.proofs.RowLemmas.{row_is}
use Rattle.bb_links.proofs.pairs.Pairs.first.Goals as goal

pub returns : goal.returns
returns c =
    let now = c.self.inside in
    c.first.ensures.value
    ∙ (ap (λ (l : List ℕ). slice_get l 0) (row_is c.args.side c.args.unit (pair_under now.stamps) now.partners c.self.invariant.follow c.first.ensures.ordered now.next)
    ∙ ap (λ pairs. slice_get (partners c.args.side c.args.unit pairs) 0) c.self.view_is)
