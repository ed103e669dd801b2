use Rattle.std.proofs.Common.{◌∙◌, ap}
use Rattle.bb_links.specs.Pairs.{has_pair}
use Rattle.bb_links.specs.proving.Maps.{value_at}
use Rattle.bb_links.specs.proving.Stamps.{pair_under}
use Rattle.bb_links.proofs.StampLemmas.{there_stamped}
use Rattle.bb_links.proofs.pairs.Pairs.contains.Goals as goal

pub returns : goal.returns
returns c =
    let now = c.self.inside in
    c.contains_key.ensures
    ∙ (there_stamped now.next (value_at now.stamps) (pair_under now.stamps) c.self.invariant.stamped c.args.pair ∙ ap (has_pair c.args.pair) c.self.view_is)
