use Rattle.std.proofs.Common.{ap, ◌∙◌}
use Rattle.bb_board.specs.proving.Deleted.{is_of}
use Rattle.bb_board.proofs.FoundLemmas.{rising_found, of_sorted}
use Rattle.bb_board.proofs.found.Found.rising.Goals as goal

pub returns-clause-rises : goal.returns-clause-rises
returns-clause-rises c =
    rising_found c.self.inside.units.items _ c.self.invariant.distinct c.sort_unstable.ensures.permutation c.sort_unstable.ensures.sorted

pub returns-clause-same : goal.returns-clause-same
returns-clause-same c = λ n.
    of_sorted c.self.inside.units.items _ n c.sort_unstable.ensures.permutation
    ∙ ap (λ ns. is_of ns n) c.self.view_is
