use Rattle.std.proofs.Common.{◌≡◌, length}
use Rattle.bb_links.specs.proving.Stamps.{without_at}
use Rattle.bb_links.proofs.pairs.Pairs.cut.Given as goal

abbrev pub invariant-loop-partner : goal.invariant-loop-partner
invariant-loop-partner l = without_at l.side l.unit l.self ≡ without_at l.side l.unit l.fn.self

abbrev pub decreases-loop-partner : goal.decreases-loop-partner
decreases-loop-partner l = length l.self
