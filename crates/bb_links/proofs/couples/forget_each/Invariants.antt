use Rattle.std.proofs.Common.{take}
use Rattle.bb_links.proofs.StandingLemmas.{Cleared}
use Rattle.bb_links.proofs.couples.forget_each.Given as goal

abbrev pub invariant-loop-couple : goal.invariant-loop-couple
invariant-loop-couple l = Cleared l.unit (take l.couple-index l.list) l.fn.couples.items l.couples.items
