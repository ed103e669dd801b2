use Rattle.std.proofs.Common.{sym, subst}
use Rattle.bb_units.specs.proving.Numbered.{AreNumbered}
use Rattle.bb_units.proofs.EntryLemmas.{Entries}
use Rattle.bb_units.proofs.ChangeLemmas.{numbered_none}
use Rattle.bb_units.proofs.numbered.Numbered.new.Goals as goal

pub invariant_of-result : goal.invariant_of-result
invariant_of-result c = subst (λ (es : Entries). AreNumbered 1 es c.new-2.result) (sym c.new.ensures.items) (numbered_none c.new-2.result c.new-2.ensures.empty)
