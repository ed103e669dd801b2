use Rattle.bb_space.specs.proving.Entries.{members_of_entries}
use Rattle.bb_space.specs.proving.Known.{AreKnown}
use Rattle.bb_space.proofs.KnownLemmas.{AreEntries}
use Rattle.bb_space.proofs.passing.look.Given as goal

abbrev pub invariant-loop-unit : goal.invariant-loop-unit
invariant-loop-unit l =
    AreKnown (members_of_entries l.values.entries) l.tests l.first l.table.items × AreEntries l.values l.unit-iterator
