use Rattle.std.proofs.Common.{◌≡◌, ◌++◌, drop}
use Rattle.std.specs.Prelude.{filter}
use Rattle.bb_space.specs.Passing.{passes}
use Rattle.bb_space.specs.proving.Entries.{members_of_entries}
use Rattle.bb_space.proofs.passing.passing.Given as goal

abbrev pub invariant-loop-unit : goal.invariant-loop-unit
invariant-loop-unit l =
    l.found.items ++ filter (passes (members_of_entries l.values.entries) l.tests) (drop l.unit-index l.among)
    ≡ filter (passes (members_of_entries l.values.entries) l.tests) l.among
