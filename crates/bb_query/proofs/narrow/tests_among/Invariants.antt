use Rattle.bb_pattern.specs.Holds.{holds_each}
use Rattle.bb_pattern.specs.View.{trees_of}
use Rattle.bb_query.specs.proving.Tests.{AskNoMore}
use Rattle.bb_query.proofs.narrow.tests_among.Given as goal

abbrev pub invariant-loop-pattern : goal.invariant-loop-pattern
invariant-loop-pattern l = AskNoMore (λ values. holds_each l.operands values (trees_of l.patterns)) l.tests.items
