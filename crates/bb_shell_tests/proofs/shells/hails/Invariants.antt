use Rattle.std.specs.Prelude.{All}
use Rattle.bb_shell.specs.Law.{IsMade}
use Rattle.bb_shell_tests.proofs.shells.hails.Given as goal

abbrev pub invariant-loop-turn : goal.invariant-loop-turn
invariant-loop-turn l = All (IsMade l.schema) l.sources.items
