-- The shell of a blackboard, sources that fit together and the natives of these names, or the first fault.
use Rattle.std.specs.Prelude.{ℕ, ℤ, List, Result, Ok}
use Rattle.bb_basis.specs.Results.{◌>>=◌, map_err}
use Rattle.bb_run.specs.Board.{Board}
use Rattle.bb_rules.specs.declared.fault.RuleFault.{RuleFault}
use Rattle.bb_rules.specs.Parts.{Source}
use Rattle.bb_shell.specs.Fitting.{fault_of, fitted}
use Rattle.bb_shell.specs.Meaning.{Meaning}

unfoldable pub shell_of : (natives : List (List ℕ)) → Board → List Source → ℤ → Result Meaning RuleFault
shell_of natives board sources floor = do
  fit ← map_err fault_of (fitted natives sources)
  Ok (record { plan = record { schema = board.schema; sources = fit; floor = floor }; board = board })
