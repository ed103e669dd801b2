-- What an input means: the plan and the blackboard that its run begins with, or the first refusal.
use Rattle.std.specs.Prelude.{ℕ, ℤ, List, Result, Ok}
use Rattle.bb_basis.specs.Results.{◌>>=◌, map_err}
use Rattle.bb_schema.specs.Reading.{schema_of}
use Rattle.bb_run.specs.Board.{Board, new_board}
use Rattle.bb_run.specs.Load.{loaded}
use Rattle.bb_refusal.specs.declared.input_fault.InputFault.{InputFault}
use Rattle.bb_refusal.specs.declared.input_fault.InputFault.TheVariants as inputs
use Rattle.bb_run.specs.Plan.{Plan}
use Rattle.bb_shell.specs.Sources.{given}

pub record Meaning : Type 0 where
  pub plan : Plan
  -- the initial units and their links, with what was noted of them
  pub board : Board

-- the schema, the initial units and the sources of both texts, read in this order, with natives of these names
unfoldable pub meaning :
    (natives : List (List ℕ)) → (schema units sources bundle : List ℕ) → (floor : ℤ) → Result Meaning InputFault
meaning natives schema units sources bundle floor = do
  s ← map_err inputs.Schema (schema_of schema)
  board ← map_err inputs.Units (loaded (new_board s) units)
  made ← given natives s sources bundle
  Ok (record { plan = record { schema = s; sources = made; floor = floor }; board = board })
