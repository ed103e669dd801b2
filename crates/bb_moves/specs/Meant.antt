-- What the moves of a history mean, and the run that they make from its start.
use Rattle.std.specs.Prelude.{Bool, true, false, List, ◌++◌, Result, Ok, Err}
use Rattle.bb_shell.specs.Halt.{Halt}
use Rattle.bb_shell.specs.Halt.TheVariants as halts
use Rattle.bb_run_held.specs.Moves.{Move, Moved, one_turn, advance, post, answer, played}
use Rattle.bb_shell.specs.Plan.{Plan}
use Rattle.bb_moves.specs.declared.moves.Move.{Move as Kept}
use Rattle.bb_moves.specs.declared.moves.Move.TheVariants.{Turn, Advance, Post, Answer}

-- the machine's move for a move that a host kept
abbrev pub meant : Kept → Move
meant Turn = one_turn
meant (Advance cycles) = advance cycles
meant (Post asks) = post asks.items
meant (Answer asks) = answer asks.items

-- what the start of a run and then moves in sequence emit, and the run's state after them
abbrev pub replayed : Plan → (start : Moved) → List Move → Moved
replayed plan start moves =
    let others = played plan moves start.standing in
    record { emitted = start.emitted ++ others.emitted; standing = others.standing }

-- the output failed
abbrev pub stopped_by_write : {X : Type 0} → Result X Halt → Bool
stopped_by_write (Ok x) = false
stopped_by_write (Err halts.Memory) = false
stopped_by_write (Err halts.Write) = true
