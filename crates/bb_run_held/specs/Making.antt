-- What the code of a move did, compared with the definitions.
use Rattle.std.specs.Prelude.{◌≡◌, ℕ, List, Option, Some, None, Result, Ok, Err}
use Rattle.std.specs.Io.KnownBytes.{Appends}
use Rattle.bb_run.specs.Plan.{Plan}
use Rattle.bb_run.specs.State.{State}
use Rattle.bb_run.specs.Emitting.{WroteUntil}
use Rattle.bb_run.specs.TraceText.{trace_text}
use Rattle.bb_run.specs.Halt.{Halt}
use Rattle.bb_run_held.specs.declared.pause.Pause.{Pause}
use Rattle.bb_run_held.specs.Moves.{Moved, Standing}

-- the state of a run, from the parts that the host holds
abbrev pub stands : State → (made : ℕ) → Pause → Standing
stands s made pause = record { state = s; made = made; pause = pause }

-- the move was written and the run is in this state, or it was cut short in the move
abbrev pub Makes : Plan → Moved → Standing → (taken given : Option (List ℕ)) → Result Pause Halt → Type 0
Makes plan m t taken given (Ok pause) =
    (t ≡ m.standing) × (pause ≡ m.standing.pause) × Appends taken given (trace_text plan m.emitted)
Makes plan m t taken given (Err halt) = WroteUntil plan taken given m.emitted halt

-- why a move was cut short, if it was
abbrev pub halt_of : Result Pause Halt → Option Halt
halt_of (Ok pause) = None
halt_of (Err halt) = Some halt

-- a run was begun, its start was written, and it is in this state; or it was cut short in its start
abbrev pub Begins : {X : Type 0} → Plan → Moved → (X → Standing) → (taken given : Option (List ℕ)) → Result X Halt → Type 0
Begins plan m standing taken given (Ok r) = (standing r ≡ m.standing) × Appends taken given (trace_text plan m.emitted)
Begins plan m standing taken given (Err halt) = WroteUntil plan taken given m.emitted halt
