-- What the calls for the history of a run return: the text of a move before it is made, and a run that is taken up again.
use Rattle.std.specs.Prelude.{◌≡◌, ◌==◌, ℕ, List, Option, Some, None, Result, Ok, Err, if◌then◌else◌}
use Rattle.bb_c_run.specs.History.{Past, TakesUp, told_in}
use Rattle.bb_c_run.specs.Sitting.{stands_now}
use Rattle.bb_c_run.specs.declared.held.Held.{Held}
use Rattle.bb_c_run.specs.declared.resuming.ResumeFault.{ResumeFault}
use Rattle.bb_c_run.specs.declared.resuming.ResumeFault.TheVariants as refusals
use Rattle.bb_c_run.specs.declared.telling.Step.{Step}
use Rattle.bb_c_run.specs.declared.telling.Step.TheVariants as steps
use Rattle.bb_c_run.specs.declared.telling.TellFault.{TellFault}
use Rattle.bb_c_run.specs.declared.telling.TellFault.TheVariants as untold
use Rattle.bb_c.specs.Called.{status_of}
use Rattle.bb_c.specs.declared.history.TheConstants.{MOVE_TURN, MOVE_ADVANCE, MOVE_POST, MOVE_ANSWER}
use Rattle.bb_c.specs.declared.status.TheConstants.{OK, MEMORY, MISUSE, REFUSED}

-- the move with a number; an advance is by `cycles` cycles
abbrev pub step_of : (number cycles : ℕ) → Option Step
step_of number cycles =
    if number == MOVE_TURN then Some steps.Turn
    else if number == MOVE_ADVANCE then Some (steps.Advance cycles)
    else if number == MOVE_POST then Some steps.Post
    else if number == MOVE_ANSWER then Some steps.Answer
    else None

-- the text of a move that is about to be made, or why there is none
abbrev pub text_in : Option Held → Step → Result (List ℕ) TellFault
text_in None step = Err untold.Finished
text_in (Some h) step = told_in h.running step h.asks.items

abbrev pub text_before : Option Held → Option Step → Result (List ℕ) TellFault
text_before held None = Err untold.Untold
text_before held (Some step) = text_in held step

-- the status that reports why there is no text
abbrev pub untold_by : TellFault → ℕ
untold_by untold.Finished = MISUSE
untold_by untold.Untold = REFUSED
untold_by untold.Memory = MEMORY

-- there is a text, and `came` holds of it; or there is none, and nothing was written
abbrev pub WritesText : Result (List ℕ) TellFault → (came : List ℕ → Type 0) → (same : Type 0) → (status : ℕ) → Type 0
WritesText (Ok text) came same status = came text × (status ≡ OK)
WritesText (Err fault) came same status = same × (status ≡ untold_by fault)

-- the status that reports why a run can't be taken up again, and the first wrong line of its history, or 0
abbrev pub unresumed_by : ResumeFault → ℕ
unresumed_by refusals.Refused = REFUSED
unresumed_by (refusals.Line line) = REFUSED
unresumed_by refusals.Memory = MEMORY

abbrev pub line_of : ResumeFault → ℕ
line_of refusals.Refused = 0
line_of (refusals.Line line) = line
line_of refusals.Memory = 0

-- the run of a past was made, and the status is its state; or why not, with the line that is wrong
abbrev pub Resumed : Result Past ResumeFault → Option Held → (line status : ℕ) → Type 0
Resumed past None line status =
    (fault : ResumeFault) × TakesUp past (Err fault) × (line ≡ line_of fault) × (status ≡ unresumed_by fault)
Resumed past (Some h) line status =
    TakesUp past (Ok h) × (line ≡ 0) × (status ≡ status_of (stands_now h.running))

-- a handle that has a run keeps it
abbrev pub ResumesIn : (old new : Option Held) → Result Past ResumeFault → (line status : ℕ) → Type 0
ResumesIn (Some h) new past line status = (new ≡ Some h) × (line ≡ 0) × (status ≡ MISUSE)
ResumesIn None new past line status = Resumed past new line status
