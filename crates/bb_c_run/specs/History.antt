-- The history of a held run: the text of a move before it is made, and the run that an input and a history leave.
use Rattle.std.specs.Prelude.{◌≡◌, ◌⊎◌, ℕ, ℤ, List, [], Option, Some, None, IsSomeAnd, Result, Ok, Err, Vec, if◌then◌else◌}
use Rattle.std.specs.Option.{ok_or}
use Rattle.std.specs.declared.alloc.Global.{Global}
use Rattle.bb_moves.specs.Meant.{replayed}
use Rattle.bb_moves.specs.MovesText.{moves_of}
use Rattle.bb_moves.specs.Written.{can_tell, move_text}
use Rattle.bb_moves.specs.declared.fault.MovesFault.{MovesFault}
use Rattle.bb_moves.specs.declared.fault.MovesFault.TheVariants as faults
use Rattle.bb_moves.specs.declared.moves.Move.{Move as Kept}
use Rattle.bb_moves.specs.declared.moves.Move.TheVariants as kept
use Rattle.bb_run_held.specs.Moves.{Move, one_turn, advance, post, answer, started}
use Rattle.bb_run_held.specs.declared.running.Running.{Running}
use Rattle.bb_schema.specs.Schema.{Schema}
use Rattle.bb_shell.specs.Ask.{Ask}
use Rattle.bb_shell.specs.Meaning.{Meaning}
use Rattle.bb_shell.specs.TraceText.{trace_text}
use Rattle.bb_c_run.specs.Opening.{meaning_of}
use Rattle.bb_c_run.specs.Sitting.{standing, unread}
use Rattle.bb_c_run.specs.declared.held.Held.{Held}
use Rattle.bb_c_run.specs.declared.held.OpenFault.{OpenFault}
use Rattle.bb_c_run.specs.declared.held.OpenFault.TheVariants as opening
use Rattle.bb_c_run.specs.declared.no_native.NoNative.{NoNative}
use Rattle.bb_c_run.specs.declared.resuming.ResumeFault.{ResumeFault}
use Rattle.bb_c_run.specs.declared.resuming.ResumeFault.TheVariants as refusals
use Rattle.bb_c_run.specs.declared.telling.Step.{Step}
use Rattle.bb_c_run.specs.declared.telling.Step.TheVariants as steps
use Rattle.bb_c_run.specs.declared.telling.TellFault.{TellFault}
use Rattle.bb_c_run.specs.declared.telling.TellFault.TheVariants as untold

-- ---- before a move

-- the move that a host is about to make, with the asks that are gathered
abbrev pub move_of : Step → List Ask → Move
move_of steps.Turn asks = one_turn
move_of (steps.Advance cycles) asks = advance cycles
move_of steps.Post asks = post asks
move_of steps.Answer asks = answer asks

-- the text of a move, if the format can tell it
abbrev pub text_if_told : Schema → Move → Option (List ℕ)
text_if_told s m = if can_tell s m then Some (move_text s m) else None

-- the text of the move that is about to be made; none if the run is finished, or the format can't tell the move
abbrev pub told_in : {b : _} → Option (Running NoNative b) → Step → List Ask → Result (List ℕ) TellFault
told_in None step asks = Err untold.Finished
told_in (Some r) step asks = ok_or (text_if_told r.plan.schema (move_of step asks)) untold.Untold

-- the asks of a move, or those beside it if it has none
abbrev pub asks_in : Kept → Vec Ask Global → Vec Ask Global
asks_in kept.Turn beside = beside
asks_in (kept.Advance cycles) beside = beside
asks_in (kept.Post asks) beside = asks
asks_in (kept.Answer asks) beside = asks

-- ---- a run that is taken up again

-- what an input means, and the moves of a history under its schema
pub record Past : Type 0 where
  pub means : Meaning
  pub moves : List Move

-- why a run can't be opened
abbrev pub unopened : OpenFault → ResumeFault
unopened opening.Refused = refusals.Refused
unopened opening.Memory = refusals.Memory

-- why a text is no history: the number of its first wrong line
abbrev pub refusal_by : MovesFault → ResumeFault
refusal_by (faults.At line flaw) = refusals.Line line
refusal_by faults.Memory = refusals.Memory

abbrev pub with_moves : Meaning → Result (List Move) MovesFault → Result Past ResumeFault
with_moves m (Ok moves) = Ok (record { means = m; moves = moves })
with_moves m (Err fault) = Err (refusal_by fault)

abbrev pub past_in : Option Meaning → (history : List ℕ) → Result Past ResumeFault
past_in None history = Err refusals.Refused
past_in (Some m) history = with_moves m (moves_of m.plan.schema history)

-- the past of the run of an input, if the host answers for natives with these names; the input is read first
abbrev pub past_of : (input : List ℕ) → (natives : List (List ℕ)) → (floor : ℤ) → (history : List ℕ) → Result Past ResumeFault
past_of input natives floor history = past_in (meaning_of input natives floor) history

-- a run was begun and these moves were made of it: all that they emit can be read, and no asks are gathered
abbrev pub Resumes : Past → Held → Type 0
Resumes past h =
    let plan = past.means.plan in
    let p = replayed plan (started plan past.means.board []) past.moves in
    IsSomeAnd h.running (λ r. (r.plan ≡ plan) × (standing r ≡ p.standing) × (r.cut ≡ None))
    × (unread h.trace ≡ trace_text plan p.emitted) × (h.asks.items ≡ [])

-- the run of a past was made; or memory ran out, or there is no such past
abbrev pub TakesUp : Result Past ResumeFault → Result Held ResumeFault → Type 0
TakesUp past (Ok h) = (p : Past) × (past ≡ Ok p) × Resumes p h
TakesUp past (Err fault) = (fault ≡ refusals.Memory) ⊎ (past ≡ Err fault)
