-- The phases of a run, by its notes: where a note of the blackboard may occur, and when quiescence comes.
use Rattle.std.specs.Prelude.{◌≡◌, ◌⊎◌, ℕ, ◌+◌, ℤ, None, List, ◌∷◌, ◌++◌, length, map}
use Rattle.std.specs.List.{fold}
use Rattle.bb_agenda.specs.declared.focusing.activation.Activation.{Activation}
use Rattle.bb_agenda.specs.Agenda.{next_number, pending_of}
use Rattle.bb_trace.specs.Event.TheVariants.{Quiescence as quiescence}
use Rattle.bb_trace.specs.Board.{Board as Blackboard}
use Rattle.bb_trace.specs.BoardNote.{Note as BoardNote}
use Rattle.bb_trace.specs.BoardNote.TheVariants.{Event as happened}
use Rattle.bb_trace.specs.End as finishes
use Rattle.bb_trace.specs.declared.note.Note.{Note}
use Rattle.bb_trace.specs.declared.note.Note.TheVariants.{Board, Triggered, Chosen, Invalid, Ended, Refused}
use Rattle.bb_trace.specs.declared.note.Note.TheVariants.{NativeEnded, Finished}
use Rattle.bb_trace.specs.Native.{Native}
use Rattle.bb_trace.specs.Refusal.{Refusal}
use Rattle.bb_run_plan.specs.Plan.{Plan}
use Rattle.bb_run.specs.State.{State}
use Rattle.bb_run.specs.Emission.{Stretch, after_emitted}
use Rattle.bb_run.specs.Run.{choice, cycles, unfinished}
use Rattle.bb_run.specs.Order.{At, all_of, chosen_in, pending_after, triggered_in}

-- the phase of a run
pub data Phase : Type 0 where
  -- no cycle is open
  outside : Phase
  -- no cycle is open, and quiescence has come since the last one
  rested : Phase
  -- a cycle has begun and is not over
  inside : Phase

-- the phase after a note of the blackboard
abbrev pub after_board_note : Phase → BoardNote → Phase
after_board_note inside note = inside
after_board_note rested note = rested
after_board_note outside (happened quiescence) = rested
after_board_note outside _ = outside

-- the phase after a note
abbrev pub after_in : Phase → Note → Phase
after_in phase (Board note) = after_board_note phase note
after_in phase (Chosen cycle a r) = inside
after_in phase (Invalid number) = outside
after_in phase (Ended steps found budget) = outside
after_in phase (NativeEnded asks) = outside
after_in phase _ = phase

-- the phase after these notes
abbrev pub phase_after : List Note → Phase
phase_after notes = fold after_in outside notes

-- every run whose limit is `made` or more emits these segments first and continues from this state
abbrev pub Reaches : Plan → Blackboard → List Native → (emitted : List (List Note)) → (made : ℕ) → State → Type 0
Reaches plan board natives emitted made s =
    (left : ℕ) → unfinished plan board natives (made + left) ≡ after_emitted emitted (cycles plan made left s)

-- the note is quiescence, and may come here
pub record IsQuiet (plan : Plan) (board : Blackboard) (natives : List Native) (before : List Note) (note : BoardNote)
    : Type 0 where
  pub is : note ≡ happened quiescence
  -- no cycle is open, and quiescence has not come since the last
  pub phase : phase_after before ≡ outside
  -- after what had been noted and these notes, with the cycles that they report, a run is in this state
  pub emitted : List (List Note)
  pub notes : all_of emitted ≡ map Board board.world.notes ++ before
  pub state : State
  pub there : Reaches plan board natives emitted (length (chosen_in before)) state
  -- what is pending in it is what is pending by the notes, and no pending activation can be chosen
  pub pending : pending_of state.agenda ≡ pending_after before
  -- the number of the next activation follows those that the notes report
  pub next : next_number state.agenda ≡ length (triggered_in before) + 1
  pub nothing : choice plan state ≡ None

-- what the blackboard had noted is emitted first; after that the run follows its phases
pub record GoesByPhases (plan : Plan) (board : Blackboard) (natives : List Native) (run : Stretch) : Type 0 where
  pub rest : List (List Note)
  -- the first segment is what had been noted
  pub begins : run.emitted ≡ map Board board.world.notes ∷ rest
  -- activations are numbered from 1, in order
  pub numbers : (before : List Note) (a : Activation) → At (all_of rest) before (Triggered a)
      → a.number ≡ length (triggered_in before) + 1
  -- after the first segment, a note of the blackboard comes in a cycle, or is quiescence that may come there
  pub notes : (before : List Note) (note : BoardNote) → At (all_of rest) before (Board note)
      → (phase_after before ≡ inside) ⊎ IsQuiet plan board natives before note
  -- a cycle begins only if none is open
  pub choices : (before : List Note) (cycle : ℕ) (a : Activation) (r : ℤ) → At (all_of rest) before (Chosen cycle a r)
      → (phase_after before ≡ outside) ⊎ (phase_after before ≡ rested)
  -- a cycle that ends was open
  pub ends : (before : List Note) (steps found budget : ℕ) → At (all_of rest) before (Ended steps found budget)
      → phase_after before ≡ inside
  pub native_ends : (before : List Note) (asks : ℕ) → At (all_of rest) before (NativeEnded asks)
      → phase_after before ≡ inside
  pub invalids : (before : List Note) (number : ℕ) → At (all_of rest) before (Invalid number)
      → phase_after before ≡ inside
  -- an ask is refused only in a cycle
  pub refusals : (before : List Note) (ask : ℕ) (refusal : Refusal) → At (all_of rest) before (Refused ask refusal)
      → phase_after before ≡ inside
  -- a run finishes by quiescence only if quiescence came and nothing was chosen after it
  pub finish : (before : List Note) → At (all_of rest) before (Finished finishes.Quiescence)
      → phase_after before ≡ rested
