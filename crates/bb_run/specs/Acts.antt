-- What the act of a source emits and leaves: the execution of a code, or the call of a native, by its asks.
use Rattle.std.specs.Prelude.{◌≡◌, ◌⊎◌, ℕ, ◌+◌, List, [], ◌∷◌, ◌++◌, length, Option, Some, None, Result, Ok, Err}
use Rattle.std.specs.List.{fold}
use Rattle.bb_agenda.specs.declared.focusing.activation.Activation.{Activation}
use Rattle.bb_code.specs.Code.{Code}
use Rattle.bb_machine.specs.declared.outcome.Outcome.{Outcome}
use Rattle.bb_machine.specs.declared.outcome.Stop.{Stop}
use Rattle.bb_rules.specs.declared.source.Act.{Act}
use Rattle.bb_rules.specs.declared.source.Act.TheVariants as acts
use Rattle.bb_trace.specs.Applied.{applied}
use Rattle.bb_trace.specs.Ask.{Ask}
use Rattle.bb_trace.specs.Board.{Board as Blackboard}
use Rattle.bb_trace.specs.Denial.{Denial}
use Rattle.bb_trace.specs.Denial.TheVariants as denials
use Rattle.bb_trace.specs.Roster.{after_act_at, asks_at, place_of}
use Rattle.bb_trace.specs.Sight.{sight_of}
use Rattle.bb_trace.specs.declared.note.Note.{Note}
use Rattle.bb_trace.specs.declared.note.Note.TheVariants.{Ended, NativeEnded, Refused}
use Rattle.bb_verify.specs.Budget.{budget}
use Rattle.bb_trace.specs.End.{End}
use Rattle.bb_trace.specs.End as ends
use Rattle.bb_run.specs.Asking.{attempt, end_by, entry_of}
use Rattle.bb_run.specs.State.{State}
use Rattle.bb_run.specs.Emission.{Response, over}
use Rattle.bb_run.specs.Responds.{noted_on, taken}

-- ---- the execution of a code

-- what is emitted of its end: its steps, the units that it found, and its budget; nothing if it came to no answer
abbrev pub emitted_of_end : Code → Result Outcome Stop → List Note
emitted_of_end code (Ok o) = Ended o.steps o.found (budget code o.found) ∷ []
emitted_of_end code (Err stop) = []

-- how the run ends by it, if it came to no answer
abbrev pub end_after : Result Outcome Stop → Option End
end_after (Ok o) = None
end_after (Err stop) = Some (end_by stop)

-- a code is executed for the unit of an activation
pub record IsExecution (s : State) (code : Code) (a : Activation) (r : Response) : Type 0 where
  -- what the blackboard noted during it is emitted, and then its end
  pub emitted : let e = attempt code (entry_of a.unit None) s.board in r.emitted ≡ noted_on e.1 ++ emitted_of_end code e.0
  -- it leaves its blackboard, with the notes taken, and all natives
  pub board : r.state.board ≡ taken (attempt code (entry_of a.unit None) s.board).1
  pub natives : r.state.natives ≡ s.natives
  -- the run continues exactly if it came to an answer
  pub end : r.end ≡ end_after (attempt code (entry_of a.unit None) s.board).0

-- ---- the call of a native

-- what is emitted of the ask with a number: what the blackboard noted, or that it was refused
abbrev pub emitted_of_ask : (number : ℕ) → Result Blackboard Denial → List Note
emitted_of_ask number (Ok board) = noted_on board
emitted_of_ask number (Err (denials.Refused refusal)) = Refused number refusal ∷ []
emitted_of_ask number (Err _) = []

-- the blackboard that an ask leaves, with its notes taken; unchanged if the ask was not applied
abbrev pub left_by : (before : Blackboard) → Result Blackboard Denial → Blackboard
left_by before (Ok board) = taken board
left_by before (Err denial) = before

-- the blackboard after asks, in order
abbrev pub after_asks : Blackboard → List Ask → Blackboard
after_asks board asks = fold (λ b ask. left_by b (applied ask b)) board asks

-- what is emitted of asks, the first of which has this number
abbrev pub emitted_of_asks : (number : ℕ) → List Ask → Blackboard → List Note
emitted_of_asks number [] board = []
emitted_of_asks number (ask ∷ more) board =
    emitted_of_ask number (applied ask board) ++ emitted_of_asks (number + 1) more (left_by board (applied ask board))

-- what the native at a place asks for an activation
abbrev pub asks_of : State → (place : ℕ) → Activation → List Ask
asks_of s place a = asks_at s.natives place a.unit (sight_of s.board)

-- the native at a place is called for an activation
pub record IsCall (s : State) (place : ℕ) (a : Activation) (r : Response) : Type 0 where
  -- all its asks are reported, from number 1, and how many there are; `left` is omitted if the run is full
  pub left : List Note
  pub emitted : let asks = asks_of s place a in
      r.emitted ++ left ≡ emitted_of_asks 1 asks s.board ++ NativeEnded (length asks) ∷ []
  pub end : (r.end ≡ None) ⊎ (r.end ≡ Some ends.Full)
  pub whole : r.end ≡ None → left ≡ []
  -- all were applied
  pub board : r.end ≡ None → r.state.board ≡ after_asks s.board (asks_of s place a)
  -- the native holds what it left, and the others hold what they held before
  pub natives : r.state.natives ≡ after_act_at s.natives place a.unit (sight_of s.board)

-- ---- the act of a source

-- the native of a source is called; if there is none, the run is over with that native due
abbrev pub IsCalled : State → Option ℕ → Activation → Response → Type 0
IsCalled s None a r = r ≡ over (ends.Due a) s
IsCalled s (Some place) a r = IsCall s place a r

-- the act of the source with a name is executed for an activation
abbrev pub IsDone : State → (name : List ℕ) → Act → Activation → Response → Type 0
IsDone s name (acts.Code body) a r = IsExecution s body.code a r
IsDone s name acts.Native a r = IsCalled s (place_of s.natives name) a r
