-- What a part of the run's code did, compared with the definitions.
use Rattle.std.specs.Prelude.{⊤, ◌≡◌, ℕ, List, [], ◌∷◌, ◌++◌, take, Option, Some, None, Result, Ok, Err, IfOk}
use Rattle.std.specs.Io.KnownBytes.{Appends}
use Rattle.bb_agenda.specs.declared.focusing.activation.Activation.{Activation}
use Rattle.bb_machine.specs.declared.outcome.Outcome.{Outcome}
use Rattle.bb_machine.specs.declared.outcome.Stop.{Stop}
use Rattle.bb_machine.specs.declared.outcome.Stop.TheVariants as stops
use Rattle.bb_exec.specs.declared.stop.Stop.{Stop as Stopped}
use Rattle.bb_exec.specs.declared.stop.Stop.TheVariants as stopped
use Rattle.bb_trace.specs.Board.{Board as Blackboard}
use Rattle.bb_trace.specs.Closing.{Closing}
use Rattle.bb_trace.specs.End.{End, Quiescence}
use Rattle.bb_trace.specs.declared.halt.Halt.{Halt}
use Rattle.bb_trace.specs.declared.halt.Halt.TheVariants as halts
use Rattle.bb_trace.specs.declared.note.Note.{Note}
use Rattle.bb_run.specs.declared.cycles.Decision.{Decision}
use Rattle.bb_run.specs.declared.cycles.Decision.TheVariants.{Act, Over}
use Rattle.bb_run_plan.specs.Plan.{Plan}
use Rattle.bb_run.specs.declared.asking.Reply.{Reply}
use Rattle.bb_run.specs.declared.execution.Verdict.{Verdict}
use Rattle.bb_run.specs.State.{State}
use Rattle.bb_run.specs.declared.runner.Runner.{Runner}
use Rattle.bb_run.specs.Emission.{Response, Stretch}
use Rattle.bb_run.specs.Asking.{reply_by}
use Rattle.bb_run.specs.Run.{choice, wait, with_finish}
use Rattle.bb_trace.specs.Roster.{closings_of}
use Rattle.bb_trace.specs.TraceText.{trace_text}

-- ---- notes

-- one element, if there is one
abbrev pub option_list : {X : Type 0} → Option X → List X
option_list None = []
option_list (Some x) = x ∷ []

-- the notes were appended, and the state and the end are the response's
pub record IsResponse (r : Response) (old new : List Note) (s : State) (e : Option End) : Type 0 where
  pub notes : new ≡ old ++ r.emitted
  pub state : s ≡ r.state
  pub end : e ≡ r.end

-- an execution came to this result and left this blackboard, or memory ran out
abbrev pub Attempts : Result Outcome Stop × Blackboard → Result Outcome Stopped → Blackboard → Type 0
Attempts e (Ok o) board = (e.0 ≡ Ok o) × (board ≡ e.1)
Attempts e (Err (stopped.Full steps found)) board = (e.0 ≡ Err (stops.Full steps found)) × (board ≡ e.1)
Attempts e (Err stopped.Memory) board = ⊤

-- a code that was asked gave this reply and left this blackboard
pub record Replies (e : Result Outcome Stop × Blackboard) (reply : Reply) (board : Blackboard) : Type 0 where
  pub reply_is : reply ≡ reply_by e.0
  pub board_is : board ≡ e.1

-- a revalidation gave this verdict and left this blackboard
pub record Validates (v : Verdict × Blackboard) (verdict : Verdict) (board : Blackboard) : Type 0 where
  pub verdict_is : verdict ≡ v.0
  pub board_is : board ≡ v.1

-- ---- segments

-- what the output took, if known, and what is still on the page
pub record Place : Type 0 where
  pub taken : Option (List ℕ)
  pub page : List ℕ

abbrev pub at_page : Option (List ℕ) → List ℕ → Place
at_page taken page = record { taken = taken; page = page }

-- the place of a runner, by what its output took
abbrev pub at : {O : Type 0} → (O → Option (List ℕ)) → Runner O → Place
at taken t = at_page (taken t.out.now) t.page.now

-- the runner uses the same page and the same output
abbrev pub Same : {O : Type 0} → Runner O → Runner O → Type 0
Same old new = (new.page.ghost_name ≡ old.page.ghost_name) × (new.out.ghost_name ≡ old.out.ghost_name)

-- the first of the emitted segments were written, and the page has the text of the others
pub record HasWritten (plan : Plan) (start : Option (List ℕ)) (place : Place) (emitted : List (List Note)) : Type 0 where
  pub written : List (List Note)
  pub waiting : List (List Note)
  pub all : emitted ≡ written ++ waiting
  pub appended : Appends start place.taken (trace_text plan written)
  pub page_is : place.page ≡ trace_text plan waiting

-- the first of these segments were emitted
pub record EmittedFirst (plan : Plan) (start : Option (List ℕ)) (place : Place) (segments : List (List Note)) : Type 0 where
  pub first : List (List Note)
  pub rest : List (List Note)
  pub all : segments ≡ first ++ rest
  pub emitted : HasWritten plan start place first

-- the first of these segments were written
pub record WroteFirst (plan : Plan) (start taken : Option (List ℕ)) (segments : List (List Note)) : Type 0 where
  pub first : List (List Note)
  pub rest : List (List Note)
  pub all : segments ≡ first ++ rest
  pub appended : Appends start taken (trace_text plan first)

-- a prefix of the text of these segments was written
pub record WroteFront (plan : Plan) (start taken : Option (List ℕ)) (segments : List (List Note)) : Type 0 where
  pub front : List ℕ
  pub rest : List ℕ
  pub all : trace_text plan segments ≡ front ++ rest
  pub appended : Appends start taken front

-- how far these segments were emitted when the run was cut short in them: whole ones if memory ran out
abbrev pub EmittedUntil : Plan → (start : Option (List ℕ)) → Place → List (List Note) → Halt → Type 0
EmittedUntil plan start place segments halts.Memory = EmittedFirst plan start place segments
EmittedUntil plan start place segments halts.Write = WroteFront plan start place.taken segments

-- what was written of these segments when the run was cut short in them
abbrev pub WroteUntil : Plan → (start taken : Option (List ℕ)) → List (List Note) → Halt → Type 0
WroteUntil plan start taken segments halts.Memory = WroteFirst plan start taken segments
WroteUntil plan start taken segments halts.Write = WroteFront plan start taken segments

-- the segments were emitted, after anything emitted before
abbrev pub IsEmitted : Plan → Place → Place → List (List Note) → Type 0
IsEmitted plan old new segments =
    (start : Option (List ℕ)) (emitted : List (List Note)) → HasWritten plan start old emitted
    → HasWritten plan start new (emitted ++ segments)

-- the run was cut short in these segments, after anything emitted before
abbrev pub CutIn : Plan → Place → Place → List (List Note) → Halt → Type 0
CutIn plan old new segments halt =
    (start : Option (List ℕ)) (emitted : List (List Note)) → HasWritten plan start old emitted
    → EmittedUntil plan start new (emitted ++ segments) halt

-- the segments were emitted, or the run was cut short in them
abbrev pub Emits : {X : Type 0} → Plan → Place → Place → List (List Note) → Result X Halt → Type 0
Emits plan old new segments (Ok x) = IsEmitted plan old new segments
Emits plan old new segments (Err halt) = CutIn plan old new segments halt

-- the state and the end are the ones that a stretch leaves
pub record Leaves (p : Stretch) (s : State) (e : Option End) : Type 0 where
  pub state : s ≡ p.state
  pub end : e ≡ p.end

-- a stretch was emitted and left this state and this end, or the run was cut short in it
abbrev pub MakesBy : {X : Type 0} → (X → Option End) → Plan → Place → Place → Stretch → State → Result X Halt → Type 0
MakesBy end_of plan old new p s (Ok x) = IsEmitted plan old new p.emitted × Leaves p s (end_of x)
MakesBy end_of plan old new p s (Err halt) = CutIn plan old new p.emitted halt

-- a stretch in which the run may end was emitted or cut short
abbrev pub Makes : Plan → Place → Place → Stretch → State → Result (Option End) Halt → Type 0
Makes = MakesBy (λ e. e)

-- a stretch in which the run ends was emitted or cut short
abbrev pub Finishes : Plan → Place → Place → Stretch → State → Result End Halt → Type 0
Finishes = MakesBy (λ e. Some e)

-- what was written of a whole run that began with this output
abbrev pub Writes : {X : Type 0} → Plan → (taken given : Option (List ℕ)) → List (List Note) → Result X Halt → Type 0
Writes plan taken given segments (Ok x) = Appends taken given (trace_text plan segments)
Writes plan taken given segments (Err halt) = WroteUntil plan taken given segments halt

-- a stretch was emitted and written and left this state and this end, or the run was cut short in it
abbrev pub WritesBy : {X : Type 0} → (X → Option End) → Plan → (taken given : Option (List ℕ)) → Stretch → State
    → Result X Halt → Type 0
WritesBy end_of plan taken given p s (Ok x) = Appends taken given (trace_text plan p.emitted) × Leaves p s (end_of x)
WritesBy end_of plan taken given p s (Err halt) = WroteUntil plan taken given p.emitted halt

-- everything emitted of a stretch is written, for any stretch that began on an empty page
abbrev pub WritesEmitted : {X : Type 0} → Place → (given : Option (List ℕ)) → (emitted result : Result X Halt) → Type 0
WritesEmitted {X} place given emitted result =
    (end_of : X → Option End) (plan : Plan) (start : Option (List ℕ)) (p : Stretch) (s : State)
    → MakesBy end_of plan (at_page start []) place p s emitted → WritesBy end_of plan start given p s result

-- the page was written, and the run is cut short by this; if the output failed, only a prefix was written
abbrev pub GivesUp : (taken given : Option (List ℕ)) → (page : List ℕ) → Halt → Type 0
GivesUp taken given page halts.Memory = Appends taken given page
GivesUp taken given page halts.Write = (count : ℕ) × Appends taken given (take count page)

-- everything emitted of some segments is written, for any segments; the run is cut short by the first halt and ends by
-- the second
abbrev pub CutsShort : Place → (given : Option (List ℕ)) → Halt → Halt → Type 0
CutsShort place given halt result =
    (plan : Plan) (start : Option (List ℕ)) (segments : List (List Note)) → EmittedUntil plan start place segments halt
    → WroteUntil plan start given segments result

-- after everything emitted before, the last segments of a run were written, or the run was cut short in them
abbrev pub Concludes : {X : Type 0} → Plan → Place → (given : Option (List ℕ)) → List (List Note) → Result X Halt → Type 0
Concludes plan place given segments result =
    (start : Option (List ℕ)) (emitted : List (List Note)) → HasWritten plan start place emitted
    → Writes plan start given (emitted ++ segments) result

-- a stretch was emitted and written, its finish last, and ends in this way; or it was cut short
pub record EndsRun (plan : Plan) (taken given : Option (List ℕ)) (p : Stretch) (result : Result End Halt) : Type 0 where
  pub written : Writes plan taken given (with_finish p).emitted result
  pub end : IfOk result (λ e. p.end ≡ Some e)

-- every stretch that began on an empty page and was made in this way is written whole, its finish last, if these are
-- the closings of the natives that it leaves
abbrev pub EndsAll : Plan → Place → (given : Option (List ℕ)) → List Closing → (made result : Result End Halt) → Type 0
EndsAll plan place given closed made result =
    (start : Option (List ℕ)) (p : Stretch) (s : State) → closed ≡ closings_of s.natives
    → Finishes plan (at_page start []) place p s made → EndsRun plan start given p result

-- ---- decisions

-- the decision after quiescence, by the choice there
abbrev pub decision_by : Option End → Option Activation → Decision
decision_by (Some end) choice = Over end
decision_by None None = Over Quiescence
decision_by None (Some a) = Act a

-- the decision after the wait before a cycle
abbrev pub decision_after : Plan → Stretch → Decision
decision_after plan p = decision_by p.end (choice plan p.state)

-- the wait before a cycle was emitted and left this state, and this is the decision
pub record Waited (plan : Plan) (old new : Place) (s t : State) (decision : Decision) : Type 0 where
  pub emitted : IsEmitted plan old new (wait plan s).emitted
  pub state : t ≡ (wait plan s).state
  pub decision_is : decision ≡ decision_after plan (wait plan s)

-- the wait before a cycle was emitted and followed by this decision, or the run was cut short in the wait
abbrev pub Waits : Plan → Place → Place → (s t : State) → Result Decision Halt → Type 0
Waits plan old new s t (Ok decision) = Waited plan old new s t decision
Waits plan old new s t (Err halt) = CutIn plan old new (wait plan s).emitted halt
