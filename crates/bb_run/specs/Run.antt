-- The run of the blackboard machine (the control cycle of the GBBopen Agenda Shell).
use Rattle.std.specs.Prelude.{ℕ, zero, suc, ◌+◌, ℤ, List, [], ◌∷◌, ◌++◌, length, map, Option, Some, None}
use Rattle.std.specs.Prelude.{option_and_then, Result, Ok, Err, slice_get}
use Rattle.bb_trace.specs.Event.TheVariants.{Quiescence as quiescence}
use Rattle.bb_trace.specs.BoardNote.TheVariants.{Event as happened}
use Rattle.bb_trace.specs.Board.{Board as Blackboard, with_world}
use Rattle.bb_trace.specs.World.{after_take}
use Rattle.bb_agenda.specs.declared.focusing.activation.Activation.{Activation}
use Rattle.bb_agenda.specs.Agenda.{pending_of}
use Rattle.bb_agenda.specs.Changes.{with_executed, with_obviated}
use Rattle.bb_agenda.specs.Rating.{rating as rated}
use Rattle.bb_agenda.specs.Chosen.{chosen}
use Rattle.bb_code.specs.Code.{Code}
use Rattle.bb_verify.specs.Accepted.{Checked}
use Rattle.bb_verify.specs.Budget.{budget}
use Rattle.bb_machine.specs.declared.outcome.Answer.{Answer}
use Rattle.bb_machine.specs.declared.outcome.Answer.TheVariants.{No}
use Rattle.bb_machine.specs.declared.outcome.Outcome.{Outcome}
use Rattle.bb_machine.specs.declared.outcome.Stop.{Stop}
use Rattle.bb_rules.specs.declared.source.Act.{Act}
use Rattle.bb_rules.specs.declared.source.Act.TheVariants as acts
use Rattle.bb_rules.specs.Parts.{Source}
use Rattle.bb_trace.specs.Ask.{Ask}
use Rattle.bb_trace.specs.Applied.{applied}
use Rattle.bb_trace.specs.Denial.{Denial}
use Rattle.bb_trace.specs.Denial.TheVariants as denials
use Rattle.bb_trace.specs.Native.{Native}
use Rattle.bb_trace.specs.Roster.{after_act_at, asks_at, closings_of, place_of}
use Rattle.bb_trace.specs.Sight.{sight_of}
use Rattle.bb_trace.specs.End.{End}
use Rattle.bb_trace.specs.End as finishes
use Rattle.bb_trace.specs.declared.note.Note.{Note}
use Rattle.bb_trace.specs.declared.note.Note.TheVariants.{Board, Chosen, Invalid, Ended, Refused, NativeEnded, Finished, Closed}
use Rattle.bb_run_plan.specs.Plan.{Plan}
use Rattle.bb_run.specs.declared.asking.Reply.{Reply}
use Rattle.bb_run.specs.declared.asking.Reply.TheVariants as replies
use Rattle.bb_run.specs.declared.execution.Verdict.{Verdict}
use Rattle.bb_run.specs.declared.execution.Verdict.TheVariants as verdicts
use Rattle.bb_run.specs.State.{State, with_board, with_agenda, with_natives}
use Rattle.bb_run_plan.specs.Foci.{foci_on, told_notes, with_foci, rated_source, first_agenda}
use Rattle.bb_run.specs.Emission.{Response, Stretch, emitting, idle, over, after_emitted, and_then, segment}
use Rattle.bb_run.specs.Asking.{attempt, end_by, entry_of, reply_by}
use Rattle.bb_run.specs.Processing.{response, reported}

-- the rating of an activation in a state: its base plus the weights of all foci of the blackboard that match
abbrev pub rating : Plan → State → Activation → ℤ
rating plan s a = rated plan.schema (map rated_source plan.sources) (foci_on s.board) a

-- the activation that is chosen, if one can be
abbrev pub choice : Plan → State → Option Activation
choice plan s = chosen (rating plan s) plan.floor (pending_of s.agenda)

-- quiescence is emitted, and the sources respond to it
abbrev pub quiet : Plan → State → Stretch
quiet plan s = segment (after_emitted (Board (happened quiescence) ∷ []) (response plan quiescence s))

-- before a cycle, quiescence comes if nothing can be chosen
abbrev pub wait_for : Plan → State → Option Activation → Stretch
wait_for plan s None = quiet plan s
wait_for plan s (Some a) = idle s

-- the wait before a cycle, by what can be chosen
abbrev pub wait : Plan → State → Stretch
wait plan s = wait_for plan s (choice plan s)

-- the blackboard's notes are taken, and the agenda is told the units that they name; `rating` does not depend on that
abbrev pub with_notes_taken : State → State
with_notes_taken s = record s {
  board = with_world s.board (after_take s.board.world);
  agenda = with_foci s.agenda (told_notes s.board.schema s.board.world.units s.board.world.notes s.agenda.foci);
}

-- what the blackboard noted is emitted, and then these notes
abbrev pub noted : State → List Note → Option End → Response
noted s more end = emitting (map Board s.board.world.notes ++ more) (with_notes_taken s) end

-- what an execution emits; the run is over if it came to no answer
abbrev pub answered : Code → State → Result Outcome Stop → Response
answered code s (Ok o) = noted s (Ended o.steps o.found (budget code o.found) ∷ []) None
answered code s (Err stop) = noted s [] (Some (end_by stop))

-- the outcome of the ask with this number: the blackboard after it, a refusal, or, if no unit can be created, the run
-- is over; executions of the definitions never run out of memory
abbrev pub upon_ask : (number : ℕ) → Result Blackboard Denial → State → Response
upon_ask number (Ok board) s = noted (with_board s board) [] None
upon_ask number (Err (denials.Refused refusal)) s = emitting (Refused number refusal ∷ []) s None
upon_ask number (Err denials.Full) s = over finishes.Full s
upon_ask number (Err denials.Memory) s = over finishes.Full s

-- asks are applied in order, numbered from this number
unfoldable pub each_applied : (number : ℕ) → List Ask → State → Response
each_applied number [] s = idle s
each_applied number (ask ∷ more) s =
    and_then (upon_ask number (applied ask s.board) s) (each_applied (number + 1) more)

-- asks are applied, and a note reports how many there were
abbrev pub asked : (last : ℕ → Note) → List Ask → State → Response
asked last asks s = and_then (each_applied 1 asks s) (λ t. emitting (last (length asks) ∷ []) t None)

-- the native at a place is called, and its asks are applied; if there is no native, it is due
abbrev pub calling : Option ℕ → Activation → State → Response
calling None a s = over (finishes.Due a) s
calling (Some place) a s =
    let seen = sight_of s.board in
    asked NativeEnded (asks_at s.natives place a.unit seen) (with_natives s (after_act_at s.natives place a.unit seen))

-- a code is executed for an activation
abbrev pub executing : Code → Activation → State → Response
executing code a s = let e = attempt code (entry_of a.unit None) s.board in answered code (with_board s e.1) e.0

-- the act of the source with a name is executed for an activation
abbrev pub execution : (name : List ℕ) → Act → Activation → State → Response
execution name (acts.Code body) a s = executing body.code a s
execution name acts.Native a s = calling (place_of s.natives name) a s

-- the source at the activation's place acts; every pending activation has one
abbrev pub acting : Plan → Option Source → Activation → State → Stretch
acting plan None a s = idle s
acting plan (Some source) a s = reported plan (execution source.name source.act a s)

-- the verdict by the answer of a revalidation: an activation is still needed unless the answer is no
abbrev pub verdict_of : Answer → Verdict
verdict_of No = verdicts.Invalid
verdict_of _ = verdicts.Valid

-- the verdict by the reply of a revalidation, which may be no answer
abbrev pub verdict_by : Reply → Verdict
verdict_by (replies.Answer answer) = verdict_of answer
verdict_by (replies.Over end) = verdicts.Over end

-- the verdict on an activation, and the blackboard after it; without a revalidation it is valid
abbrev pub validity : Option Checked → Activation → Blackboard → Verdict × Blackboard
validity None a board = (verdicts.Valid, board)
validity (Some code) a board =
    let e = attempt code.code (entry_of a.unit None) board in (verdict_by (reply_by e.0), e.1)

-- the choice of a cycle is emitted, with the verdict on it; then the activation is no longer pending, unless the run is
-- over
abbrev pub chosen_with : (number : ℕ) → Activation → ℤ → Verdict → State → Response
chosen_with number a r verdicts.Valid s =
    emitting (Chosen number a r ∷ []) (with_agenda s (with_executed s.agenda a.number)) None
chosen_with number a r verdicts.Invalid s =
    emitting (Chosen number a r ∷ Invalid a.number ∷ []) (with_agenda s (with_obviated s.agenda a.number)) None
chosen_with number a r (verdicts.Over end) s = emitting (Chosen number a r ∷ []) s (Some end)

-- the source that acts: the activation's, if it is still needed
abbrev pub if_valid : Verdict → Option Source → Option Source
if_valid verdicts.Valid source = source
if_valid _ source = None

-- a cycle of the source of its activation: it is revalidated, the choice is emitted, and the source acts
abbrev pub cycle_of : Plan → (number : ℕ) → Option Source → Activation → State → Stretch
cycle_of plan number source a s =
    let v = validity (option_and_then (λ t. t.revalidate) source) a s.board in
    and_then (segment (chosen_with number a (rating plan s a) v.0 (with_board s v.1)))
    (acting plan (if_valid v.0 source) a)

-- the cycle of an activation
abbrev pub cycle : Plan → (number : ℕ) → Activation → State → Stretch
cycle plan number a s = cycle_of plan number (slice_get plan.sources a.source) a s

-- the continuation of a choice; if nothing can be chosen, the run is over
abbrev pub if_chosen : State → Option Activation → (Activation → Stretch) → Stretch
if_chosen s None next = over finishes.Quiescence s
if_chosen s (Some a) next = next a

-- the rest of a run after `made` cycles, if `left` more can be made
unfoldable pub cycles : Plan → (made left : ℕ) → State → Stretch
cycles plan made zero s = and_then (wait plan s) (λ t. if_chosen t (choice plan t) (λ a. over finishes.Limit t))
cycles plan made (suc left) s =
    and_then (wait plan s) (λ t. if_chosen t (choice plan t)
    (λ a. and_then (cycle plan (made + 1) a t) (cycles plan (made + 1) left)))

-- the state that a run begins with
abbrev pub first_state : Plan → Blackboard → List Native → State
first_state plan board natives = record { board = board; agenda = first_agenda plan board; natives = natives }

-- what the creation of the initial units noted is emitted, and its events are processed
abbrev pub start : Plan → Blackboard → List Native → Stretch
start plan board natives = reported plan (noted (first_state plan board natives) [] None)

-- the last notes of a run: its end, and what every native reports at its close, in order
abbrev pub finish : End → List Native → List Note
finish end natives = Finished end ∷ map Closed (closings_of natives)

-- the segment that emits the end, if there is one
abbrev pub finish_segments : Option End → List Native → List (List Note)
finish_segments None natives = []
finish_segments (Some end) natives = finish end natives ∷ []

-- a stretch with its end emitted last
abbrev pub with_finish : Stretch → Stretch
with_finish p = emitting (p.emitted ++ finish_segments p.end p.state.natives) p.state p.end

-- the start, followed by at most `limit` cycles
abbrev pub unfinished : Plan → Blackboard → List Native → (limit : ℕ) → Stretch
unfinished plan board natives limit = and_then (start plan board natives) (cycles plan 0 limit)

-- the whole run from the first state of a blackboard, with at most `limit` cycles
abbrev pub run : Plan → Blackboard → List Native → (limit : ℕ) → Stretch
run plan board natives limit = with_finish (unfinished plan board natives limit)
