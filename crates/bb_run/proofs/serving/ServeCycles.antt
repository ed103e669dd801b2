-- The state goes on serving from cycle to cycle.
use Rattle.std.proofs.Common.{◌≡◌, ◌<◌, ◌+◌, ℕ, ℤ, drop, get_or, length, List, [], ◌∷◌, ◌++◌, Option, Some, None, Ok, refl, sym, ap, subst, ◌∙◌}
use Rattle.std.specs.Prelude.{All, option_and_then, slice_get}
use Rattle.std.proofs.lemmas.List.Elements.{All-head, All-tail}
use Rattle.bb_verify.specs.Accepted.{Checked}
use Rattle.bb_agenda.specs.declared.focusing.activation.Activation.{Activation}
use Rattle.bb_rules.specs.declared.source.Act.TheVariants as acts
use Rattle.bb_trace.specs.Ask.{Ask}
use Rattle.bb_trace.specs.Board.{Board as Blackboard}
use Rattle.bb_trace.specs.End.{End}
use Rattle.bb_trace.specs.Event.{Event}
use Rattle.bb_trace.specs.Native.{Native}
use Rattle.bb_rules.specs.Parts.{Source}
use Rattle.bb_trace.specs.declared.note.Note.{Note}
use Rattle.bb_trace.specs.declared.note.Note.TheVariants.{NativeEnded, Posted, PostEnded}
use Rattle.bb_run_plan.specs.Plan.{Plan}
use Rattle.bb_run.specs.declared.cycles.Decision.{Decision}
use Rattle.bb_run.specs.declared.cycles.Decision.TheVariants.{Act}
use Rattle.bb_run.specs.declared.execution.Verdict.{Verdict}
use Rattle.bb_run.specs.declared.execution.Verdict.TheVariants as verdicts
use Rattle.bb_run.specs.Asking.{entry_of}
use Rattle.bb_run.specs.Processing.{event_in, events_in, processing}
use Rattle.bb_run.specs.Run.{asked, choice, chosen_with, cycle, cycles, execution, first_state, noted, start, validity, wait}
use Rattle.bb_run.specs.Turns.{answering, posting, turn}
use Rattle.bb_run.specs.State.{State, with_board}
use Rattle.bb_run.specs.Emission.{Response, after_emitted}
use Rattle.bb_run.specs.Unstuck.{IsEventOf, IsReady, IsWellMade, SuitsSource}
use Rattle.bb_run.specs.Serving.{CanExecute, MayServe, Serves, ServesAt}
use Rattle.bb_run.specs.Emitting.{IsResponse, Makes, Place, Validates, Waits, decision_by, option_list}
use Rattle.bb_run.proofs.serving.ServeLemmas.{same_after, serves_after}
use Rattle.bb_run.proofs.emitting.EmitLemmas.{next_note}
use Rattle.bb_run.proofs.serving.UnstuckRuns.{act_begins, answer_goes, acts_by, chooses, cycle_goes, cycles_go, first_well, post_goes, ready_on, revalidation_begins, same_board, suits_chosen, turn_goes, verdict_is_fine, waits_for}
use Rattle.bb_run.proofs.serving.UnstuckStates.{IsWell, answers_well, posts_well, reports}

-- a state that is ready serves
serves_by : (plan : Plan) (sound : IsWellMade plan) (p t : State) → t ≡ p → IsReady plan p → Serves plan t
serves_by plan sound p t same ready = subst (Serves plan) (sym same) (record { sound = sound; ready = ready })

-- what a response that goes well leaves, and emits
emitted_serves : (plan : Plan) (sound : IsWellMade plan) (p : Response) → IsWell plan sound p → (old new read : List Note) (t : State) (end : Option End) → old ≡ [] → read ≡ new → IsResponse p old new t end
    → Serves plan t × All (IsEventOf plan.schema t.board) (events_in read)
emitted_serves plan sound p well old new read t end none same response =
    let all : read ≡ p.emitted = same ∙ (response.notes ∙ ap (λ (l : List Note). l ++ p.emitted) none) in (
      serves_by plan sound p.state t response.state well.well.state,
      subst (λ (l : List Note). All (IsEventOf plan.schema t.board) (events_in l)) (sym all) (subst (λ (y : State). All (IsEventOf plan.schema y.board) (events_in p.emitted)) (sym response.state) well.events),
    )

-- a response after the note that it is from outside
pub posted_is : (p : Response) (old new : List Note) (t : State) (end : Option End) → old ≡ Posted ∷ [] → IsResponse p old new t end → IsResponse (after_emitted (Posted ∷ []) p) [] new t end
posted_is p old new t end begun response = record { notes = response.notes ∙ ap (λ (l : List Note). l ++ p.emitted) begun; state = response.state; end = response.end }

-- ---- events of notes, one after another

module _ (P : Event → Type 0) (notes : List Note) (i : ℕ) (note : Note) where
  split : (event : Event) → i < length notes → note ≡ get_or notes i note → option_list (Some event) ≡ event_in note → events_in (drop i notes) ≡ event ∷ events_in (drop (i + 1) notes)
  split event lt is some = next_note notes i note lt is ∙ ap (λ (es : List Event). es ++ events_in (drop (i + 1) notes)) (sym some)

  pub event_there : (event : Event) → i < length notes → note ≡ get_or notes i note → option_list (Some event) ≡ event_in note → All P (events_in (drop i notes)) → P event
  event_there event lt is some all = All-head P event (events_in (drop (i + 1) notes)) (subst (All P) (split event lt is some) all)

  pub events_left : (event : Event) → i < length notes → note ≡ get_or notes i note → option_list (Some event) ≡ event_in note → All P (events_in (drop i notes)) → All P (events_in (drop (i + 1) notes))
  events_left event lt is some all = All-tail P event (events_in (drop (i + 1) notes)) (subst (All P) (split event lt is some) all)

  pub events_passed : i < length notes → note ≡ get_or notes i note → (let none : Option Event = None in option_list none) ≡ event_in note → All P (events_in (drop i notes)) → All P (events_in (drop (i + 1) notes))
  events_passed lt is none all = subst (All P) (next_note notes i note lt is ∙ ap (λ (es : List Event). es ++ events_in (drop (i + 1) notes)) (sym none)) all

module _ (plan : Plan) (s : State) (serves : Serves plan s) where
  ready : IsReady plan s
  ready = serves.ready

  serves_as : (p t : State) → t ≡ p → IsReady plan p → Serves plan t
  serves_as p t same there = serves_by plan serves.sound p t same there

  -- ---- an event of the blackboard

  pub serves_one : (event : Event) → IsEventOf plan.schema s.board event → ServesAt plan event s
  serves_one event here = record { sound = serves.sound; ready = (serves.ready, here) }

  -- after an event, on the same blackboard
  pub serves_next : (a b : Place) (event : Event) (t : State) (end : Option End) → IsEventOf plan.schema s.board event → Makes plan a b (processing plan event s) t (Ok end) → Serves plan t × (t.board ≡ s.board)
  serves_next a b event t end here made =
      let at = serves_one event here in
      let after = serves_after plan event s at in (
        subst (Serves plan) (sym made.1.state) (record { sound = serves.sound; ready = after.ready.0 }),
        ap (λ (x : State). x.board) made.1.state ∙ same_after plan event s at,
      )

  -- ---- the wait before a cycle, and the cycle

  act_chosen : (e : Option End) (c : Option Activation) (x : Activation) → decision_by e c ≡ Act x → c ≡ Some x
  act_chosen (Some end) c x is = absurd cc
  act_chosen None None x is = absurd cc
  act_chosen None (Some y) x is = ap (λ z. Some z) (let same : y ≡ x = cc in same)

  waited : IsReady plan (wait plan s).state
  waited = (waits_for plan serves.sound s (choice plan s) ready).state

  pub wait_serves : (a b : Place) (t : State) (decision : Decision) → Waits plan a b s t (Ok decision) → Serves plan t
  wait_serves a b t decision emitted = serves_as (wait plan s).state t emitted.state waited

  pub wait_suits : (a b : Place) (t : State) (decision : Decision) (x : Activation) → Waits plan a b s t (Ok decision) → decision ≡ Act x → SuitsSource plan t.board x
  wait_suits a b t decision x emitted is =
      let chosen = act_chosen (wait plan s).end (choice plan (wait plan s).state) x (sym emitted.decision_is ∙ is) in
      subst (λ (y : State). SuitsSource plan y.board x) (sym emitted.state) (suits_chosen plan serves.sound (wait plan s).state x chosen waited)

  pub cycle_serves : (a b : Place) (t : State) (number : ℕ) (x : Activation) (end : Option End) → SuitsSource plan s.board x → Makes plan a b (cycle plan number x s) t (Ok end) → Serves plan t
  cycle_serves a b t number x end suits made = serves_as (cycle plan number x s).state t made.1.state (cycle_goes plan serves.sound number x s ready suits).state

  -- what is chosen at once
  pub chosen_suits : (x : Activation) → choice plan s ≡ Some x → SuitsSource plan s.board x
  chosen_suits x is = suits_chosen plan serves.sound s x is ready

  -- ---- what else a host has a run do

  pub turn_serves : (t : State) (made : ℕ) → t ≡ (turn plan made s).state → Serves plan t
  turn_serves t made is = serves_as (turn plan made s).state t is (turn_goes plan serves.sound made s ready).state

  pub cycles_serve : (t : State) (made left : ℕ) → t ≡ (cycles plan made left s).state → Serves plan t
  cycles_serve t made left is = serves_as (cycles plan made left s).state t is (cycles_go plan serves.sound made left s ready).state

  pub post_serves : (t : State) (asks : List Ask) → t ≡ (posting plan asks s).state → Serves plan t
  post_serves t asks is = serves_as (posting plan asks s).state t is (post_goes plan serves.sound asks s ready).state

  pub answer_serves : (t : State) (asks : List Ask) → t ≡ (answering plan asks s).state → Serves plan t
  answer_serves t asks is = serves_as (answering plan asks s).state t is (answer_goes plan serves.sound asks s ready).state

  -- once what a native asks was applied: the events that were emitted are of the blackboard then
  pub answered_serves : (asks : List Ask) (old new read : List Note) (t : State) (end : Option End) → old ≡ [] → read ≡ new → IsResponse (asked (λ n. NativeEnded n) asks s) old new t end → Serves plan t × All (IsEventOf plan.schema t.board) (events_in read)
  answered_serves asks old new read t end none same response =
      emitted_serves plan serves.sound (asked (λ n. NativeEnded n) asks s) (answers_well plan serves.sound asks s ready) old new read t end none same response

  -- once asks from outside were applied: the events that were emitted are of the blackboard then
  pub posted_serves : (asks : List Ask) (old new read : List Note) (t : State) (end : Option End) → old ≡ Posted ∷ [] → read ≡ new → IsResponse (asked (λ n. PostEnded n) asks s) old new t end → Serves plan t × All (IsEventOf plan.schema t.board) (events_in read)
  posted_serves asks old new read t end begun same response =
      emitted_serves plan serves.sound (after_emitted (Posted ∷ []) (asked (λ n. PostEnded n) asks s)) (posts_well plan serves.sound asks s ready) [] new read t end refl same
      (posted_is (asked (λ n. PostEnded n) asks s) old new t end begun response)

  -- ---- in a cycle

  module _ (x : Activation) (suits : SuitsSource plan s.board x) where
    pub can_act : (source : Source) → slice_get plan.sources x.source ≡ Some source → (code : Checked) → source.act ≡ acts.Code code → CanExecute code (entry_of x.unit None) s.board
    can_act source there code is = act_begins plan serves.sound source x s there ready suits code is

    validates_by : (found : Option Source) → slice_get plan.sources x.source ≡ found → (code : Checked) → option_and_then (λ (t : Source). t.revalidate) found ≡ Some code → CanExecute code (entry_of x.unit None) s.board
    validates_by None there code is = absurd cc
    validates_by (Some source) there code is = revalidation_begins plan serves.sound source x s there ready suits code is

    pub can_validate : (code : Checked) → option_and_then (λ (t : Source). t.revalidate) (slice_get plan.sources x.source) ≡ Some code → CanExecute code (entry_of x.unit None) s.board
    can_validate code is = validates_by (slice_get plan.sources x.source) refl code is

    board_kept : (number : ℕ) (r : ℤ) (v : Verdict) (t : State) → (chosen_with number x r v t).state.board ≡ t.board
    board_kept number r verdicts.Valid t = refl
    board_kept number r verdicts.Invalid t = refl
    board_kept number r (verdicts.Over end) t = refl

    -- once it was chosen
    pub chosen_serves : (number : ℕ) (r : ℤ) (verdict : Verdict) (board : Blackboard) (old new : List Note) (t : State) (end : Option End)
        → Validates (validity (option_and_then (λ (y : Source). y.revalidate) (slice_get plan.sources x.source)) x s.board) verdict board → IsResponse (chosen_with number x r verdict (with_board s board)) old new t end
        → Serves plan t × (t.board ≡ s.board)
    chosen_serves number r verdict board old new t end valid response =
        let found = slice_get plan.sources x.source in
        let same : board ≡ s.board = valid.board_is ∙ same_board plan serves.sound found x s.board refl in
        let fine = λ (e : End) (over : verdict ≡ verdicts.Over e). verdict_is_fine plan serves.sound found x s refl ready suits e (sym valid.verdict_is ∙ over) in
        let goes = chooses plan serves.sound number x r verdict (with_board s board) (ready_on plan serves.sound s board same ready) fine in (
          serves_as (chosen_with number x r verdict (with_board s board)).state t response.state goes.state,
          ap (λ (y : State). y.board) response.state ∙ (board_kept number r verdict (with_board s board) ∙ same),
        )

    -- once it was executed: the events that were emitted are of the blackboard then
    pub executed_serves : (source : Source) → slice_get plan.sources x.source ≡ Some source → (old new read : List Note) (t : State) (end : Option End) → old ≡ [] → read ≡ new → IsResponse (execution source.name source.act x s) old new t end
        → Serves plan t × All (IsEventOf plan.schema t.board) (events_in read)
    executed_serves source there old new read t end none same response =
        emitted_serves plan serves.sound (execution source.name source.act x s) (acts_by plan serves.sound source x s there ready suits source.act refl) old new read t end none same response

-- ---- the start

module _ (plan : Plan) (board : Blackboard) (natives : List Native) (may : MayServe plan board) where
  pub start_serves : (t : State) → t ≡ (start plan board natives).state → Serves plan t
  start_serves t is =
      serves_by plan may.sound (start plan board natives).state t is
      (reports plan may.sound (noted (first_state plan board natives) [] None) (first_well plan may.sound natives board 0 may.fits)).state

  -- once the first notes were taken
  pub noted_serves : (s t : State) (old new read : List Note) → s ≡ first_state plan board natives → old ≡ [] → read ≡ new → IsResponse (noted s [] None) old new t None → Serves plan t × All (IsEventOf plan.schema t.board) (events_in read)
  noted_serves s t old new read is none same response =
      emitted_serves plan may.sound (noted s [] None) (subst (λ (y : State). IsWell plan may.sound (noted y [] None)) (sym is) (first_well plan may.sound natives board 0 may.fits)) old new read t None none same response
