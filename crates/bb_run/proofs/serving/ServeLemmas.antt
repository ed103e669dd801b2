-- What is asked about an event begins with what fits its part, and the next state goes on serving.
use Rattle.std.proofs.Common.{◌≡◌, Bool, false, cond, ◌∷◌, ℕ, List, Option, Some, None, refl, sym, subst}
use Rattle.std.specs.Prelude.{All, Contains, slice_get, true, filter}
use Rattle.std.specs.Option.{option_map_or}
use Rattle.std.proofs.lemmas.List.Elements.{All-filter, All-head, All-tail, All-weaker}
use Rattle.bb_verify.specs.Accepted.{Checked}
use Rattle.bb_agenda.specs.declared.focusing.activation.Activation.{Activation}
use Rattle.bb_agenda.specs.Agenda.{is_on, pending_for, pending_of}
use Rattle.bb_theorem_machine.specs.Kinds.{WasOf}
use Rattle.bb_trace.specs.Board.{Board as Blackboard}
use Rattle.bb_trace.specs.Event.{Event}
use Rattle.bb_trace.specs.Events.{unit_of}
use Rattle.bb_rules.specs.Match.{any_match}
use Rattle.bb_rules.specs.declared.source.Reaction.{Reaction}
use Rattle.bb_rules.specs.Parts.{Source}
use Rattle.bb_run_plan.specs.Plan.{Plan}
use Rattle.bb_run.specs.Asking.{entry_of}
use Rattle.bb_run.specs.Processing.{obviated_by, reacting, rerated_by, response, source_response}
use Rattle.bb_run.specs.State.{State}
use Rattle.bb_run.specs.Emission.{idle}
use Rattle.bb_run.specs.Unstuck.{FitsPlan, IsEventOf, SuitsSource}
use Rattle.bb_rules.specs.Own.{asks_own}
use Rattle.bb_run.specs.proving.Own.{asked_about}
use Rattle.bb_run.specs.proving.Responding.{response_at}
use Rattle.bb_run.specs.Serving.{CanExecute, ReactsTo, ReactsToAll, ServesAt}
use Rattle.bb_run.proofs.serving.UnstuckParts.{Waits, all_answer, obviate_asked, obviate_begins, obviates, reacts_if, require_begins, rerates, retrigger_asked, retrigger_begins, source_answers, suit_place}
use Rattle.bb_run.proofs.serving.UnstuckStates.{there_at}

-- ---- of activations, one after another

module _ (P : Activation → Type 0) where
  -- those that a reaction is asked about are some of those that wait
  pub asked_all : (reaction : Reaction) (event : Event) (waiting items : List Activation) → items ≡ asked_about reaction event waiting → All P waiting → All P items
  asked_all reaction event waiting items is all = subst (All P) (sym is) (by (asks_own reaction.code.code))
    where
      by : (t : Bool) → All P (cond t (filter (is_on (unit_of event)) waiting) waiting)
      by true = All-filter (is_on (unit_of event)) P waiting all
      by false = all

  pub first_all : (items : List Activation) (a : Activation) (rest : List Activation) → items ≡ a ∷ rest → All P items → P a
  first_all items a rest is all = All-head P a rest (subst (All P) is all)

  pub rest_all : (items : List Activation) (a : Activation) (rest : List Activation) → items ≡ a ∷ rest → All P items → All P rest
  rest_all items a rest is all = All-tail P a rest (subst (All P) is all)

module _ (plan : Plan) (event : Event) (s : State) (serves : ServesAt plan event s) where
  -- states of this blackboard in which what waits suits its sources
  abbrev pub Goes : State → Type 0
  Goes = Waits plan serves.sound s.board serves.ready.0.board

  pub goes_first : Goes s
  goes_first = record { board = refl; waiting = serves.ready.0.waiting }

  pub serves_still : (t : State) → Goes t → ServesAt plan event t
  serves_still t w = record {
    sound = serves.sound;
    ready = (
      record {
        board = subst (FitsPlan plan) (sym w.board) serves.ready.0.board;
        waiting = subst (λ (b : Blackboard). All (SuitsSource plan b) (pending_of t.agenda)) (sym w.board) w.waiting;
      },
      subst (λ (b : Blackboard). IsEventOf plan.schema b event) (sym w.board) serves.ready.1,
    );
  }

  -- after all sources
  pub serves_after : ServesAt plan event (response plan event s).state
  serves_after = serves_still (response plan event s).state (all_answer plan serves.sound s.board serves.ready.0.board event serves.ready.1 s goes_first).state

  pub same_after : (response plan event s).state.board ≡ s.board
  same_after = (all_answer plan serves.sound s.board serves.ready.0.board event serves.ready.1 s goes_first).state.board

  module _ (place : ℕ) (source : Source) (at : slice_get plan.sources place ≡ Some source) where
    source_there : Contains plan.sources source
    source_there = there_at plan.sources place source at

    -- what waits of the source was of its class
    suit : All (λ (a : Activation). WasOf plan.schema s.board.world source.class a.unit) (pending_for s.agenda place)
    suit = suit_place plan serves.sound s.board serves.ready.0.board place source (pending_of s.agenda) at serves.ready.0.waiting

    pub obviates_all : (reaction : Reaction) → source.obviate ≡ Some reaction → any_match plan.schema reaction.clauses event ≡ true → ReactsToAll reaction event s.board (pending_for s.agenda place)
    obviates_all reaction is matched =
        All-weaker (λ (a : Activation). WasOf plan.schema s.board.world source.class a.unit) (ReactsTo reaction event s.board)
        (λ a was. obviate_begins plan serves.sound s.board serves.ready.0.board event serves.ready.1 source source_there reaction is matched a was) (pending_for s.agenda place) suit

    pub retriggers_all : (reaction : Reaction) → source.retrigger ≡ Some reaction → any_match plan.schema reaction.clauses event ≡ true → ReactsToAll reaction event s.board (pending_for s.agenda place)
    retriggers_all reaction is matched =
        All-weaker (λ (a : Activation). WasOf plan.schema s.board.world source.class a.unit) (ReactsTo reaction event s.board)
        (λ a was. retrigger_begins plan serves.sound s.board serves.ready.0.board event serves.ready.1 source source_there reaction is matched a was) (pending_for s.agenda place) suit

    pub can_require : (code : Checked) → source.require ≡ Some code → any_match plan.schema source.triggers event ≡ true → CanExecute code (entry_of (unit_of event) None) s.board
    can_require code is matched = require_begins plan serves.sound s.board serves.ready.0.board event serves.ready.1 source source_there code is matched

    pub serves_obviated : ServesAt plan event (reacting plan.schema event place obviated_by source.obviate s).state
    serves_obviated =
        serves_still (reacting plan.schema event place obviated_by source.obviate s).state
        (reacts_if plan serves.sound s.board serves.ready.0.board event serves.ready.1 obviated_by source source_there (obviates plan serves.sound s.board serves.ready.0.board) place source.obviate s at
        (obviate_asked plan serves.sound s.board serves.ready.0.board event serves.ready.1 source source_there) (obviate_begins plan serves.sound s.board serves.ready.0.board event serves.ready.1 source source_there) goes_first).state

    pub serves_retriggered : ServesAt plan event (reacting plan.schema event place rerated_by source.retrigger s).state
    serves_retriggered =
        serves_still (reacting plan.schema event place rerated_by source.retrigger s).state
        (reacts_if plan serves.sound s.board serves.ready.0.board event serves.ready.1 rerated_by source source_there (rerates plan serves.sound s.board serves.ready.0.board) place source.retrigger s at
        (retrigger_asked plan serves.sound s.board serves.ready.0.board event serves.ready.1 source source_there) (retrigger_begins plan serves.sound s.board serves.ready.0.board event serves.ready.1 source source_there) goes_first).state

    serves_responded : ServesAt plan event (source_response plan.schema event place source s).state
    serves_responded =
        serves_still (source_response plan.schema event place source s).state
        (source_answers plan serves.sound s.board serves.ready.0.board event serves.ready.1 place source at source_there s goes_first).state

  serves_by : (place : ℕ) (found : Option Source) → slice_get plan.sources place ≡ found → ServesAt plan event (response_at plan.schema event plan.sources place s).state
  serves_by place None at = subst (λ (o : Option Source). ServesAt plan event (option_map_or (λ source. source_response plan.schema event place source s) o (idle s)).state) (sym at) serves
  serves_by place (Some source) at = subst (λ (o : Option Source). ServesAt plan event (option_map_or (λ source. source_response plan.schema event place source s) o (idle s)).state) (sym at) (serves_responded place source at)

  -- after the source at a place
  pub serves_at : (place : ℕ) → ServesAt plan event (response_at plan.schema event plan.sources place s).state
  serves_at place = serves_by place (slice_get plan.sources place) refl
