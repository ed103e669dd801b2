-- Each part of a run goes by its phases.
use Rattle.std.proofs.Common.{◌≡◌, ◌<◌, ◌⊎◌, inl, inr, ℕ, zero, suc, ◌+◌, ℤ, List, [], ◌∷◌, ◌++◌, length, map, slice_get, Option, Some, None, Result, Ok, Err, refl, sym, ap, subst, ◌∙◌, append_assoc, length-append, arith}
use Rattle.std.specs.Prelude.{All, option_and_then}
use Rattle.std.proofs.lemmas.List.{append-nil}
use Rattle.std.proofs.lemmas.List.Elements.{All-contains}
use Rattle.bb_trace.specs.Event.{Event}
use Rattle.bb_trace.specs.Event.TheVariants.{Quiescence as quiescence}
use Rattle.bb_trace.specs.BoardNote.{Note as BoardNote}
use Rattle.bb_trace.specs.BoardNote.TheVariants.{Event as happened}
use Rattle.bb_agenda.specs.declared.focusing.activation.Activation.{Activation}
use Rattle.bb_agenda.specs.Agenda.{Agenda, pending_of}
use Rattle.bb_agenda.specs.Changes.{new_activation, with_activation, with_base, with_obviated}
use Rattle.bb_agenda.proofs.Laws.{chosen_some, given_executed, given_obviated, pending_added, pending_executed, pending_obviated, pending_rebased}
use Rattle.bb_code.specs.Code.{Code}
use Rattle.bb_verify.specs.Budget.{budget}
use Rattle.bb_machine.specs.declared.outcome.Outcome.{Outcome}
use Rattle.bb_machine.specs.declared.outcome.Stop.{Stop}
use Rattle.bb_rules.specs.declared.source.Act.{Act}
use Rattle.bb_rules.specs.declared.source.Act.TheVariants as acts
use Rattle.bb_rules.specs.Parts.{Source}
use Rattle.bb_trace.specs.End.{End}
use Rattle.bb_trace.specs.End as finishes
use Rattle.bb_trace.specs.declared.note.Note.{Note}
use Rattle.bb_trace.specs.declared.note.Note.TheVariants.{Board, Triggered, Declined, Obviated, Retriggered, Chosen, Invalid, Ended, Refused, NativeEnded}
use Rattle.bb_trace.specs.Ask.{Ask}
use Rattle.bb_trace.specs.Native.{Native}
use Rattle.bb_trace.specs.Roster.{after_act_at, asks_at, place_of}
use Rattle.bb_trace.specs.Sight.{sight_of}
use Rattle.bb_trace.specs.Board.{Board as Blackboard}
use Rattle.bb_run_plan.specs.Plan.{Plan}
use Rattle.bb_run.specs.declared.execution.Verdict.{Verdict}
use Rattle.bb_run.specs.declared.execution.Verdict.TheVariants as verdicts
use Rattle.bb_run.specs.State.{State, with_agenda, with_board, with_natives}
use Rattle.bb_run.specs.Emission.{Response, Stretch, emitting, idle, over, after_emitted, and_then, and_then_unless, segment}
use Rattle.bb_run.specs.Asking.{attempt, end_by, entry_of}
use Rattle.bb_run.specs.Processing.{events_in, processing, processing_all, reported, response}
use Rattle.bb_run.specs.Run.{rating, choice, wait, wait_for, quiet, with_notes_taken, answered, calling, each_applied, execution, acting, validity, chosen_with, if_valid, cycle, if_chosen, cycles}
use Rattle.bb_run.specs.Order.{all_of, notes_of, chosen_in, without}
use Rattle.bb_run.specs.Phases.{Phase, outside, rested, inside, phase_after, IsQuiet}
use Rattle.bb_run.proofs.rules.AskRule.{HoldsOfAsks, asks_hold}
use Rattle.bb_run.proofs.rules.OrderLemmas.{Comes, comes_none, comes_one, comes_then}
use Rattle.bb_run.proofs.notes.OrderlyParts.{all_of_two, IsEarly, early_end, IsEarlyVerdict, early_verdict}
use Rattle.bb_run.proofs.notes.PendingLemmas.{All-last, all_rebased, chosen_then}
use Rattle.bb_run.proofs.rules.ResponseRule.{HoldsOfParts, holds}
use Rattle.bb_run.proofs.notes.OrderlyRuns.{Begins, begins_next}
use Rattle.bb_run.proofs.stretches.CountLemmas.{cycle_chooses, wait_silent}
use Rattle.bb_run.proofs.phases.PastLemmas.{by_changed, by_obviated, by_rebased, by_triggered}
use Rattle.bb_run.proofs.phases.PhaseMoves.{IsOne, IsAt, MayStand, Moves, EmitsTo, at_next, at_silent, at_foci, known_left, moves_none, moves_one, moves_more, moves_segment, emits_then}

module _ (plan : Plan) (board : Blackboard) (natives : List Native) where
  -- ---- what answers to an event leaves the phase

  abbrev Stays : State → Response → Type 0
  Stays s r = (past : List Note) (phase : Phase) → IsAt plan board natives past phase s.agenda → Moves plan board natives past r.emitted phase r.state r.end

  stays_then : (s : State) (r : Response) (next : State → Response) (end : Option End) → r.end ≡ end → Stays s r → Stays r.state (next r.state) → Stays s (and_then_unless end r next)
  stays_then s r next (Some e) is first rest past phase at = first past phase at
  stays_then s r next None is first rest past phase at =
      let q = next r.state in
      let emitted = first past phase at in
      moves_more plan board natives past r.emitted q.emitted phase q.state q.end emitted.comes (rest (past ++ r.emitted) phase (emitted.leaves is))

  response_parts : HoldsOfParts plan Stays
  response_parts = record {
    nothing = λ s past phase at. moves_none plan board natives past phase s None tt at;
    full = λ s is past phase at. moves_none plan board natives past phase s (Some finishes.Full) tt at;
    stopped = λ s code entry stop of came past phase at. moves_none plan board natives past phase (with_board s (attempt code.code entry s.board).1) (Some (end_by stop)) (early_end stop) at;
    went_on = λ s code entry r of stays. stays;
    triggered = λ s source unit base under room past phase at.
        let a = new_activation s.agenda source unit base in
        let later = with_activation s.agenda source unit base in
        let grown = pending_added s.agenda source unit base in
        moves_one plan board natives past (Triggered a) phase (with_agenda s later) tt
        (at_next plan board natives past phase s.agenda later (Triggered a) at (by_triggered past s.agenda at.by source unit base) (subst (All (IsOne plan board natives)) (sym grown) (All-last (IsOne plan board natives) (pending_of s.agenda) a at.known under)));
    declined = λ s source unit past phase at. moves_one plan board natives past (Declined source unit) phase s tt (at_silent plan board natives past phase s.agenda (Declined source unit) at refl (λ pending. refl));
    obviated = λ s number past phase at.
        let later = with_obviated s.agenda number in
        let left = pending_obviated s.agenda number in
        moves_one plan board natives past (Obviated number) phase (with_agenda s later) tt (at_next plan board natives past phase s.agenda later (Obviated number) at (by_obviated past s.agenda at.by number) (known_left plan board natives s.agenda later number left at.known));
    rebased = λ s number base past phase at.
        let later = with_base s.agenda number base in
        let left = pending_rebased s.agenda number base in
        moves_one plan board natives past (Retriggered number base) phase (with_agenda s later) tt
        (at_next plan board natives past phase s.agenda later (Retriggered number base) at (by_rebased past s.agenda at.by number base) (subst (All (IsOne plan board natives)) (sym left) (all_rebased (IsOne plan board natives) (λ a b one. one) number base (pending_of s.agenda) at.known)));
    further = λ s r next first rest. stays_then s r next r.end refl first rest;
  }

  responds : (event : Event) (s : State) → Stays s (response plan event s)
  responds event s = holds plan Stays response_parts event s

  pub processes_all : (events : List Event) (past : List Note) (phase : Phase) (s : State) → IsAt plan board natives past phase s.agenda → EmitsTo plan board natives past phase (processing_all plan events s)
  unfolding processing_all
  processes_all [] past phase s at = moves_none plan board natives past phase s None tt at
  processes_all (event ∷ events) past phase s at =
      let r = response plan event s in
      let p = processing plan event s in
      emits_then plan board natives past phase phase p (processing_all plan events) p.end refl (moves_segment plan board natives past r.emitted phase r.state r.end (responds event s past phase at))
      (λ later. processes_all events (past ++ notes_of p) phase p.state later)

  reports : (past : List Note) (phase : Phase) (r : Response) → Moves plan board natives past r.emitted phase r.state r.end → EmitsTo plan board natives past phase (reported plan r)
  reports past phase r first =
      let p = segment r in
      emits_then plan board natives past phase phase p (processing_all plan (events_in r.emitted)) r.end refl (moves_segment plan board natives past r.emitted phase r.state r.end first)
      (λ later. processes_all (events_in r.emitted) (past ++ notes_of p) phase r.state later)

  -- ---- a cycle

  -- notes of the blackboard in a cycle
  board_comes : (past : List Note) (notes : List BoardNote) (agenda : Agenda) → IsAt plan board natives past inside agenda → Comes (MayStand plan board natives) past (map Board notes)
  unfolding Comes
  board_comes past [] agenda at = tt
  board_comes past (note ∷ notes) agenda at = (inl at.phase_is, board_comes (past ++ Board note ∷ []) notes agenda (at_silent plan board natives past inside agenda (Board note) at refl (λ pending. refl)))

  board_leaves : (past : List Note) (notes : List BoardNote) (agenda : Agenda) → IsAt plan board natives past inside agenda → IsAt plan board natives (past ++ map Board notes) inside agenda
  board_leaves past [] agenda at = subst (λ l. IsAt plan board natives l inside agenda) (sym (append-nil past)) at
  board_leaves past (note ∷ notes) agenda at =
      subst (λ l. IsAt plan board natives l inside agenda) (append_assoc past (Board note ∷ []) (map Board notes)) (board_leaves (past ++ Board note ∷ []) notes agenda (at_silent plan board natives past inside agenda (Board note) at refl (λ pending. refl)))

  executes : (code : Code) (s : State) (r : Result Outcome Stop) (past : List Note) → IsAt plan board natives past inside s.agenda → let q = answered code s r in Moves plan board natives past q.emitted outside q.state q.end
  executes code s (Ok o) past at =
      let notes = s.board.world.notes in
      let note : Note = Ended o.steps o.found (budget code o.found) in
      let there = board_leaves past notes s.agenda at in
      moves_more plan board natives past (map Board notes) (note ∷ []) outside (with_notes_taken s) None (board_comes past notes s.agenda at)
      (moves_one plan board natives (past ++ map Board notes) note outside (with_notes_taken s) there.phase_is (at_foci plan board natives ((past ++ map Board notes) ++ note ∷ []) outside s.agenda (with_notes_taken s).agenda.foci (at_silent plan board natives (past ++ map Board notes) inside s.agenda note there refl (λ pending. refl))))
  executes code s (Err stop) past at =
      let notes = map Board s.board.world.notes in
      subst (λ l. Moves plan board natives past l outside (with_notes_taken s) (Some (end_by stop))) (sym (append-nil notes))
      (record { comes = board_comes past s.board.world.notes s.agenda at; leaves = λ none. absurd cc; early = early_end stop })

  -- ---- the call of a native

  -- the notes of asks leave a cycle open
  abbrev Inside : State → Response → Type 0
  Inside s r = (past : List Note) → IsAt plan board natives past inside s.agenda → Moves plan board natives past r.emitted inside r.state r.end

  inside_then : (r : Response) (next : State → Response) (after : Phase) (end : Option End) → r.end ≡ end → (past : List Note) → Moves plan board natives past r.emitted inside r.state r.end
      → (IsAt plan board natives (past ++ r.emitted) inside r.state.agenda → Moves plan board natives (past ++ r.emitted) (next r.state).emitted after (next r.state).state (next r.state).end)
      → let p = and_then_unless end r next in Moves plan board natives past p.emitted after p.state p.end
  inside_then r next after (Some e) is past first rest = record { comes = first.comes; leaves = λ none. absurd (let no : Some e ≡ None = sym is ∙ none in cc); early = first.early }
  inside_then r next after None is past first rest =
      let q = next r.state in moves_more plan board natives past r.emitted q.emitted after q.state q.end first.comes (rest (first.leaves is))

  -- after its notes are emitted
  noted_inside : (s : State) (past : List Note) → IsAt plan board natives past inside s.agenda → Moves plan board natives past (map Board s.board.world.notes ++ []) inside (with_notes_taken s) None
  noted_inside s past at =
      let notes = map Board s.board.world.notes in
      let there = board_leaves past s.board.world.notes s.agenda at in
      subst (λ l. Moves plan board natives past l inside (with_notes_taken s) None) (sym (append-nil notes))
      (record { comes = board_comes past s.board.world.notes s.agenda at; leaves = λ none. at_foci plan board natives (past ++ notes) inside s.agenda (with_notes_taken s).agenda.foci there; early = tt })

  ask_parts : (asks : List Ask) → HoldsOfAsks asks Inside
  ask_parts asks = record {
    nothing = λ s past at. moves_none plan board natives past inside s None tt at;
    changed = λ s ask b is past at. noted_inside (with_board s b) past at;
    refused = λ s number refusal past at. moves_one plan board natives past (Refused number refusal) inside s at.phase_is (at_silent plan board natives past inside s.agenda (Refused number refusal) at refl (λ pending. refl));
    full = λ s ask there is past at. moves_none plan board natives past inside s (Some finishes.Full) tt at;
    no_memory = λ s ask is past at. moves_none plan board natives past inside s (Some finishes.Full) tt at;
    further = λ s r next first rest past at. inside_then r next inside r.end refl past (first past at) (rest (past ++ r.emitted));
  }

  calls : (place : Option ℕ) (a : Activation) (s : State) (past : List Note) → IsAt plan board natives past inside s.agenda → let r = calling place a s in Moves plan board natives past r.emitted outside r.state r.end
  calls None a s past at = record { comes = comes_none (MayStand plan board natives) past; leaves = λ none. absurd cc; early = tt }
  calls (Some place) a s past at =
      let seen = sight_of s.board in
      let asks = asks_at s.natives place a.unit seen in
      let t = with_natives s (after_act_at s.natives place a.unit seen) in
      let r = each_applied 1 asks t in
      let note : Note = NativeEnded (length asks) in
      inside_then r (λ u. emitting (note ∷ []) u None) outside r.end refl past (asks_hold asks Inside (ask_parts asks) t past at)
      (λ there. moves_one plan board natives (past ++ r.emitted) note outside r.state there.phase_is (at_silent plan board natives (past ++ r.emitted) inside r.state.agenda note there refl (λ pending. refl)))

  acts_by : (name : List ℕ) (act : Act) (a : Activation) (s : State) (past : List Note) → IsAt plan board natives past inside s.agenda → EmitsTo plan board natives past outside (reported plan (execution name act a s))
  acts_by name (acts.Code body) a s past at =
      let e = attempt body.code (entry_of a.unit None) s.board in
      reports past outside (answered body.code (with_board s e.1) e.0) (executes body.code (with_board s e.1) e.0 past at)
  acts_by name acts.Native a s past at = let place = place_of s.natives name in reports past outside (calling place a s) (calls place a s past at)

  -- each place within a list has its item
  within_some : {X : Type 0} (xs : List X) (i : ℕ) → i < length xs → slice_get xs i ≡ None → ⊥
  within_some [] i lt none = omega arith
  within_some (x ∷ xs) zero lt none = absurd cc
  within_some (x ∷ xs) (suc i) lt none = within_some xs i (omega arith) none

  acts_at : (source : Option Source) (a : Activation) (s : State) (past : List Note) → slice_get plan.sources a.source ≡ source → (IsOne plan board natives) a → IsAt plan board natives past inside s.agenda → EmitsTo plan board natives past outside (acting plan source a s)
  acts_at None a s past is one at = absurd (within_some plan.sources a.source one is)
  acts_at (Some source) a s past is one at = acts_by source.name source.act a s past at

  -- where no cycle is open
  abbrev IsFree : List Note → Type 0
  IsFree past = (phase_after past ≡ outside) ⊎ (phase_after past ≡ rested)

  module _ (number : ℕ) (a : Activation) (r : ℤ) (s : State) (past : List Note) (phase : Phase) (free : IsFree past) (at : IsAt plan board natives past phase s.agenda) (one : (IsOne plan board natives) a) where
    abbrev choosing : Note
    choosing = Chosen number a r

    -- the choice, after which it is no longer pending
    chosen_at : (later : Agenda) → pending_of later ≡ without a.number (pending_of s.agenda) → length later.given ≡ length s.agenda.given → IsAt plan board natives (past ++ choosing ∷ []) inside later
    chosen_at later left same = at_next plan board natives past phase s.agenda later choosing at (by_changed past s.agenda at.by choosing later refl left same) (known_left plan board natives s.agenda later a.number left at.known)

    chosen_by_verdict : (source : Option Source) (v : Verdict) → IsEarlyVerdict v → slice_get plan.sources a.source ≡ source → EmitsTo plan board natives past outside (and_then (segment (chosen_with number a r v s)) (acting plan (if_valid v source) a))
    chosen_by_verdict source verdicts.Valid early is =
        let t = (chosen_with number a r verdicts.Valid s).state in
        let p = acting plan source a t in
        moves_more plan board natives past (choosing ∷ []) (notes_of p) outside p.state p.end (comes_one (MayStand plan board natives) past choosing free)
        (acts_at source a t (past ++ choosing ∷ []) is one (chosen_at t.agenda (pending_executed s.agenda a.number) (given_executed s.agenda a.number)))
    chosen_by_verdict source verdicts.Invalid early is =
        let t = (chosen_with number a r verdicts.Invalid s).state in
        let emitted = chosen_at t.agenda (pending_obviated s.agenda a.number) (given_obviated s.agenda a.number) in
        moves_more plan board natives past (choosing ∷ []) (Invalid a.number ∷ []) outside t None (comes_one (MayStand plan board natives) past choosing free)
        (moves_one plan board natives (past ++ choosing ∷ []) (Invalid a.number) outside t emitted.phase_is (at_silent plan board natives (past ++ choosing ∷ []) inside t.agenda (Invalid a.number) emitted refl (λ pending. refl)))
    chosen_by_verdict source (verdicts.Over end) early is = record { comes = comes_one (MayStand plan board natives) past choosing free; leaves = λ none. absurd cc; early = early end refl }

  cycle_moves : (number : ℕ) (a : Activation) (s : State) (past : List Note) (phase : Phase) → IsFree past → IsAt plan board natives past phase s.agenda → choice plan s ≡ Some a → EmitsTo plan board natives past outside (cycle plan number a s)
  cycle_moves number a s past phase free at is =
      let source = slice_get plan.sources a.source in
      let code = option_and_then (λ t. t.revalidate) source in
      let v = validity code a s.board in
      let there = (chosen_some (rating plan s) plan.floor (pending_of s.agenda) a is).waits in
      chosen_by_verdict number a (rating plan s a) (with_board s v.1) past phase free at (All-contains (IsOne plan board natives) (pending_of s.agenda) a at.known there) source v.0 (early_verdict code a s.board) refl

  -- ---- cycles up to the end

  -- notes after these that end a run
  pub record Ends (past notes : List Note) (end : Option End) : Type 0 where
    pub comes : Comes (MayStand plan board natives) past notes
    pub quiet_end : end ≡ Some finishes.Quiescence → phase_after (past ++ notes) ≡ rested

  abbrev pub EmitsLast : List Note → Stretch → Type 0
  EmitsLast past p = Ends past (notes_of p) p.end

  ends_none : (past : List Note) (end : Option End) → (end ≡ Some finishes.Quiescence → phase_after past ≡ rested) → Ends past [] end
  ends_none past end quiet' = record { comes = comes_none (MayStand plan board natives) past; quiet_end = λ e. ap phase_after (append-nil past) ∙ quiet' e }

  -- a stretch, and then the next, in which the run ends
  pub ends_then : (past : List Note) (phase : Phase) (p : Stretch) (next : State → Stretch) (end : Option End) → p.end ≡ end → EmitsTo plan board natives past phase p
      → (p.end ≡ None → IsAt plan board natives (past ++ notes_of p) phase p.state.agenda → EmitsLast (past ++ notes_of p) (next p.state)) → EmitsLast past (and_then_unless end p next)
  ends_then past phase p next (Some e) is emitted rest = record { comes = emitted.comes; quiet_end = λ e. absurd (subst IsEarly e emitted.early) }
  ends_then past phase p next None is emitted rest =
      let q = next p.state in
      let later = rest is (emitted.leaves is) in
      let whole = append_assoc past (notes_of p) (notes_of q) in
      subst (λ l. Ends past l q.end) (sym (all_of_two p.emitted q.emitted)) (record {
        comes = comes_then (MayStand plan board natives) past (notes_of p) (notes_of q) emitted.comes later.comes;
        quiet_end = λ e. ap phase_after (sym whole) ∙ later.quiet_end e;
      })

  -- ---- a run so far

  -- the notes of the segments are what had been noted, and then those in the past, which tell of `made` cycles
  pub record SoFar (emitted : List (List Note)) (made : ℕ) (past : List Note) : Type 0 where
    pub notes : all_of emitted ≡ map Board board.world.notes ++ past
    pub count : length (chosen_in past) ≡ made

  -- after a wait and a cycle
  so_far_next : (emitted : List (List Note)) (made : ℕ) (past : List Note) (a : Activation) (s t : State) → SoFar emitted made past
      → SoFar (emitted ++ ((wait plan s).emitted ++ (cycle plan (made + 1) a t).emitted)) (made + 1) ((past ++ notes_of (wait plan s)) ++ notes_of (cycle plan (made + 1) a t))
  so_far_next emitted made past a s t far =
      let noted = map Board board.world.notes in
      let w = notes_of (wait plan s) in
      let c = notes_of (cycle plan (made + 1) a t) in
      let more : chosen_in ((past ++ w) ++ c) ≡ chosen_in past ++ a ∷ [] =
      chosen_then (past ++ w) c ∙ ap (λ l. chosen_in (past ++ w) ++ l) (cycle_chooses plan (made + 1) a t)
      ∙ ap (λ l. l ++ a ∷ []) (chosen_then past w ∙ ap (λ l. chosen_in past ++ l) (wait_silent plan s) ∙ append-nil (chosen_in past)) in
      record {
        notes =
            all_of_two emitted ((wait plan s).emitted ++ (cycle plan (made + 1) a t).emitted)
            ∙ ap (λ l. all_of emitted ++ l) (all_of_two (wait plan s).emitted (cycle plan (made + 1) a t).emitted)
            ∙ ap (λ l. l ++ (w ++ c)) far.notes
            ∙ append_assoc noted past (w ++ c)
            ∙ ap (λ l. noted ++ l) (sym (append_assoc past w c));
        count = ap (λ l. length l) more ∙ length-append (chosen_in past) (a ∷ []) ∙ ap (λ n. n + 1) far.count;
      }

  -- quiescence in its turn
  quiet_may : (emitted : List (List Note)) (made : ℕ) (s : State) (past : List Note) → Begins plan board natives emitted made s → SoFar emitted made past → choice plan s ≡ None → IsAt plan board natives past outside s.agenda → IsQuiet plan board natives past (happened quiescence)
  quiet_may emitted made s past begins far none at = record {
    is = refl;
    phase = at.phase_is;
    emitted = emitted;
    notes = far.notes;
    state = s;
    there = λ left.
        begins left (length (chosen_in past) + left) (ap (λ n. n + left) far.count)
        ∙ ap (λ n. after_emitted emitted (cycles plan n left s)) (sym far.count);
    pending = at.by.pending;
    next = at.by.numbers;
    nothing = none;
  }

  quiet_moves : (s : State) (past : List Note) → IsQuiet plan board natives past (happened quiescence) → IsAt plan board natives past outside s.agenda → EmitsTo plan board natives past rested (quiet plan s)
  quiet_moves s past may at =
      let note : Note = Board (happened quiescence) in
      let r = response plan quiescence s in
      moves_segment plan board natives past (note ∷ r.emitted) rested r.state r.end
      (moves_more plan board natives past (note ∷ []) r.emitted rested r.state r.end (comes_one (MayStand plan board natives) past note (inr may)) (responds quiescence s (past ++ note ∷ []) rested (at_silent plan board natives past outside s.agenda note at refl (λ pending. refl))))

  -- what comes of a choice after the wait in a state, by what follows one
  module _ (s : State) (past : List Note) (follows : Activation → State → Stretch)
      (lasts : (a : Activation) (phase : Phase) → let t = (wait plan s).state in let later = past ++ notes_of (wait plan s) in IsFree later → IsAt plan board natives later phase t.agenda → choice plan t ≡ Some a → (wait plan s).end ≡ None → EmitsLast later (follows a t)) where
    abbrev next : State → Stretch
    next t = if_chosen t (choice plan t) (λ a. follows a t)

    -- after quiescence the run is over where nothing can be chosen still
    after_quiet : (c : Option Activation) → let t = (wait plan s).state in let later = past ++ notes_of (wait plan s) in choice plan t ≡ c → (wait plan s).end ≡ None → IsAt plan board natives later rested t.agenda → EmitsLast later (if_chosen t c (λ a. follows a t))
    after_quiet None is goes at = ends_none (past ++ notes_of (wait plan s)) (Some finishes.Quiescence) (λ e. at.phase_is)
    after_quiet (Some a) is goes at = lasts a rested (inr at.phase_is) at is goes

    after_wait : (c : Option Activation) → choice plan s ≡ c → (choice plan s ≡ None → IsQuiet plan board natives past (happened quiescence)) → IsAt plan board natives past outside s.agenda → EmitsLast past (and_then (wait plan s) next)
    after_wait None is may at =
        let same : wait plan s ≡ quiet plan s = ap (wait_for plan s) is in
        let emitted : EmitsTo plan board natives past rested (wait plan s) = subst (EmitsTo plan board natives past rested) (sym same) (quiet_moves s past (may is) at) in
        let p = wait plan s in
        ends_then past rested p next p.end refl emitted (λ goes later. after_quiet (choice plan p.state) refl goes later)
    after_wait (Some a) is may at =
        let same : wait plan s ≡ idle s = ap (wait_for plan s) is in
        let there : (wait plan s).state ≡ s = ap (λ (p : Stretch). p.state) same in
        let emitted : EmitsTo plan board natives past outside (wait plan s) = subst (EmitsTo plan board natives past outside) (sym same) (moves_none plan board natives past outside s None tt at) in
        let p = wait plan s in
        ends_then past outside p next p.end refl emitted
        (λ ended later. subst (λ c. EmitsLast (past ++ notes_of p) (if_chosen p.state c (λ x. follows x p.state))) (sym (ap (choice plan) there ∙ is)) (lasts a outside (inl later.phase_is) later (ap (choice plan) there ∙ is) ended))

  pub all_cycles : (made left : ℕ) (emitted : List (List Note)) (past : List Note) (s : State) → Begins plan board natives emitted made s → SoFar emitted made past → IsAt plan board natives past outside s.agenda → EmitsLast past (cycles plan made left s)
  unfolding cycles
  all_cycles made zero emitted past s begins far at =
      after_wait s past (λ a t. over finishes.Limit t) (λ a phase free there is goes. ends_none (past ++ notes_of (wait plan s)) (Some finishes.Limit) (λ e. absurd cc))
      (choice plan s) refl (λ none. quiet_may emitted made s past begins far none at) at
  all_cycles made (suc left) emitted past s begins far at =
      let t = (wait plan s).state in
      let later = past ++ notes_of (wait plan s) in
      after_wait s past (λ a t. and_then (cycle plan (made + 1) a t) (cycles plan (made + 1) left))
      (λ a phase free there is goes.
      let p = cycle plan (made + 1) a t in
      ends_then later outside p (cycles plan (made + 1) left) p.end refl (cycle_moves (made + 1) a t later phase free there is)
      (λ on at'. all_cycles (made + 1) left (emitted ++ ((wait plan s).emitted ++ p.emitted)) (later ++ notes_of p) p.state (begins_next plan board natives emitted made s a begins goes is on) (so_far_next emitted made past a s t far) at'))
      (choice plan s) refl (λ none. quiet_may emitted made s past begins far none at) at
