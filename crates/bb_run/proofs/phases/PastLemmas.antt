-- The response to an event is what the sources emit by what was emitted before.
use Rattle.std.proofs.Common.{◌≡◌, inl, inr, ℕ, ◌+◌, ℤ, Bool, true, false, cond, List, [], ◌∷◌, ◌++◌, length, filter, map, Option, Some, None, option_map, Result, Ok, Err, refl, sym, ap, subst, ◌∙◌, append_assoc, length-append}
use Rattle.std.specs.Prelude.{All, Contains}
use Rattle.std.specs.List.{fold}
use Rattle.std.proofs.lemmas.List.{append-nil, map-append}
use Rattle.std.proofs.lemmas.List.Elements.{All-contains_itself, All-head, All-tail}
use Rattle.bb_agenda.specs.declared.focusing.activation.Activation.{Activation}
use Rattle.bb_agenda.specs.Agenda.{Agenda, is_full, is_of, next_number, pending_for, pending_of}
use Rattle.bb_agenda.specs.focusing.Foci.{Foci}
use Rattle.bb_agenda.specs.Changes.{new_activation, with_activation, with_base, with_obviated}
use Rattle.bb_agenda.proofs.Laws.{pending_added, pending_obviated, pending_rebased, given_added, given_obviated, given_rebased}
use Rattle.bb_theorem_machine.proofs.Laws.{activation_reads}
use Rattle.bb_machine.specs.declared.outcome.Answer.{Answer}
use Rattle.bb_machine.specs.declared.outcome.Answer.TheVariants as answers
use Rattle.bb_machine.specs.declared.outcome.Entry.{Entry}
use Rattle.bb_machine.specs.declared.outcome.Outcome.{Outcome}
use Rattle.bb_machine.specs.declared.outcome.Stop.{Stop}
use Rattle.bb_machine.specs.Writes.{has_no_writes}
use Rattle.bb_trace.specs.Board.{Board as Blackboard}
use Rattle.bb_trace.specs.Event.{Event}
use Rattle.bb_trace.specs.Events.{unit_of}
use Rattle.bb_rules.specs.Match.{any_match}
use Rattle.bb_rules.specs.declared.source.Reaction.{Reaction}
use Rattle.bb_rules.specs.Parts.{Source}
use Rattle.bb_trace.specs.End.{End}
use Rattle.bb_trace.specs.End as finishes
use Rattle.bb_trace.specs.declared.note.Note.{Note}
use Rattle.bb_trace.specs.declared.note.Note.TheVariants.{Triggered, Declined, Obviated, Retriggered}
use Rattle.bb_verify.specs.Accepted.{Checked}
use Rattle.bb_verify.specs.Budget.{budget}
use Rattle.bb_verify.specs.declared.checked.TheConstants.{FOUND_LIMIT}
use Rattle.bb_run_plan.specs.Plan.{Plan}
use Rattle.bb_run.specs.State.{State, with_agenda, with_board}
use Rattle.bb_run.specs.Emission.{Response, Stretch, and_then, and_then_unless, idle, over}
use Rattle.bb_run.specs.Asking.{attempt, asking, end_by, entry_of, reply_by, upon}
use Rattle.bb_run.specs.Causes.{code_of}
use Rattle.bb_run_plan.specs.Foci.{with_foci}
use Rattle.bb_run.specs.Order.{after_note, notes_of, pending_after, triggered_in}
use Rattle.bb_run.specs.Processing.{activating, if_triggered, obviated_by, processing, processing_all, reacting, reacting_to, reacting_to_each, required_by, rerated_by, response, response_by, source_response, triggering}
use Rattle.bb_run.specs.Reads.{AsksByReading}
use Rattle.bb_run.specs.Responses.{and_after, answer_in, answer_of, told_about_each, gets, gets_by, gets_if_rated, if_rated, if_yes, known, reacts, responses, responses_from, responses_of, triggers, waiting_for}
use Rattle.bb_run.proofs.notes.OrderlyParts.{all_of_two}
use Rattle.bb_run.proofs.notes.PaidLemmas.{known_all}
use Rattle.bb_run.proofs.notes.PendingLemmas.{pending_then, triggered_then}

-- ---- the agenda by the notes

-- what is pending is what is pending by the notes, and the next activation has the next number
pub record IsBy (past : List Note) (agenda : Agenda) : Type 0 where
  pub pending : pending_of agenda ≡ pending_after past
  pub numbers : next_number agenda ≡ length (triggered_in past) + 1

-- after notes that tell of no activation
pub by_silent : (past notes : List Note) (agenda : Agenda) → triggered_in notes ≡ [] → ((pending : List Activation) → fold after_note pending notes ≡ pending) → IsBy past agenda → IsBy (past ++ notes) agenda
by_silent past notes agenda none same by = record {
  pending = by.pending ∙ sym (pending_then past notes ∙ same (pending_after past));
  numbers = by.numbers ∙ ap (λ l. length l + 1) (sym (triggered_then past notes ∙ ap (λ l. triggered_in past ++ l) none ∙ append-nil (triggered_in past)));
}

module _ (past : List Note) (agenda : Agenda) (by : IsBy past agenda) where
  same_triggered : (note : Note) → triggered_in (note ∷ []) ≡ [] → triggered_in past ≡ triggered_in (past ++ note ∷ [])
  same_triggered note none = sym (triggered_then past (note ∷ []) ∙ ap (λ l. triggered_in past ++ l) none ∙ append-nil (triggered_in past))

  pub by_triggered : (source unit : ℕ) (base : ℤ) → IsBy (past ++ Triggered (new_activation agenda source unit base) ∷ []) (with_activation agenda source unit base)
  by_triggered source unit base =
      let a = new_activation agenda source unit base in
      let note : List Note = Triggered a ∷ [] in
      record {
        pending = pending_added agenda source unit base ∙ ap (λ l. l ++ a ∷ []) by.pending ∙ sym (pending_then past note);
        numbers =
            ap (λ n. n + 1) (given_added agenda source unit base ∙ by.numbers) ∙ ap (λ n. n + 1) (sym (length-append (triggered_in past) (a ∷ [])))
            ∙ ap (λ l. length l + 1) (sym (triggered_then past note));
      }

  -- after a note that tells of no new activation
  pub by_changed : (note : Note) (later : Agenda) → triggered_in (note ∷ []) ≡ [] → pending_of later ≡ after_note (pending_of agenda) note → length later.given ≡ length agenda.given → IsBy (past ++ note ∷ []) later
  by_changed note later none left same = record {
    pending = left ∙ ap (λ l. after_note l note) by.pending ∙ sym (pending_then past (note ∷ []));
    numbers = ap (λ n. n + 1) same ∙ by.numbers ∙ ap (λ l. length l + 1) (same_triggered note none);
  }

  pub by_obviated : (number : ℕ) → IsBy (past ++ Obviated number ∷ []) (with_obviated agenda number)
  by_obviated number = by_changed (Obviated number) (with_obviated agenda number) refl (pending_obviated agenda number) (given_obviated agenda number)

  pub by_rebased : (number : ℕ) (base : ℤ) → IsBy (past ++ Retriggered number base ∷ []) (with_base agenda number base)
  by_rebased number base = by_changed (Retriggered number base) (with_base agenda number base) refl (pending_rebased agenda number base) (given_rebased agenda number base)

  -- foci change nothing of it
  pub by_foci : (foci : Foci) → IsBy past (with_foci agenda foci)
  by_foci foci = record { pending = by.pending; numbers = by.numbers }

-- ---- what is emitted, against what there is to emit

some_two : (xs ys : List Note) → map Some (xs ++ ys) ≡ map Some xs ++ map Some ys
some_two xs ys = map-append (λ note. Some note) xs ys

-- these notes are emitted of those that there are to emit, all of them unless the run is over; the blackboard stays,
-- and the agenda goes by the notes
pub record Says (past : List Note) (board : Blackboard) (all : List (Option Note)) (emitted : List Note) (s : State) (end : Option End) : Type 0 where
  pub left : List (Option Note)
  pub whole : map Some emitted ++ left ≡ all
  pub none_left : end ≡ None → left ≡ []
  pub same_board : s.board ≡ board
  pub agenda : end ≡ None → IsBy (past ++ emitted) s.agenda

module _ (past : List Note) (board : Blackboard) where
  says_none : (s : State) → s.board ≡ board → IsBy past s.agenda → Says past board [] [] s None
  says_none s same by = record { left = []; whole = refl; none_left = λ e. refl; same_board = same; agenda = λ e. subst (λ l. IsBy l s.agenda) (sym (append-nil past)) by }

  says_over : (all : List (Option Note)) (s : State) (e : End) → s.board ≡ board → Says past board all [] s (Some e)
  says_over all s e same = record { left = all; whole = refl; none_left = λ none. absurd cc; same_board = same; agenda = λ none. absurd cc }

  says_one : (note : Note) (s : State) → s.board ≡ board → IsBy (past ++ note ∷ []) s.agenda → Says past board (Some note ∷ []) (note ∷ []) s None
  says_one note s same by = record { left = []; whole = refl; none_left = λ e. refl; same_board = same; agenda = λ e. by }

  -- the run is over in the first of it
  says_first : (xs ys : List (Option Note)) (emitted : List Note) (s : State) (e : End) → Says past board xs emitted s (Some e) → Says past board (xs ++ ys) emitted s (Some e)
  says_first xs ys emitted s e p = record {
    left = p.left ++ ys;
    whole = sym (append_assoc (map Some emitted) p.left ys) ∙ ap (λ l. l ++ ys) p.whole;
    none_left = λ none. absurd cc;
    same_board = p.same_board;
    agenda = λ none. absurd cc;
  }

  -- all of the first is emitted, and then what comes after it
  says_more : (xs : List (Option Note)) (emitted more : List Note) (next : List Note → List (Option Note)) (s t : State) (end : Option End) → Says past board xs emitted s None
      → (IsBy (past ++ known xs) s.agenda → s.board ≡ board → Says (past ++ known xs) board (next (past ++ known xs)) more t end) → Says past board (and_after past xs next) (emitted ++ more) t end
  says_more xs emitted more next s t end first rest =
      let all : map Some emitted ≡ xs = sym (append-nil (map Some emitted)) ∙ ap (λ l. map Some emitted ++ l) (sym (first.none_left refl)) ∙ first.whole in
      let same : emitted ≡ known xs = sym (known_all emitted) ∙ ap known all in
      let q = rest (subst (λ l. IsBy (past ++ l) s.agenda) same (first.agenda refl)) first.same_board in
      record {
        left = q.left;
        whole =
            ap (λ l. l ++ q.left) (some_two emitted more) ∙ append_assoc (map Some emitted) (map Some more) q.left ∙ ap (λ l. map Some emitted ++ l) q.whole
            ∙ ap (λ l. l ++ next (past ++ known xs)) all;
        none_left = q.none_left;
        same_board = q.same_board;
        agenda = λ e. subst (λ l. IsBy l t.agenda) (ap (λ l. (past ++ l) ++ more) (sym same) ∙ append_assoc past emitted more) (q.agenda e);
      }

  -- by a test
  either : (b : Bool) (xs ys : List (Option Note)) (p q : Response) → Says past board xs p.emitted p.state p.end → Says past board ys q.emitted q.state q.end → let r = cond b p q in Says past board (cond b xs ys) r.emitted r.state r.end
  either true xs ys p q x y = x
  either false xs ys p q x y = y

  -- a response, and then the next
  says_then : (xs : List (Option Note)) (after : List Note → List (Option Note)) (r : Response) (next : State → Response) (end : Option End) → r.end ≡ end → Says past board xs r.emitted r.state r.end
      → (IsBy (past ++ known xs) r.state.agenda → r.state.board ≡ board → let q = next r.state in Says (past ++ known xs) board (after (past ++ known xs)) q.emitted q.state q.end)
      → let p = and_then_unless end r next in Says past board (and_after past xs after) p.emitted p.state p.end
  says_then xs after r next (Some e) is first rest =
      subst (Says past board (and_after past xs after) r.emitted r.state) (sym is) (says_first xs (after (past ++ known xs)) r.emitted r.state e (subst (Says past board xs r.emitted r.state) is first))
  says_then xs after r next None is first rest =
      let q = next r.state in
      says_more xs r.emitted q.emitted after r.state q.state q.end (subst (Says past board xs r.emitted r.state) is first) rest

  -- a stretch, and then the next
  pub says_all_then : (xs : List (Option Note)) (after : List Note → List (Option Note)) (p : Stretch) (next : State → Stretch) (end : Option End) → p.end ≡ end → Says past board xs (notes_of p) p.state p.end
      → (IsBy (past ++ known xs) p.state.agenda → p.state.board ≡ board → let q = next p.state in Says (past ++ known xs) board (after (past ++ known xs)) (notes_of q) q.state q.end)
      → let u = and_then_unless end p next in Says past board (and_after past xs after) (notes_of u) u.state u.end
  says_all_then xs after p next (Some e) is first rest =
      subst (Says past board (and_after past xs after) (notes_of p) p.state) (sym is) (says_first xs (after (past ++ known xs)) (notes_of p) p.state e (subst (Says past board xs (notes_of p) p.state) is first))
  says_all_then xs after p next None is first rest =
      let q = next p.state in
      subst (λ l. Says past board (and_after past xs after) l q.state q.end) (sym (all_of_two p.emitted q.emitted))
      (says_more xs (notes_of p) (notes_of q) after p.state q.state q.end (subst (Says past board xs (notes_of p) p.state) is first) rest)

module _ (plan : Plan) (board : Blackboard) where
  -- a response emits this, after these notes
  abbrev Emits : (past : List Note) → (all : List (Option Note)) → Response → Type 0
  Emits past all r = Says past board all r.emitted r.state r.end

  -- a code that does not write is asked
  abbrev Reads : Checked → Type 0
  Reads code = has_no_writes code.code ≡ true

  attempt_keeps_board : (code : Checked) (entry : Entry) (b : Blackboard) → Reads code → b ≡ board → (attempt code.code entry b).1 ≡ board
  attempt_keeps_board code entry b reads same = activation_reads (budget code.code FOUND_LIMIT) code.code entry b reads ∙ same

  replied : (past : List Note) (says : Option Answer → List (Option Note)) (next : Answer → State → Response) (r : Result Outcome Stop) (t : State) → t.board ≡ board
      → ((answer : Answer) → Emits past (says (Some answer)) (next answer t)) → Emits past (says (answer_in r)) (upon (reply_by r) next t)
  replied past says next (Ok o) t same goes = goes o.answer
  replied past says next (Err stop) t same goes = says_over past board (says None) t (end_by stop) same

  asks : (past : List Note) (says : Option Answer → List (Option Note)) (code : Checked) (entry : Entry) (next : Answer → State → Response) (s : State) → Reads code → s.board ≡ board → IsBy past s.agenda
      → ((answer : Answer) (t : State) → t.board ≡ board → IsBy past t.agenda → Emits past (says (Some answer)) (next answer t)) → Emits past (says (answer_of code entry board)) (asking code.code entry next s)
  asks past says code entry next s reads same by goes =
      let e = attempt code.code entry s.board in
      let left : e.1 ≡ board = attempt_keeps_board code entry s.board reads same in
      subst (λ (b : Blackboard). Emits past (says (answer_of code entry b)) (asking code.code entry next s)) same
      (replied past says next e.0 (with_board s e.1) left (λ answer. goes answer (with_board s e.1) left by))

  -- ---- what becomes of what waits

  -- what an answer about an activation brings about
  abbrev Brings : (Activation → Option Answer → List (Option Note)) → (Activation → Answer → State → Response) → Type 0
  Brings says by' = (past : List Note) (a : Activation) (answer : Answer) (t : State) → t.board ≡ board → IsBy past t.agenda → Emits past (says a (Some answer)) (by' a answer t)

  obviates : Brings if_yes obviated_by
  obviates past a answers.Yes t same by = says_one past board (Obviated a.number) (with_agenda t (with_obviated t.agenda a.number)) same (by_obviated past t.agenda by a.number)
  obviates past a answers.No t same by = says_none past board t same by
  obviates past a answers.Done t same by = says_none past board t same by
  obviates past a answers.Declined t same by = says_none past board t same by
  obviates past a (answers.Rated base) t same by = says_none past board t same by

  rerates : Brings if_rated rerated_by
  rerates past a (answers.Rated base) t same by = says_one past board (Retriggered a.number base) (with_agenda t (with_base t.agenda a.number base)) same (by_rebased past t.agenda by a.number base)
  rerates past a answers.Yes t same by = says_none past board t same by
  rerates past a answers.No t same by = says_none past board t same by
  rerates past a answers.Done t same by = says_none past board t same by
  rerates past a answers.Declined t same by = says_none past board t same by

  module _ (event : Event) (says : Activation → Option Answer → List (Option Note)) (does : Activation → Answer → State → Response) (brings : Brings says does) where
    each : (reaction : Reaction) (items : List Activation) (past : List Note) (s : State) → Reads reaction.code → s.board ≡ board → IsBy past s.agenda → Emits past (told_about_each board event says reaction items) (reacting_to_each event does reaction items s)
    unfolding reacting_to_each
    each reaction [] past s reads same by = says_none past board s same by
    each reaction (a ∷ more) past s reads same by =
        let r = reacting_to event does reaction a s in
        let entry = entry_of a.unit (Some (unit_of event)) in
        says_then past board (says a (answer_of reaction.code entry board)) (λ _. told_about_each board event says reaction more) r (reacting_to_each event does reaction more) r.end refl
        (asks past (says a) reaction.code entry (does a) s reads same by (λ answer t. brings past a answer t))
        (λ later kept'. each reaction more (past ++ known (says a (answer_of reaction.code entry board))) r.state reads kept' later)

    reaction_says : (place : ℕ) (reaction : Option Reaction) (past : List Note) (s : State) → ((x : Reaction) → reaction ≡ Some x → Reads x.code) → s.board ≡ board → IsBy past s.agenda
        → Emits past (reacts plan board event says reaction (waiting_for past place)) (reacting plan.schema event place does reaction s)
    reaction_says place None past s reads same by = says_none past board s same by
    reaction_says place (Some reaction) past s reads same by =
        let waiting : pending_for s.agenda place ≡ waiting_for past place = ap (filter (is_of place)) by.pending in
        either past board (any_match plan.schema reaction.clauses event) (told_about_each board event says reaction (waiting_for past place)) [] (reacting_to_each event does reaction (pending_for s.agenda place) s) (idle s)
        (subst (λ items. Emits past (told_about_each board event says reaction items) (reacting_to_each event does reaction (pending_for s.agenda place) s)) waiting
        (each reaction (pending_for s.agenda place) past s (reads reaction refl) same by))
        (says_none past board s same by)

  -- ---- what triggers a source

  activates : (event : Event) (place : ℕ) (base : ℤ) (past : List Note) (s : State) → s.board ≡ board → IsBy past s.agenda → Emits past (gets event place base past) (activating event place base s)
  activates event place base past s same by = activates_if (is_full s.agenda)
    where
      a : Activation
      a = new_activation s.agenda place (unit_of event) base

      note_is : Some (Triggered a) ∷ [] ≡ gets event place base past
      note_is = ap (λ n. Some (Triggered (record { number = n; source = place; unit = unit_of event; base = base })) ∷ []) by.numbers

      new : Response
      new = record { emitted = Triggered a ∷ []; state = with_agenda s (with_activation s.agenda place (unit_of event) base); end = None }

      activates_if : (full : Bool) → let r = cond full (over finishes.Full s) new in Emits past (gets event place base past) r
      activates_if true = says_over past board (gets event place base past) s finishes.Full same
      activates_if false = subst (λ l. Emits past l new) note_is (says_one past board (Triggered a) new.state same (by_triggered past s.agenda by place (unit_of event) base))

  declines : (event : Event) (place : ℕ) (past : List Note) (s : State) → s.board ≡ board → IsBy past s.agenda → Says past board (Some (Declined place (unit_of event)) ∷ []) (Declined place (unit_of event) ∷ []) s None
  declines event place past s same by =
      let note : Note = Declined place (unit_of event) in
      says_one past board note s same (by_silent past (note ∷ []) s.agenda refl (λ pending. refl) by)

  requires : (event : Event) (place : ℕ) (past : List Note) (answer : Answer) (s : State) → s.board ≡ board → IsBy past s.agenda → Emits past (gets_if_rated event place (Some answer) past) (required_by event place answer s)
  requires event place past (answers.Rated base) s same by = activates event place base past s same by
  requires event place past answers.Declined s same by = declines event place past s same by
  requires event place past answers.Yes s same by = declines event place past s same by
  requires event place past answers.No s same by = declines event place past s same by
  requires event place past answers.Done s same by = declines event place past s same by

  triggered : (event : Event) (place : ℕ) (rate : ℤ) (code : Option Checked) (past : List Note) (s : State) → ((x : Checked) → code ≡ Some x → Reads x) → s.board ≡ board → IsBy past s.agenda
      → Emits past (gets_by board event place rate code past) (triggering event place rate code s)
  triggered event place rate None past s reads same by = activates event place rate past s same by
  triggered event place rate (Some code) past s reads same by =
      asks past (λ answer. gets_if_rated event place answer past) code (entry_of (unit_of event) None) (required_by event place) s (reads code refl) same by (λ answer t kept' later. requires event place past answer t kept' later)

  -- ---- sources in order

  module _ (reading : AsksByReading plan) where
    source_responds : (event : Event) (place : ℕ) (source : Source) (past : List Note) (s : State) → Contains plan.sources source → s.board ≡ board → IsBy past s.agenda
        → Emits past (responses_of plan board event place source past) (source_response plan.schema event place source s)
    source_responds event place source past s there same by =
        let first = reacting plan.schema event place obviated_by source.obviate s in
        let gone = reacts plan board event if_yes source.obviate (waiting_for past place) in
        let behind = past ++ known gone in
        let again = reacts plan board event if_rated source.retrigger (waiting_for behind place) in
        says_then past board gone (λ l. and_after l (reacts plan board event if_rated source.retrigger (waiting_for l place)) (triggers plan board event place source)) first
        (λ t. and_then (reacting plan.schema event place rerated_by source.retrigger t) (if_triggered plan.schema event place source)) first.end refl
        (reaction_says event if_yes obviated_by obviates place source.obviate past s (λ x is. reading source x.code there (inr (inr (inl (ap (option_map code_of) is))))) same by)
        (λ later same'.
        let second = reacting plan.schema event place rerated_by source.retrigger first.state in
        says_then behind board again (triggers plan board event place source) second (if_triggered plan.schema event place source) second.end refl
        (reaction_says event if_rated rerated_by rerates place source.retrigger behind first.state (λ x is. reading source x.code there (inr (inr (inr (ap (option_map code_of) is))))) same' later)
        (λ last kept'.
        either (behind ++ known again) board (any_match plan.schema source.triggers event) (gets_by board event place source.rate source.require (behind ++ known again)) []
        (triggering event place source.rate source.require second.state) (idle second.state)
        (triggered event place source.rate source.require (behind ++ known again) second.state (λ x is. reading source x there (inl is)) kept' last)
        (says_none (behind ++ known again) board second.state kept' last)))

    sources_respond : (event : Event) (place : ℕ) (sources : List Source) (past : List Note) (s : State) → All (Contains plan.sources) sources → s.board ≡ board → IsBy past s.agenda
        → Emits past (responses_from plan board event place sources past) (response_by plan.schema event place sources s)
    unfolding response_by
    sources_respond event place [] past s all same by = says_none past board s same by
    sources_respond event place (source ∷ more) past s all same by =
        let r = source_response plan.schema event place source s in
        let first = responses_of plan board event place source past in
        says_then past board first (responses_from plan board event (place + 1) more) r (response_by plan.schema event (place + 1) more) r.end refl
        (source_responds event place source past s (All-head (Contains plan.sources) source more all) same by)
        (λ later kept'. sources_respond event (place + 1) more (past ++ known first) r.state (All-tail (Contains plan.sources) source more all) kept' later)

    -- all sources respond to an event
    pub event_emitted : (event : Event) (past : List Note) (s : State) → s.board ≡ board → IsBy past s.agenda → Emits past (responses_from plan board event 0 plan.sources past) (response plan event s)
    event_emitted event past s same by = sources_respond event 0 plan.sources past s (All-contains_itself plan.sources) same by

    -- events are processed one after another
    pub events_emitted : (events : List Event) (past : List Note) (s : State) → s.board ≡ board → IsBy past s.agenda
        → let p = processing_all plan events s in Says past board (responses plan board events past) (notes_of p) p.state p.end
    unfolding processing_all
    events_emitted [] past s same by = says_none past board s same by
    events_emitted (event ∷ events) past s same by =
        let p = processing plan event s in
        let r = response plan event s in
        let first = responses_from plan board event 0 plan.sources past in
        says_all_then past board first (responses plan board events) p (processing_all plan events) p.end refl
        (subst (λ l. Says past board first l r.state r.end) (sym (append-nil r.emitted)) (event_emitted event past s same by))
        (λ later kept'. events_emitted events (past ++ known first) p.state kept' later)
