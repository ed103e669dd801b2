-- Each part of a run goes on orderly after the notes before it.
use Rattle.std.proofs.Common.{◌≡◌, ◌<◌, ℕ, zero, ℤ, ◌+◌, ◌-◌, Bool, true, false, cond, List, [], ◌∷◌, ◌++◌, length, map, Option, Some, None, Result, Ok, Err, refl, sym, ap, subst, ◌∙◌, append_assoc, arith, length-append}
use Rattle.std.specs.Prelude.{⊤, All}
use Rattle.std.proofs.lemmas.List.{append-nil}
use Rattle.std.proofs.lemmas.List.Concat.{flat_map-append}
use Rattle.std.proofs.lemmas.List.Elements.{All-filter, All-head, All-tail, All-weaker}
use Rattle.bb_trace.specs.Event.{Event}
use Rattle.bb_trace.specs.Event.TheVariants.{Quiescence as quiescence}
use Rattle.bb_trace.specs.BoardNote.{Note as BoardNote}
use Rattle.bb_trace.specs.BoardNote.TheVariants.{Event as happened}
use Rattle.bb_trace.specs.Board.{Board as Blackboard}
use Rattle.bb_trace.specs.Events.{unit_of}
use Rattle.bb_rules.specs.Match.{any_match}
use Rattle.bb_agenda.specs.declared.focusing.activation.Activation.{Activation}
use Rattle.bb_agenda.specs.Agenda.{Agenda, is_full, is_of, next_number, pending_for, pending_of}
use Rattle.bb_agenda.specs.Changes.{new_activation, with_activation}
use Rattle.bb_code.specs.Code.{Code}
use Rattle.bb_verify.specs.Accepted.{Checked}
use Rattle.bb_verify.specs.Budget.{budget}
use Rattle.bb_machine.specs.declared.outcome.Answer.{Answer}
use Rattle.bb_machine.specs.declared.outcome.Answer.TheVariants as answers
use Rattle.bb_machine.specs.declared.outcome.Entry.{Entry}
use Rattle.bb_machine.specs.declared.outcome.Outcome.{Outcome}
use Rattle.bb_machine.specs.declared.outcome.Stop.{Stop}
use Rattle.bb_machine.specs.declared.outcome.Stop.TheVariants as stops
use Rattle.bb_rules.specs.declared.source.Reaction.{Reaction}
use Rattle.bb_rules.specs.Parts.{Source}
use Rattle.bb_trace.specs.End.{End}
use Rattle.bb_trace.specs.End as finishes
use Rattle.bb_trace.specs.declared.note.Note.{Note}
use Rattle.bb_trace.specs.declared.note.Note.TheVariants.{Board, Triggered, Declined, Obviated, Retriggered, Chosen, Invalid, Ended, Refused, NativeEnded, Finished, Closed}
use Rattle.bb_trace.specs.Native.{Native}
use Rattle.bb_run_plan.specs.Plan.{Plan}
use Rattle.bb_run.specs.declared.execution.Verdict.{Verdict}
use Rattle.bb_run.specs.declared.execution.Verdict.TheVariants as verdicts
use Rattle.bb_run.specs.State.{State, with_board, with_agenda}
use Rattle.bb_run.specs.Emission.{Response, Stretch, emitting, idle, over, and_then, and_then_unless, segment}
use Rattle.bb_run.specs.Asking.{attempt, asking, end_by, entry_of, reply_by, upon}
use Rattle.bb_run.specs.Processing.{activating, events_in, if_triggered, obviated_by, processing, processing_all, reacting, reacting_to, reacting_to_each, reported, required_by, rerated_by, response, response_by, source_response, triggering}
use Rattle.bb_run.specs.Run.{cycle, cycles, wait_for, run, validity, verdict_by, verdict_of}
use Rattle.bb_run.specs.Order.{all_of, notes_of, triggered_in, chosen_in, IsChosenAfter}
use Rattle.bb_run.proofs.rules.OrderLemmas.{Comes, comes_none, comes_one, comes_then}
use Rattle.bb_run.proofs.notes.PendingLemmas.{IsKnown, Stands, IsSilent, ends_in, triggered_then, stands_silent, stands_triggered, stands_obviated, stands_rebased}

pub all_of_two : (xs ys : List (List Note)) → all_of (xs ++ ys) ≡ all_of xs ++ all_of ys
all_of_two xs ys = flat_map-append (λ segment. segment) xs ys

-- a last segment
pub all_of_more : (xs : List (List Note)) (last : List Note) → all_of (xs ++ last ∷ []) ≡ all_of xs ++ last
all_of_more xs last = all_of_two xs (last ∷ []) ∙ ap (λ l. all_of xs ++ l) (append-nil last)

-- an end that does not come between two cycles
abbrev pub IsEarly : Option End → Type 0
IsEarly None = ⊤
IsEarly (Some finishes.Quiescence) = ⊥
IsEarly (Some finishes.Limit) = ⊥
IsEarly (Some finishes.Full) = ⊤
IsEarly (Some (finishes.Due a)) = ⊤
IsEarly (Some (finishes.Stuck reason)) = ⊤

pub early_end : (stop : Stop) → IsEarly (Some (end_by stop))
early_end (stops.Full steps found) = tt
early_end (stops.Stuck reason steps found) = tt
early_end stops.Memory = tt

-- the run ends by a verdict only where a revalidation was stopped
abbrev pub IsEarlyVerdict : Verdict → Type 0
IsEarlyVerdict v = (end : End) → v ≡ verdicts.Over end → IsEarly (Some end)

early_of : (answer : Answer) → IsEarlyVerdict (verdict_of answer)
early_of answers.No end is = absurd cc
early_of answers.Yes end is = absurd cc
early_of answers.Done end is = absurd cc
early_of answers.Declined end is = absurd cc
early_of (answers.Rated base) end is = absurd cc

early_by : (r : Result Outcome Stop) → IsEarlyVerdict (verdict_by (reply_by r))
early_by (Ok o) end is = early_of o.answer end is
early_by (Err stop) end is = let same : end_by stop ≡ end = cc in subst (λ e. IsEarly (Some e)) same (early_end stop)

pub early_verdict : (code : Option Checked) (a : Activation) (b : Blackboard) → IsEarlyVerdict (validity code a b).0
early_verdict None a b end is = absurd cc
early_verdict (Some code) a b end is = early_by (attempt code.code (entry_of a.unit None) b).0 end is

module _ (plan : Plan) (board : Blackboard) (natives : List Native) where
  -- a cycle may choose after these notes
  pub record MayChoose (before : List Note) (number : ℕ) (a : Activation) (r : ℤ) : Type 0 where
    pub choice : IsChosenAfter plan (run plan board natives (number - 1)) before number a r
    pub stands : Stands (length plan.sources) before (number - 1) (number - 1) (run plan board natives (number - 1)).state.agenda
    -- the run whose limit is the cycle's number makes the cycle in that state
    pub goes_on : (run plan board natives number).state ≡ (and_then (cycle plan number a (run plan board natives (number - 1)).state) (cycles plan number zero)).state

  -- a note of a run may come after these, before it finishes
  abbrev pub May : List Note → Note → Type 0
  May before (Triggered a) = a.number ≡ length (triggered_in before) + 1
  May before (Chosen number a r) = MayChoose before number a r
  May before (Invalid number) = ends_in before + 1 ≡ length (chosen_in before)
  May before (Ended steps found budget) = ends_in before + 1 ≡ length (chosen_in before)
  May before (NativeEnded asks) = ends_in before + 1 ≡ length (chosen_in before)
  May before (Refused ask refusal) = ends_in before + 1 ≡ length (chosen_in before)
  May before (Finished end) = ⊥
  May before (Closed closing) = ⊥
  May before _ = ⊤

  -- the agenda is what is pending by the notes
  abbrev pub Agrees : (past : List Note) (made executed : ℕ) → Agenda → Type 0
  Agrees = Stands (length plan.sources)

  -- notes after those in the past may come there, and leave this
  pub record Keeps (past notes : List Note) (made executed : ℕ) (s : State) (end : Option End) : Type 0 where
    pub comes : Comes May past notes
    pub cycles : made ≡ length (chosen_in (past ++ notes))
    pub stands : end ≡ None → Agrees (past ++ notes) made executed s.agenda
    pub early : IsEarly end

  -- the notes of a stretch may come after those in the past
  abbrev pub Emits : (past : List Note) (made executed : ℕ) → Stretch → Type 0
  Emits past made executed p = Keeps past (notes_of p) made executed p.state p.end

  -- no notes
  pub keeps_none : (past : List Note) (made executed : ℕ) (s : State) (end : Option End) → IsEarly end → Agrees past made executed s.agenda → Keeps past [] made executed s end
  keeps_none past made executed s end early stands =
      let same = sym (append-nil past) in
      record { comes = comes_none May past; cycles = stands.cycles ∙ ap (λ l. length (chosen_in l)) same; stands = λ e. subst (λ l. Agrees l made executed s.agenda) same stands; early = early }

  -- notes before others
  pub keeps_more : (past xs ys : List Note) (made executed : ℕ) (s : State) (end : Option End) → Comes May past xs → Keeps (past ++ xs) ys made executed s end → Keeps past (xs ++ ys) made executed s end
  keeps_more past xs ys made executed s end may rest =
      let same : (past ++ xs) ++ ys ≡ past ++ (xs ++ ys) = append_assoc past xs ys in
      record {
        comes = comes_then May past xs ys may rest.comes;
        cycles = rest.cycles ∙ ap (λ l. length (chosen_in l)) same;
        stands = λ e. subst (λ l. Agrees l made executed s.agenda) same (rest.stands e);
        early = rest.early;
      }

  -- a last segment
  keeps_last : (past notes : List Note) (made executed : ℕ) (s : State) (end : Option End) → Keeps past notes made executed s end → Emits past made executed (emitting (notes ∷ []) s end)
  keeps_last past notes made executed s end p = subst (λ l. Keeps past l made executed s end) (sym (append-nil notes)) p

  -- a stretch, and then the next
  emits_then : (past : List Note) (made executed : ℕ) (p : Stretch) (next : State → Stretch) (end : Option End) → p.end ≡ end → Emits past made executed p
      → (Agrees (past ++ notes_of p) made executed p.state.agenda → Emits (past ++ notes_of p) made executed (next p.state)) → Emits past made executed (and_then_unless end p next)
  emits_then past made executed p next (Some end) is first rest = first
  emits_then past made executed p next None is first rest =
      let q = next p.state in
      subst (λ l. Keeps past l made executed q.state q.end) (sym (all_of_two p.emitted q.emitted)) (keeps_more past (notes_of p) (notes_of q) made executed q.state q.end first.comes (rest (first.stands is)))

  -- ---- the response to an event

  -- the notes of a response may come after those in the past
  abbrev pub Responds : (past : List Note) (made executed : ℕ) → Response → Type 0
  Responds past made executed r = Keeps past r.emitted made executed r.state r.end

  -- a response, and then the next
  pub responds_then : (past : List Note) (made executed : ℕ) (r : Response) (next : State → Response) (end : Option End) → r.end ≡ end → Responds past made executed r
      → (Agrees (past ++ r.emitted) made executed r.state.agenda → Responds (past ++ r.emitted) made executed (next r.state)) → Responds past made executed (and_then_unless end r next)
  responds_then past made executed r next (Some end) is first rest = first
  responds_then past made executed r next None is first rest =
      let q = next r.state in keeps_more past r.emitted q.emitted made executed q.state q.end first.comes (rest (first.stands is))

  -- a response goes by a test
  either : (past : List Note) (made executed : ℕ) (b : Bool) (p q : Response) → Responds past made executed p → Responds past made executed q → Responds past made executed (cond b p q)
  either past made executed true p q x y = x
  either past made executed false p q x y = y

  -- a code is asked, and what its answer brings about goes on orderly
  replied : (next : Answer → State → Response) (past : List Note) (made executed : ℕ) (r : Result Outcome Stop) (t : State) → Agrees past made executed t.agenda
      → ((answer : Answer) → Responds past made executed (next answer t)) → Responds past made executed (upon (reply_by r) next t)
  replied next past made executed (Ok o) t stands goes = goes o.answer
  replied next past made executed (Err stop) t stands goes = keeps_none past made executed t (Some (end_by stop)) (early_end stop) stands

  asks : (code : Code) (entry : Entry) (next : Answer → State → Response) (past : List Note) (made executed : ℕ) (s : State) → Agrees past made executed s.agenda
      → ((answer : Answer) (t : State) → Agrees past made executed t.agenda → Responds past made executed (next answer t)) → Responds past made executed (asking code entry next s)
  asks code entry next past made executed s stands goes =
      let e = attempt code entry s.board in
      replied next past made executed e.0 (with_board s e.1) stands (λ answer. goes answer (with_board s e.1) stands)

  -- a note that tells of no activation
  pub agrees_silent : (past : List Note) (note : Note) (made executed : ℕ) (agenda : Agenda) → IsSilent (note ∷ []) → ends_in (note ∷ []) ≡ 0 → Agrees past made executed agenda → Agrees (past ++ note ∷ []) made executed agenda
  agrees_silent past note made executed agenda silent none stands =
      let same : executed + 0 ≡ executed = omega arith in
      subst (λ n. Agrees (past ++ note ∷ []) made n agenda) same (stands_silent (length plan.sources) past made executed agenda stands (note ∷ []) 0 silent none)

  -- one note that leaves this
  pub emits_one : (past : List Note) (note : Note) (made executed : ℕ) (s : State) → May past note → Agrees (past ++ note ∷ []) made executed s.agenda → Responds past made executed (emitting (note ∷ []) s None)
  emits_one past note made executed s may later = record { comes = comes_one May past note may; cycles = later.cycles; stands = λ e. later; early = tt }

  -- ---- what a source does about its pending activations

  -- the number was given
  abbrev IsGiven : List Note → Activation → Type 0
  IsGiven past a = a.number < length (triggered_in past) + 1

  given_still : (past xs : List Note) (a : Activation) → IsGiven past a → IsGiven (past ++ xs) a
  given_still past xs a under =
      let more : length (triggered_in (past ++ xs)) ≡ length (triggered_in past) + length (triggered_in xs) = ap length (triggered_then past xs) ∙ length-append (triggered_in past) (triggered_in xs) in
      omega (arith, more, under)

  -- what an answer does about a pending activation goes on orderly
  abbrev Reacts : (Activation → Answer → State → Response) → Type 0
  Reacts by = (past : List Note) (made executed : ℕ) (a : Activation) (answer : Answer) (s : State) → IsGiven past a → Agrees past made executed s.agenda → Responds past made executed (by a answer s)

  obviates : Reacts obviated_by
  obviates past made executed a answers.Yes s under stands =
      emits_one past (Obviated a.number) made executed (obviated_by a answers.Yes s).state tt
      (stands_obviated (length plan.sources) past made executed s.agenda stands a.number (subst (λ n. a.number < n) (sym stands.numbers) under))
  obviates past made executed a answers.No s under stands = keeps_none past made executed s None tt stands
  obviates past made executed a answers.Done s under stands = keeps_none past made executed s None tt stands
  obviates past made executed a answers.Declined s under stands = keeps_none past made executed s None tt stands
  obviates past made executed a (answers.Rated base) s under stands = keeps_none past made executed s None tt stands

  rerates : Reacts rerated_by
  rerates past made executed a (answers.Rated base) s under stands =
      emits_one past (Retriggered a.number base) made executed (rerated_by a (answers.Rated base) s).state tt (stands_rebased (length plan.sources) past made executed s.agenda stands a.number base)
  rerates past made executed a answers.Yes s under stands = keeps_none past made executed s None tt stands
  rerates past made executed a answers.No s under stands = keeps_none past made executed s None tt stands
  rerates past made executed a answers.Done s under stands = keeps_none past made executed s None tt stands
  rerates past made executed a answers.Declined s under stands = keeps_none past made executed s None tt stands

  module _ (event : Event) (by : Activation → Answer → State → Response) (reacts : Reacts by) where
    reacts_one : (reaction : Reaction) (a : Activation) (past : List Note) (made executed : ℕ) (s : State) → IsGiven past a → Agrees past made executed s.agenda → Responds past made executed (reacting_to event by reaction a s)
    reacts_one reaction a past made executed s under stands =
        asks reaction.code.code (entry_of a.unit (Some (unit_of event))) (by a) past made executed s stands (λ answer t later. reacts past made executed a answer t under later)

    reacts_each : (reaction : Reaction) (items : List Activation) (past : List Note) (made executed : ℕ) (s : State) → All (IsGiven past) items → Agrees past made executed s.agenda
        → Responds past made executed (reacting_to_each event by reaction items s)
    unfolding reacting_to_each
    reacts_each reaction [] past made executed s all stands = keeps_none past made executed s None tt stands
    reacts_each reaction (a ∷ more) past made executed s all stands =
        let r = reacting_to event by reaction a s in
        responds_then past made executed r (reacting_to_each event by reaction more) r.end refl (reacts_one reaction a past made executed s (All-head (IsGiven past) a more all) stands)
        (λ later. reacts_each reaction more (past ++ r.emitted) made executed r.state (All-weaker (IsGiven past) (IsGiven (past ++ r.emitted)) (given_still past r.emitted) more (All-tail (IsGiven past) a more all)) later)

    -- what is pending was given
    given_pending : (place : ℕ) (past : List Note) (made executed : ℕ) (agenda : Agenda) → Agrees past made executed agenda → All (IsGiven past) (pending_for agenda place)
    given_pending place past made executed agenda stands =
        All-filter (is_of place) (IsGiven past) (pending_of agenda)
        (All-weaker (IsKnown (next_number agenda) (length plan.sources)) (IsGiven past) (λ a k. subst (λ n. a.number < n) stands.numbers k.number) (pending_of agenda) stands.known)

    reacts_if : (place : ℕ) (reaction : Option Reaction) (past : List Note) (made executed : ℕ) (s : State) → Agrees past made executed s.agenda → Responds past made executed (reacting plan.schema event place by reaction s)
    reacts_if place None past made executed s stands = keeps_none past made executed s None tt stands
    reacts_if place (Some reaction) past made executed s stands =
        either past made executed (any_match plan.schema reaction.clauses event) (reacting_to_each event by reaction (pending_for s.agenda place) s) (idle s)
        (reacts_each reaction (pending_for s.agenda place) past made executed s (given_pending place past made executed s.agenda stands) stands)
        (keeps_none past made executed s None tt stands)

  -- ---- what triggers a source

  activates : (event : Event) (place : ℕ) (base : ℤ) (past : List Note) (made executed : ℕ) (s : State) → place < length plan.sources → Agrees past made executed s.agenda
      → Responds past made executed (activating event place base s)
  activates event place base past made executed s under stands =
      let a = new_activation s.agenda place (unit_of event) base in
      let full : Response = over finishes.Full s in
      let new : Response = emitting (Triggered a ∷ []) (with_agenda s (with_activation s.agenda place (unit_of event) base)) None in
      either past made executed (is_full s.agenda) full new
      (keeps_none past made executed s (Some finishes.Full) tt stands)
      (emits_one past (Triggered a) made executed new.state stands.numbers (stands_triggered (length plan.sources) past made executed s.agenda stands place (unit_of event) base under))

  declines : (event : Event) (place : ℕ) (past : List Note) (made executed : ℕ) (s : State) → Agrees past made executed s.agenda
      → Responds past made executed (emitting (Declined place (unit_of event) ∷ []) s None)
  declines event place past made executed s stands =
      emits_one past (Declined place (unit_of event)) made executed s tt
      (agrees_silent past (Declined place (unit_of event)) made executed s.agenda (record { none_triggered = refl; none_chosen = refl; none_gone = refl; same_pending = λ pending. refl }) refl stands)

  requires_by : (event : Event) (place : ℕ) (past : List Note) (made executed : ℕ) (answer : Answer) (s : State) → place < length plan.sources → Agrees past made executed s.agenda
      → Responds past made executed (required_by event place answer s)
  requires_by event place past made executed (answers.Rated base) s under stands = activates event place base past made executed s under stands
  requires_by event place past made executed answers.Declined s under stands = declines event place past made executed s stands
  requires_by event place past made executed answers.Yes s under stands = declines event place past made executed s stands
  requires_by event place past made executed answers.No s under stands = declines event place past made executed s stands
  requires_by event place past made executed answers.Done s under stands = declines event place past made executed s stands

  triggers : (event : Event) (place : ℕ) (rate : ℤ) (code : Option Checked) (past : List Note) (made executed : ℕ) (s : State) → place < length plan.sources → Agrees past made executed s.agenda
      → Responds past made executed (triggering event place rate code s)
  triggers event place rate None past made executed s under stands = activates event place rate past made executed s under stands
  triggers event place rate (Some code) past made executed s under stands =
      asks code.code (entry_of (unit_of event) None) (required_by event place) past made executed s stands (λ answer t later. requires_by event place past made executed answer t under later)

  triggers_if : (event : Event) (place : ℕ) (source : Source) (past : List Note) (made executed : ℕ) (s : State) → place < length plan.sources → Agrees past made executed s.agenda
      → Responds past made executed (if_triggered plan.schema event place source s)
  triggers_if event place source past made executed s under stands =
      either past made executed (any_match plan.schema source.triggers event) (triggering event place source.rate source.require s) (idle s)
      (triggers event place source.rate source.require past made executed s under stands)
      (keeps_none past made executed s None tt stands)

  -- ---- sources in order

  source_responds : (event : Event) (place : ℕ) (source : Source) (past : List Note) (made executed : ℕ) (s : State) → place < length plan.sources → Agrees past made executed s.agenda
      → Responds past made executed (source_response plan.schema event place source s)
  source_responds event place source past made executed s under stands =
      let first = reacting plan.schema event place obviated_by source.obviate s in
      responds_then past made executed first (λ t. and_then (reacting plan.schema event place rerated_by source.retrigger t) (if_triggered plan.schema event place source)) first.end refl
      (reacts_if event obviated_by obviates place source.obviate past made executed s stands)
      (λ then. let second = reacting plan.schema event place rerated_by source.retrigger first.state in
      responds_then (past ++ first.emitted) made executed second (if_triggered plan.schema event place source) second.end refl
      (reacts_if event rerated_by rerates place source.retrigger (past ++ first.emitted) made executed first.state then)
      (λ later. triggers_if event place source ((past ++ first.emitted) ++ second.emitted) made executed second.state under later))

  -- each source in order, with those before it
  responds : (event : Event) (place : ℕ) (sources : List Source) (past : List Note) (made executed : ℕ) (s : State) → place + length sources ≡ length plan.sources → Agrees past made executed s.agenda
      → Responds past made executed (response_by plan.schema event place sources s)
  unfolding response_by
  responds event place [] past made executed s count stands = keeps_none past made executed s None tt stands
  responds event place (source ∷ sources) past made executed s count stands =
      let r = source_response plan.schema event place source s in
      let left : place + 1 + length sources ≡ length plan.sources = omega (arith, count) in
      let under : place < length plan.sources = omega (arith, count) in
      responds_then past made executed r (response_by plan.schema event (place + 1) sources) r.end refl (source_responds event place source past made executed s under stands)
      (λ later. responds event (place + 1) sources (past ++ r.emitted) made executed r.state left later)

  all_respond : (event : Event) (past : List Note) (made executed : ℕ) (s : State) → Agrees past made executed s.agenda → Responds past made executed (response plan event s)
  all_respond event past made executed s stands = responds event 0 plan.sources past made executed s (omega arith) stands

  processes : (event : Event) (past : List Note) (made executed : ℕ) (s : State) → Agrees past made executed s.agenda → Emits past made executed (processing plan event s)
  processes event past made executed s stands = let r = response plan event s in keeps_last past r.emitted made executed r.state r.end (all_respond event past made executed s stands)

  processes_all : (events : List Event) (past : List Note) (made executed : ℕ) (s : State) → Agrees past made executed s.agenda → Emits past made executed (processing_all plan events s)
  unfolding processing_all
  processes_all [] past made executed s stands = keeps_none past made executed s None tt stands
  processes_all (event ∷ events) past made executed s stands =
      let p = processing plan event s in
      emits_then past made executed p (processing_all plan events) p.end refl (processes event past made executed s stands)
      (λ later. processes_all events (past ++ notes_of p) made executed p.state later)

  -- a response, and its events
  pub reports : (past : List Note) (made executed : ℕ) (r : Response) → Responds past made executed r → Emits past made executed (reported plan r)
  reports past made executed r first =
      let p = segment r in
      emits_then past made executed p (processing_all plan (events_in r.emitted)) r.end refl (keeps_last past r.emitted made executed r.state r.end first)
      (λ later. processes_all (events_in r.emitted) (past ++ notes_of p) made executed r.state later)

  -- ---- notes of the blackboard

  pub comes_board : (past : List Note) (notes : List BoardNote) → Comes May past (map Board notes)
  unfolding Comes
  comes_board past [] = tt
  comes_board past (note ∷ notes) = (tt, comes_board (past ++ Board note ∷ []) notes)

  silent_board : (notes : List BoardNote) → IsSilent (map Board notes)
  silent_board [] = record { none_triggered = refl; none_chosen = refl; none_gone = refl; same_pending = λ pending. refl }
  silent_board (note ∷ notes) =
      let rest = silent_board notes in
      record { none_triggered = rest.none_triggered; none_chosen = rest.none_chosen; none_gone = rest.none_gone; same_pending = rest.same_pending }

  none_ended : (notes : List BoardNote) → ends_in (map Board notes) ≡ 0
  none_ended [] = refl
  none_ended (note ∷ notes) = none_ended notes

  pub agrees_board : (past : List Note) (notes : List BoardNote) (made executed : ℕ) (agenda : Agenda) → Agrees past made executed agenda → Agrees (past ++ map Board notes) made executed agenda
  agrees_board past notes made executed agenda stands =
      let same : executed + 0 ≡ executed = omega arith in
      subst (λ n. Agrees (past ++ map Board notes) made n agenda) same (stands_silent (length plan.sources) past made executed agenda stands (map Board notes) 0 (silent_board notes) (none_ended notes))

  -- ---- the wait before a cycle

  pub waits_for : (past : List Note) (made executed : ℕ) (s : State) (c : Option Activation) → Agrees past made executed s.agenda → Emits past made executed (wait_for plan s c)
  waits_for past made executed s (Some a) stands = keeps_none past made executed s None tt stands
  waits_for past made executed s None stands =
      let r = response plan quiescence s in
      let note : List BoardNote = happened quiescence ∷ [] in
      keeps_last past (map Board note ++ r.emitted) made executed r.state r.end
      (keeps_more past (map Board note) r.emitted made executed r.state r.end (comes_board past note) (all_respond quiescence (past ++ map Board note) made executed s (agrees_board past note made executed s.agenda stands)))
