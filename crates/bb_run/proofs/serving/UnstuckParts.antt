-- What answers to an event is not stuck, and leaves units that suit their sources.
use Rattle.std.proofs.Common.{◌≡◌, ◌≤◌, inl, inr, ℕ, zero, suc, ◌+◌, ℤ, Bool, true, false, cond, List, [], ◌∷◌, Option, Some, None, option_map, Result, Ok, Err, refl, sym, ap, subst, ◌∙◌, arith}
use Rattle.std.specs.Prelude.{All, Contains, ◌==◌, filter, slice_get}
use Rattle.std.proofs.lemmas.Bool.{eqb-true}
use Rattle.std.proofs.lemmas.List.Elements.{All-append, All-cons, All-contains, All-contains_itself, All-filter, All-head, All-nil, All-tail}
use Rattle.bb_schema.specs.Schema.{Schema}
use Rattle.bb_code.specs.Code.{IsCode}
use Rattle.bb_verify.specs.Accepted.{Checked}
use Rattle.bb_verify.specs.Budget.{budget}
use Rattle.bb_verify.specs.declared.checked.TheConstants.{FOUND_LIMIT}
use Rattle.bb_theorem_machine.proofs.Laws.{activation_never_stuck, activation_reads}
use Rattle.bb_machine.specs.declared.outcome.Answer.{Answer}
use Rattle.bb_machine.specs.declared.outcome.Answer.TheVariants as answers
use Rattle.bb_machine.specs.declared.outcome.Entry.{Entry}
use Rattle.bb_theorem_machine.specs.Fits.{Fits}
use Rattle.bb_theorem_machine.specs.Kinds.{WasOf}
use Rattle.bb_theorem_machine.specs.NeverWrong.{Begins, NeverStuck}
use Rattle.bb_machine.specs.declared.outcome.Outcome.{Outcome}
use Rattle.bb_machine.specs.declared.outcome.Stop.{Stop}
use Rattle.bb_machine.specs.declared.outcome.Stop.TheVariants as stops
use Rattle.bb_schema.specs.Fits as schemas
use Rattle.bb_agenda.specs.declared.focusing.activation.Activation.{Activation}
use Rattle.bb_agenda.specs.Agenda.{Agenda, is_full, is_of, pending_for, pending_of}
use Rattle.bb_agenda.specs.Changes.{new_activation, other_than, with_activation, with_base, with_obviated}
use Rattle.bb_agenda.proofs.Laws.{pending_added, pending_obviated, pending_rebased}
use Rattle.bb_trace.specs.Board.{Board as Blackboard}
use Rattle.bb_trace.specs.Event.{Event}
use Rattle.bb_trace.specs.Events.{unit_of}
use Rattle.bb_rules.specs.Law.{HasSoundCodes, IsMade}
use Rattle.bb_rules.specs.Match.{any_match}
use Rattle.bb_rules.specs.declared.source.Reaction.{Reaction}
use Rattle.bb_rules.specs.Parts.{Source}
use Rattle.bb_trace.specs.End.{End}
use Rattle.bb_trace.specs.End as finishes
use Rattle.bb_trace.specs.declared.note.Note.TheVariants.{Triggered, Declined, Obviated, Retriggered}
use Rattle.bb_run_plan.specs.Plan.{Plan}
use Rattle.bb_run.specs.State.{State, with_board, with_agenda}
use Rattle.bb_run.specs.Emission.{Response, Emission, emitting, idle, over, and_then, and_then_unless, segment}
use Rattle.bb_run.specs.Asking.{attempt, asking, entry_of, reply_by, upon}
use Rattle.bb_run.specs.Processing.{activating, if_triggered, obviated_by, processing, processing_all, reacting, reacting_to, reacting_to_each, required_by, rerated_by, response, response_by, source_response, triggering}
use Rattle.bb_run.specs.Causes.{IsAsked, IsPart, code_of}
use Rattle.bb_run.specs.Unstuck.{FitsPlan, IsEventOf, IsWellMade, KeepsBudget, NotStuck, SuitsSource}
use Rattle.bb_run.proofs.serving.EntryLemmas.{begins_with, code_within, event_was, fits_obviate, fits_require, fits_retrigger}
use Rattle.bb_run.proofs.notes.PendingLemmas.{All-last, all_rebased}
use Rattle.bb_run.proofs.keeping.ReadLemmas.{plan_reads}

-- ---- parts of a run, one after another

-- what is emitted keeps its budgets, the run is not stuck, and this holds of the state
pub record GoesWell {X : Type 0} (Fine : X → Type 0) (Holds : State → Type 0) (p : Emission X) : Type 0 where
  pub emitted : All Fine p.emitted
  pub end : NotStuck p.end
  pub state : Holds p.state

module _ {X : Type 0} (Fine : X → Type 0) (Holds : State → Type 0) where
  -- nothing is emitted
  pub well_idle : (s : State) → Holds s → GoesWell Fine Holds (idle {X = X} s)
  well_idle s holds = record { emitted = All-nil Fine; end = tt; state = holds }

  pub well_over : (end : End) (s : State) → NotStuck (Some end) → Holds s → GoesWell Fine Holds (over {X = X} end s)
  well_over end s not holds = record { emitted = All-nil Fine; end = not; state = holds }

  -- one thing is emitted
  pub well_one : (x : X) (s : State) → Fine x → Holds s → GoesWell Fine Holds (emitting (x ∷ []) s None)
  well_one x s fine holds = record { emitted = All-cons Fine x [] fine (All-nil Fine); end = tt; state = holds }

  -- one part, and then the next
  pub well_then : (p : Emission X) (next : State → Emission X) (end : Option End) → p.end ≡ end → GoesWell Fine Holds p → (Holds p.state → GoesWell Fine Holds (next p.state)) → GoesWell Fine Holds (and_then_unless end p next)
  well_then p next (Some e) is first rest = first
  well_then p next None is first rest =
      let q = rest first.state in
      record { emitted = All-append Fine p.emitted (next p.state).emitted first.emitted q.emitted; end = q.end; state = q.state }

-- what holds of the state says something else of it too
pub well_weaker : {X : Type 0} (Fine : X → Type 0) (Holds Other : State → Type 0) (p : Emission X) → ((s : State) → Holds s → Other s) → GoesWell Fine Holds p → GoesWell Fine Other p
well_weaker Fine Holds Other p from well = record { emitted = well.emitted; end = well.end; state = from p.state well.state }

-- a response is emitted as one segment
pub well_segment : (Holds : State → Type 0) (r : Response) → GoesWell KeepsBudget Holds r → GoesWell (All KeepsBudget) Holds (segment r)
well_segment Holds r well = record { emitted = All-cons (All KeepsBudget) r.emitted [] well.emitted (All-nil (All KeepsBudget)); end = well.end; state = well.state }

-- ---- while events are processed

module _ (plan : Plan) (sound : IsWellMade plan) (b : Blackboard) (fits : FitsPlan plan b) where
  -- the blackboard stays this one, and each pending activation's unit suits its source
  pub record Waits (s : State) : Type 0 where
    pub board : s.board ≡ b
    pub waiting : All (SuitsSource plan b) (pending_of s.agenda)

  abbrev pub Answers : Response → Type 0
  Answers = GoesWell KeepsBudget Waits

  -- the unit was of a class
  abbrev pub Was : (class unit : ℕ) → Type 0
  Was class unit = WasOf plan.schema b.world class unit

  made_of : (source : Source) → Contains plan.sources source → IsMade plan.schema source
  made_of source there = All-contains (IsMade plan.schema) plan.sources source sound.made there

  codes_of : (source : Source) → Contains plan.sources source → (c : Checked) → IsPart source c → IsCode c.code
  codes_of source there c part = code_within source c (All-contains HasSoundCodes plan.sources source sound.codes there) part

  -- ---- a code is asked

  never : (c : Checked) (entry : Entry) → IsCode c.code → Begins c.part c.frames c.code entry b → NeverStuck (attempt c.code entry b).0
  never c entry is begins =
      activation_never_stuck c.part c.frames c.code entry b (budget c.code FOUND_LIMIT) is (subst schemas.Fits (sym fits.schema) sound.schema)
      (subst (λ (x : Schema). Fits x b.world) (sym fits.schema) fits.world) begins (let n = budget c.code FOUND_LIMIT in let le : n ≤ n = omega arith in le)

  -- an agenda as it was, on a blackboard as it was
  still : (s : State) (board : Blackboard) → board ≡ b → Waits s → Waits (with_board s board)
  still s board same w = record { board = same; waiting = w.waiting }

  replied : (s : State) (board : Blackboard) (next : Answer → State → Response) (r : Result Outcome Stop) → board ≡ b → Waits s → NeverStuck r → ((answer : Answer) (t : State) → Waits t → Answers (next answer t)) → Answers (upon (reply_by r) next (with_board s board))
  replied s board next (Ok o) same w never' goes = goes o.answer (with_board s board) (still s board same w)
  replied s board next (Err (stops.Full steps found)) same w never' goes = well_over KeepsBudget Waits finishes.Full (with_board s board) tt (still s board same w)
  replied s board next (Err (stops.Stuck reason steps found)) same w never' goes = absurd never'
  replied s board next (Err stops.Memory) same w never' goes = well_over KeepsBudget Waits finishes.Full (with_board s board) tt (still s board same w)

  asks : (source : Source) (c : Checked) (entry : Entry) (next : Answer → State → Response) (s : State) → Contains plan.sources source → IsAsked source c → Begins c.part c.frames c.code entry b → Waits s
      → ((answer : Answer) (t : State) → Waits t → Answers (next answer t)) → Answers (asking c.code entry next s)
  asks source c entry next s there asked begins w goes =
      let reads = activation_reads (budget c.code FOUND_LIMIT) c.code entry s.board (plan_reads plan sound.codes source c there asked) in
      replied s (attempt c.code entry s.board).1 next (attempt c.code entry s.board).0 (reads ∙ w.board) w
      (subst (λ (x : Blackboard). NeverStuck (attempt c.code entry x).0) (sym w.board) (never c entry (codes_of source there c (inr asked)) begins)) goes

  -- ---- what is pending of a source

  by_test : (t : Bool) (p q : Response) → (t ≡ true → Answers p) → Answers q → Answers (cond t p q)
  by_test true p q yes' no' = yes' refl
  by_test false p q yes' no' = no'

  pub obviates : (a : Activation) (answer : Answer) (s : State) → Waits s → Answers (obviated_by a answer s)
  obviates a answers.Yes s w =
      well_one KeepsBudget Waits (Obviated a.number) (with_agenda s (with_obviated s.agenda a.number)) tt
      (record { board = w.board; waiting = subst (All (SuitsSource plan b)) (sym (pending_obviated s.agenda a.number)) (All-filter (other_than a.number) (SuitsSource plan b) (pending_of s.agenda) w.waiting) })
  obviates a answers.No s w = well_idle KeepsBudget Waits s w
  obviates a answers.Done s w = well_idle KeepsBudget Waits s w
  obviates a answers.Declined s w = well_idle KeepsBudget Waits s w
  obviates a (answers.Rated base) s w = well_idle KeepsBudget Waits s w

  pub rerates : (a : Activation) (answer : Answer) (s : State) → Waits s → Answers (rerated_by a answer s)
  rerates a (answers.Rated base) s w =
      well_one KeepsBudget Waits (Retriggered a.number base) (with_agenda s (with_base s.agenda a.number base)) tt
      (record { board = w.board; waiting = subst (All (SuitsSource plan b)) (sym (pending_rebased s.agenda a.number base)) (all_rebased (SuitsSource plan b) (λ x base' suits. suits) a.number base (pending_of s.agenda) w.waiting) })
  rerates a answers.Yes s w = well_idle KeepsBudget Waits s w
  rerates a answers.No s w = well_idle KeepsBudget Waits s w
  rerates a answers.Done s w = well_idle KeepsBudget Waits s w
  rerates a answers.Declined s w = well_idle KeepsBudget Waits s w

  -- the unit of each pending activation of a source was of its class
  suits_if : (place class : ℕ) (a : Activation) (rest : List Activation) (t : Bool) → (a.source == place) ≡ t → ((a.source == place) ≡ true → Was class a.unit) → All (λ (x : Activation). Was class x.unit) rest
      → All (λ (x : Activation). Was class x.unit) (cond t (a ∷ rest) rest)
  suits_if place class a rest true is here all = All-cons (λ (x : Activation). Was class x.unit) a rest (here is) all
  suits_if place class a rest false is here all = all

  pub suit_place : (place : ℕ) (source : Source) (xs : List Activation) → slice_get plan.sources place ≡ Some source → All (SuitsSource plan b) xs → All (λ (x : Activation). Was source.class x.unit) (filter (is_of place) xs)
  suit_place place source [] is all = All-nil (λ (x : Activation). Was source.class x.unit)
  suit_place place source (a ∷ xs) is all =
      suits_if place source.class a (filter (is_of place) xs) (a.source == place) refl
      (λ same. All-head (SuitsSource plan b) a xs all source (ap (slice_get plan.sources) (eqb-true a.source place same) ∙ is))
      (suit_place place source xs is (All-tail (SuitsSource plan b) a xs all))

  module _ (event : Event) (here : IsEventOf plan.schema b event) where
    module _ (by : Activation → Answer → State → Response) (source : Source) (there : Contains plan.sources source) (reacts : (a : Activation) (answer : Answer) (s : State) → Waits s → Answers (by a answer s)) where
      reacts_each : (reaction : Reaction) (items : List Activation) (s : State) → IsAsked source reaction.code
          → ((a : Activation) → Was source.class a.unit → Begins reaction.code.part reaction.code.frames reaction.code.code (entry_of a.unit (Some (unit_of event))) b)
          → All (λ (x : Activation). Was source.class x.unit) items → Waits s → Answers (reacting_to_each event by reaction items s)
      unfolding reacting_to_each
      reacts_each reaction [] s asked begins all w = well_idle KeepsBudget Waits s w
      reacts_each reaction (a ∷ more) s asked begins all w =
          let r = reacting_to event by reaction a s in
          well_then KeepsBudget Waits r (reacting_to_each event by reaction more) r.end refl
          (asks source reaction.code (entry_of a.unit (Some (unit_of event))) (by a) s there asked (begins a (All-head (λ (x : Activation). Was source.class x.unit) a more all)) w (reacts a))
          (reacts_each reaction more r.state asked begins (All-tail (λ (x : Activation). Was source.class x.unit) a more all))

      pub reacts_if : (place : ℕ) (reaction : Option Reaction) (s : State) → slice_get plan.sources place ≡ Some source → ((x : Reaction) → reaction ≡ Some x → IsAsked source x.code)
          → ((x : Reaction) → reaction ≡ Some x → any_match plan.schema x.clauses event ≡ true → (a : Activation) → Was source.class a.unit → Begins x.code.part x.code.frames x.code.code (entry_of a.unit (Some (unit_of event))) b)
          → Waits s → Answers (reacting plan.schema event place by reaction s)
      reacts_if place None s is asked begins w = well_idle KeepsBudget Waits s w
      reacts_if place (Some reaction) s is asked begins w =
          by_test (any_match plan.schema reaction.clauses event) (reacting_to_each event by reaction (pending_for s.agenda place) s) (idle s)
          (λ matched. reacts_each reaction (pending_for s.agenda place) s (asked reaction refl) (begins reaction refl matched) (suit_place place source (pending_of s.agenda) is w.waiting) w)
          (well_idle KeepsBudget Waits s w)

    -- ---- what a source asks

    module _ (source : Source) (there : Contains plan.sources source) where
      -- what a source asks about the event begins with what fits its part
      pub require_begins : (c : Checked) → source.require ≡ Some c → any_match plan.schema source.triggers event ≡ true → Begins c.part c.frames c.code (entry_of (unit_of event) None) b
      require_begins c same matched =
          let made = made_of source there in
          let was = event_was plan.schema sound.schema b source.class source.triggers event made.law.triggers here matched in
          begins_with plan.schema b c (entry_of (unit_of event) None) fits.schema (codes_of source there c (inr (inl same))) (made.require c same)
          (fits_require plan.schema b c.part source.class (unit_of event) (made.law.require c same) was)

      pub obviate_asked : (x : Reaction) → source.obviate ≡ Some x → IsAsked source x.code
      obviate_asked x same = inr (inr (inl (ap (option_map code_of) same)))

      pub retrigger_asked : (x : Reaction) → source.retrigger ≡ Some x → IsAsked source x.code
      retrigger_asked x same = inr (inr (inr (ap (option_map code_of) same)))

      pub obviate_begins : (x : Reaction) → source.obviate ≡ Some x → any_match plan.schema x.clauses event ≡ true → (a : Activation) → Was source.class a.unit → Begins x.code.part x.code.frames x.code.code (entry_of a.unit (Some (unit_of event))) b
      obviate_begins x same matched a was =
          let made = made_of source there in
          let other = event_was plan.schema sound.schema b x.class x.clauses event (made.law.obviate.clauses x same) here matched in
          begins_with plan.schema b x.code (entry_of a.unit (Some (unit_of event))) fits.schema (codes_of source there x.code (inr (obviate_asked x same))) (made.obviate x same)
          (fits_obviate plan.schema b x.code.part source.class x.class a.unit (unit_of event) (made.law.obviate.code x same) was other)

      pub retrigger_begins : (x : Reaction) → source.retrigger ≡ Some x → any_match plan.schema x.clauses event ≡ true → (a : Activation) → Was source.class a.unit → Begins x.code.part x.code.frames x.code.code (entry_of a.unit (Some (unit_of event))) b
      retrigger_begins x same matched a was =
          let made = made_of source there in
          let other = event_was plan.schema sound.schema b x.class x.clauses event (made.law.retrigger.clauses x same) here matched in
          begins_with plan.schema b x.code (entry_of a.unit (Some (unit_of event))) fits.schema (codes_of source there x.code (inr (retrigger_asked x same))) (made.retrigger x same)
          (fits_retrigger plan.schema b x.code.part source.class x.class a.unit (unit_of event) (made.law.retrigger.code x same) was other)

    -- ---- what triggers a source

    module _ (place : ℕ) (source : Source) (is : slice_get plan.sources place ≡ Some source) (there : Contains plan.sources source) where
      -- the event's unit suits the source
      new_suits : Was source.class (unit_of event) → (agenda : Agenda) (base : ℤ) → SuitsSource plan b (new_activation agenda place (unit_of event) base)
      new_suits was agenda base other at =
          let one : Some source ≡ Some other = sym is ∙ at in
          let same : source ≡ other = cc in
          subst (λ (x : Source). Was x.class (unit_of event)) same was

      triggering_was : any_match plan.schema source.triggers event ≡ true → Was source.class (unit_of event)
      triggering_was matched = event_was plan.schema sound.schema b source.class source.triggers event (made_of source there).law.triggers here matched

      activates : (base : ℤ) (s : State) → Was source.class (unit_of event) → Waits s → Answers (activating event place base s)
      activates base s was w =
          let a = new_activation s.agenda place (unit_of event) base in
          by_test (is_full s.agenda) (over finishes.Full s) (emitting (Triggered a ∷ []) (with_agenda s (with_activation s.agenda place (unit_of event) base)) None)
          (λ full. well_over KeepsBudget Waits finishes.Full s tt w)
          (well_one KeepsBudget Waits (Triggered a) (with_agenda s (with_activation s.agenda place (unit_of event) base)) tt
          (record {
            board = w.board;
            waiting = subst (All (SuitsSource plan b)) (sym (pending_added s.agenda place (unit_of event) base)) (All-last (SuitsSource plan b) (pending_of s.agenda) a w.waiting (new_suits was s.agenda base));
          }))

      requires_by : (answer : Answer) (s : State) → Was source.class (unit_of event) → Waits s → Answers (required_by event place answer s)
      requires_by (answers.Rated base) s was w = activates base s was w
      requires_by answers.Declined s was w = well_one KeepsBudget Waits (Declined place (unit_of event)) s tt w
      requires_by answers.Yes s was w = well_one KeepsBudget Waits (Declined place (unit_of event)) s tt w
      requires_by answers.No s was w = well_one KeepsBudget Waits (Declined place (unit_of event)) s tt w
      requires_by answers.Done s was w = well_one KeepsBudget Waits (Declined place (unit_of event)) s tt w

      triggers : (code : Option Checked) (s : State) → source.require ≡ code → any_match plan.schema source.triggers event ≡ true → Waits s → Answers (triggering event place source.rate code s)
      triggers None s same matched w = activates source.rate s (triggering_was matched) w
      triggers (Some c) s same matched w =
          asks source c (entry_of (unit_of event) None) (required_by event place) s there (inl same) (require_begins source there c same matched) w
          (λ answer t. requires_by answer t (triggering_was matched))

      triggers_if : (s : State) → Waits s → Answers (if_triggered plan.schema event place source s)
      triggers_if s w =
          by_test (any_match plan.schema source.triggers event) (triggering event place source.rate source.require s) (idle s)
          (λ matched. triggers source.require s refl matched w)
          (well_idle KeepsBudget Waits s w)

      pub source_answers : (s : State) → Waits s → Answers (source_response plan.schema event place source s)
      source_answers s w =
          let first = reacting plan.schema event place obviated_by source.obviate s in
          well_then KeepsBudget Waits first (λ t. and_then (reacting plan.schema event place rerated_by source.retrigger t) (if_triggered plan.schema event place source)) first.end refl
          (reacts_if obviated_by source there obviates place source.obviate s is (obviate_asked source there) (obviate_begins source there) w)
          (λ waits. let second = reacting plan.schema event place rerated_by source.retrigger first.state in
          well_then KeepsBudget Waits second (if_triggered plan.schema event place source) second.end refl
          (reacts_if rerated_by source there rerates place source.retrigger first.state is (retrigger_asked source there) (retrigger_begins source there) waits) (triggers_if second.state))

    -- ---- sources in order

    answers_by : (place : ℕ) (sources : List Source) (s : State) → ((i : ℕ) → slice_get plan.sources (place + i) ≡ slice_get sources i) → All (Contains plan.sources) sources → Waits s → Answers (response_by plan.schema event place sources s)
    unfolding response_by
    answers_by place [] s at all w = well_idle KeepsBudget Waits s w
    answers_by place (source ∷ more) s at all w =
        let r = source_response plan.schema event place source s in
        let none : place ≡ place + zero = omega arith in
        let is : slice_get plan.sources place ≡ Some source = ap (slice_get plan.sources) none ∙ at zero in
        well_then KeepsBudget Waits r (response_by plan.schema event (place + 1) more) r.end refl
        (source_answers place source is (All-head (Contains plan.sources) source more all) s w)
        (answers_by (place + 1) more r.state
        (λ i. let one : place + 1 + i ≡ place + suc i = omega arith in ap (slice_get plan.sources) one ∙ at (suc i))
        (All-tail (Contains plan.sources) source more all))

    pub all_answer : (s : State) → Waits s → Answers (response plan event s)
    all_answer s w =
        answers_by 0 plan.sources s (λ i. let none : 0 + i ≡ i = omega arith in ap (slice_get plan.sources) none) (All-contains_itself plan.sources) w

  -- events in order, a segment each
  pub processes_all : (events : List Event) (s : State) → All (IsEventOf plan.schema b) events → Waits s → GoesWell (All KeepsBudget) Waits (processing_all plan events s)
  unfolding processing_all
  processes_all [] s here w = well_idle (All KeepsBudget) Waits s w
  processes_all (event ∷ events) s here w =
      let p = processing plan event s in
      well_then (All KeepsBudget) Waits p (processing_all plan events) p.end refl
      (well_segment Waits (response plan event s) (all_answer event (All-head (IsEventOf plan.schema b) event events here) s w))
      (processes_all events p.state (All-tail (IsEventOf plan.schema b) event events here))
