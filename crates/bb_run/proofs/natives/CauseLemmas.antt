-- A run that ends full or stuck, or with a native due, has a cause.
use Rattle.std.proofs.Common.{◌≡◌, true, inl, inr, ℕ, zero, suc, ◌+◌, ℤ, List, [], ◌∷◌, length, slice_get, Option, Some, None, Result, Ok, Err, refl, sym, subst}
use Rattle.std.specs.Prelude.{Contains, nat_le, option_and_then}
use Rattle.std.proofs.lemmas.Bool.{leb-true, or_cases}
use Rattle.std.proofs.lemmas.Option.{get_or_from_slice_get}
use Rattle.bb_basis.proofs.AppendLemmas.{some_within}
use Rattle.bb_trace.specs.Event.{Event}
use Rattle.bb_trace.specs.Event.TheVariants.{Quiescence as quiescence}
use Rattle.bb_trace.specs.Board.{Board as Blackboard}
use Rattle.bb_agenda.specs.declared.focusing.activation.Activation.{Activation}
use Rattle.bb_agenda.specs.Agenda.{Agenda, is_full, pending_of}
use Rattle.bb_verify.specs.Accepted.{Checked}
use Rattle.bb_machine.specs.declared.outcome.Answer.{Answer}
use Rattle.bb_machine.specs.declared.outcome.Answer.TheVariants as answers
use Rattle.bb_machine.specs.declared.outcome.Entry.{Entry}
use Rattle.bb_machine.specs.declared.outcome.Outcome.{Outcome}
use Rattle.bb_machine.specs.declared.outcome.Stop.{Stop}
use Rattle.bb_machine.specs.declared.outcome.Stop.TheVariants as stops
use Rattle.bb_rules.specs.declared.source.Act.{Act}
use Rattle.bb_rules.specs.declared.source.Act.TheVariants as acts
use Rattle.bb_trace.specs.Ask.{Ask}
use Rattle.bb_trace.specs.Native.{Native}
use Rattle.bb_trace.specs.Roster.{after_act_at, asks_at, place_of}
use Rattle.bb_trace.specs.Sight.{Sight, sight_of}
use Rattle.bb_trace.specs.declared.note.Note.TheVariants.{NativeEnded}
use Rattle.bb_trace.proofs.Laws.{applied_full, applied_no_memory}
use Rattle.bb_rules.specs.Parts.{Source}
use Rattle.bb_trace.specs.End.{End}
use Rattle.bb_trace.specs.End as finishes
use Rattle.bb_run_plan.specs.Plan.{Plan}
use Rattle.bb_run.specs.declared.execution.Verdict.{Verdict}
use Rattle.bb_run.specs.declared.execution.Verdict.TheVariants as verdicts
use Rattle.bb_run.specs.State.{State, with_board, with_natives}
use Rattle.bb_run.specs.Emission.{Response, Emission, emitting, over, and_then, and_then_unless, segment}
use Rattle.bb_run.specs.Asking.{attempt, end_by, entry_of, reply_by}
use Rattle.bb_run.specs.Processing.{events_in, processing, processing_all, reported, response}
use Rattle.bb_run.specs.Run.{rating, choice, wait, wait_for, noted, answered, calling, each_applied, execution, acting, verdict_by, verdict_of, validity, chosen_with, if_valid, cycle, if_chosen, cycles, first_state, start, run}
use Rattle.bb_theorem_machine.proofs.Laws.{activation_full, activation_no_memory}
use Rattle.bb_theorem_machine.specs.Units.{is_full as no_unit_left}
use Rattle.bb_verify.specs.Budget.{budget}
use Rattle.bb_verify.specs.declared.checked.TheConstants.{FOUND_LIMIT}
use Rattle.bb_run.specs.Causes.{IsFull, WasStopped, of_agenda, of_ask, of_units, of_execution, of_native, HasCause}
use Rattle.bb_run.proofs.rules.AskRule.{HoldsOfAsks, asks_hold}
use Rattle.bb_run.proofs.rules.ResponseRule.{HoldsOfParts, OfPlan, holds}

-- ---- an item at a place is one of the list

there_at : {X : Type 0} (xs : List X) (i : ℕ) (x : X) → slice_get xs i ≡ Some x → Contains xs x
there_at xs i x is = (i, some_within xs i x is, get_or_from_slice_get xs i x x is)

-- a full agenda is one by the numbers
full_by : (agenda : Agenda) → is_full agenda ≡ true → IsFull agenda
full_by agenda full =
    elim (or_cases (nat_le 65536 (length (pending_of agenda))) (nat_le 9223372036854775807 (length agenda.given)) full) [
      | inl many ↦ inl (leb-true 65536 (length (pending_of agenda)) many)
      | inr last ↦ inr (leb-true 9223372036854775807 (length agenda.given) last)
    ]

module _ (plan : Plan) where
  -- a part of a run has a cause, if the run ends in it
  abbrev pub IsCaused : {X : Type 0} → Emission X → Type 0
  IsCaused p = HasCause plan p.state p.end

  caused_then : {X : Type 0} (p : Emission X) (next : State → Emission X) (end : Option End) → p.end ≡ end → IsCaused p → IsCaused (next p.state) → IsCaused (and_then_unless end p next)
  caused_then p next (Some e) is first rest = first
  caused_then p next None is first rest = rest

  -- what an execution that was stopped as full left has no room for a unit more
  full_has_no_unit : (b : Blackboard) (steps found : ℕ) → WasStopped plan b (stops.Full steps found) → no_unit_left b.world.units ≡ true
  full_has_no_unit b steps found was =
      let full = activation_full (budget was.code.code FOUND_LIMIT) was.code.code was.entry was.before steps found was.came in
      elim was.left [
        | inl same ↦ subst (λ (x : Blackboard). no_unit_left x.world.units ≡ true) (sym same) full
        | inr same ↦ subst (λ (x : Blackboard). no_unit_left x.world.units ≡ true) (sym same) full
      ]

  by_stop : (s : State) (stop : Stop) → WasStopped plan s.board stop → HasCause plan s (Some (end_by stop))
  by_stop s (stops.Full steps found) was = of_units steps found was (full_has_no_unit s.board steps found was)
  by_stop s (stops.Stuck reason steps found) was = of_execution reason steps found was
  by_stop s stops.Memory was = absurd (activation_no_memory (budget was.code.code FOUND_LIMIT) was.code.code was.entry was.before was.came)

  -- ---- what answers to an event

  abbrev Caused : State → Response → Type 0
  Caused s r = IsCaused r

  stopped_by : (code : Checked) (entry : Entry) (stop : Stop) (board : Blackboard) → OfPlan plan Caused code → (attempt code.code entry board).0 ≡ Err stop → WasStopped plan (attempt code.code entry board).1 stop
  stopped_by code entry stop board of came = record { source = of.0; one = of.1; code = code; part = inr of.2; entry = entry; before = board; came = came; left = inl refl }

  response_parts : HoldsOfParts plan Caused
  response_parts = record {
    nothing = λ s. tt;
    full = λ s is. of_agenda (full_by s.agenda is);
    stopped = λ s code entry stop of came. by_stop (with_board s (attempt code.code entry s.board).1) stop (stopped_by code entry stop s.board of came);
    went_on = λ s code entry r of caused. caused;
    triggered = λ s source unit base under room. tt;
    declined = λ s source unit. tt;
    obviated = λ s number. tt;
    rebased = λ s number base. tt;
    further = λ s r next first rest. caused_then r next r.end refl first rest;
  }

  responds : (event : Event) (s : State) → IsCaused (response plan event s)
  responds event s = holds plan Caused response_parts event s

  processes_all : (events : List Event) (s : State) → IsCaused (processing_all plan events s)
  unfolding processing_all
  processes_all [] s = tt
  processes_all (event ∷ events) s = let p = processing plan event s in caused_then p (processing_all plan events) p.end refl (responds event s) (processes_all events p.state)

  reports : (r : Response) → IsCaused r → IsCaused (reported plan r)
  reports r first = caused_then (segment r) (processing_all plan (events_in r.emitted)) r.end refl first (processes_all (events_in r.emitted) r.state)

  -- ---- a cycle

  module _ (source : Source) (a : Activation) (s : State) (is_at : slice_get plan.sources a.source ≡ Some source) where
    source_there : Contains plan.sources source
    source_there = there_at plan.sources a.source source is_at

    executes : (code : Checked) (r : Result Outcome Stop) → source.act ≡ acts.Code code → let e = attempt code.code (entry_of a.unit None) s.board in e.0 ≡ r → IsCaused (answered code.code (with_board s e.1) r)
    executes code (Ok o) is came = tt
    executes code (Err stop) is came =
        by_stop (answered code.code (with_board s (attempt code.code (entry_of a.unit None) s.board).1) (Err stop)).state stop
        (record { source = source; one = source_there; code = code; part = inl is; entry = entry_of a.unit None; before = s.board; came = came; left = inr refl })

    -- an ask finds no room for a unit more
    module _ (native : source.act ≡ acts.Native) (before : List Native) (place : ℕ) (placed : place_of before source.name ≡ Some place) (seen : Sight) where
      abbrev asked : List Ask
      asked = asks_at before place a.unit seen

      -- while asks are applied the natives are those after the call
      record Applies (t : State) (r : Response) : Type 0 where
        natives : t.natives ≡ after_act_at before place a.unit seen → r.state.natives ≡ after_act_at before place a.unit seen
        cause : t.natives ≡ after_act_at before place a.unit seen → IsCaused r

      applies_then : (t : State) (r : Response) (next : State → Response) (end : Option End) → r.end ≡ end → Applies t r → Applies r.state (next r.state) → Applies t (and_then_unless end r next)
      applies_then t r next (Some e) is first rest = first
      applies_then t r next None is first rest = record { natives = λ same. rest.natives (first.natives same); cause = λ same. rest.cause (first.natives same) }

      ask_parts : HoldsOfAsks asked Applies
      ask_parts = record {
        nothing = λ t. record { natives = λ same. same; cause = λ same. tt };
        changed = λ t ask b is. record { natives = λ same. same; cause = λ same. tt };
        refused = λ t number refusal. record { natives = λ same. same; cause = λ same. tt };
        full = λ t ask there' came. record {
          natives = λ same. same;
          cause = λ same. of_ask (record {
            source = source;
            one = source_there;
            native = native;
            before = before;
            place = place;
            place_is = placed;
            unit = a.unit;
            seen = seen;
            after = same;
            ask = ask;
            asked = there';
            came = came;
          }) (applied_full ask t.board came);
        };
        no_memory = λ t ask came. absurd (applied_no_memory ask t.board came);
        further = λ t r next first rest. applies_then t r next r.end refl first rest;
      }

    calls : (place : Option ℕ) → source.act ≡ acts.Native → place_of s.natives source.name ≡ place → IsCaused (calling place a s)
    calls None native is = of_native a (source, is_at, native, is)
    calls (Some place) native is =
        let seen = sight_of s.board in
        let asks = asks_at s.natives place a.unit seen in
        let t = with_natives s (after_act_at s.natives place a.unit seen) in
        let r = each_applied 1 asks t in
        caused_then r (λ u. emitting (NativeEnded (length asks) ∷ []) u None) r.end refl
        ((asks_hold asks (Applies native s.natives place is seen) (ask_parts native s.natives place is seen) t).cause refl) tt

    acts_by : (act : Act) → source.act ≡ act → IsCaused (reported plan (execution source.name act a s))
    acts_by (acts.Code code) is =
        let e = attempt code.code (entry_of a.unit None) s.board in
        reports (answered code.code (with_board s e.1) e.0) (executes code e.0 is refl)
    acts_by acts.Native is = reports (calling (place_of s.natives source.name) a s) (calls (place_of s.natives source.name) is refl)

  acts_at : (source : Option Source) (a : Activation) (s : State) → slice_get plan.sources a.source ≡ source → IsCaused (acting plan source a s)
  acts_at None a s is = tt
  acts_at (Some source) a s is = acts_by source a s is source.act refl

  -- a choice has a cause for its end, if its verdict has
  abbrev VerdictCaused : Verdict → Blackboard → Type 0
  VerdictCaused v board = (s : State) (end : End) → v ≡ verdicts.Over end → s.board ≡ board → HasCause plan s (Some end)

  not_over : (answer : Answer) (board : Blackboard) → VerdictCaused (verdict_of answer) board
  not_over answers.No board s end is same = absurd cc
  not_over answers.Yes board s end is same = absurd cc
  not_over answers.Done board s end is same = absurd cc
  not_over answers.Declined board s end is same = absurd cc
  not_over (answers.Rated base) board s end is same = absurd cc

  verdict_caused : (source : Source) (code : Checked) (a : Activation) (before : Blackboard) (r : Result Outcome Stop) → Contains plan.sources source → source.revalidate ≡ Some code
      → (attempt code.code (entry_of a.unit None) before).0 ≡ r → VerdictCaused (verdict_by (reply_by r)) (attempt code.code (entry_of a.unit None) before).1
  verdict_caused source code a before (Ok o) there part came = not_over o.answer (attempt code.code (entry_of a.unit None) before).1
  verdict_caused source code a before (Err stop) there part came = λ s end is same.
      let ends : end_by stop ≡ end = cc in
      subst (λ e. HasCause plan s (Some e)) ends (by_stop s stop
      (record { source = source; one = there; code = code; part = inr (inr (inl part)); entry = entry_of a.unit None; before = before; came = came; left = inl same }))

  validity_caused : (source : Source) (code : Option Checked) (a : Activation) (before : Blackboard) → Contains plan.sources source → source.revalidate ≡ code → let v = validity code a before in VerdictCaused v.0 v.1
  validity_caused source None a before there part = λ s end is same. absurd cc
  validity_caused source (Some code) a before there part = verdict_caused source code a before (attempt code.code (entry_of a.unit None) before).0 there part refl

  by_source : (source : Option Source) (a : Activation) (before : Blackboard) → slice_get plan.sources a.source ≡ source → let v = validity (option_and_then (λ t. t.revalidate) source) a before in VerdictCaused v.0 v.1
  by_source None a before is = λ s end over' same. absurd cc
  by_source (Some source) a before is = validity_caused source source.revalidate a before (there_at plan.sources a.source source is) refl

  chooses : (number : ℕ) (a : Activation) (r : ℤ) (v : Verdict) (s : State) → VerdictCaused v s.board → IsCaused (segment (chosen_with number a r v s))
  chooses number a r verdicts.Valid s caused = tt
  chooses number a r verdicts.Invalid s caused = tt
  chooses number a r (verdicts.Over end) s caused = caused s end refl refl

  goes_if_valid : (v : Verdict) (source : Option Source) (a : Activation) (s : State) → slice_get plan.sources a.source ≡ source → IsCaused (acting plan (if_valid v source) a s)
  goes_if_valid verdicts.Valid source a s is = acts_at source a s is
  goes_if_valid verdicts.Invalid source a s is = tt
  goes_if_valid (verdicts.Over end) source a s is = tt

  cycle_caused : (number : ℕ) (a : Activation) (s : State) → IsCaused (cycle plan number a s)
  cycle_caused number a s =
      let source = slice_get plan.sources a.source in
      let v = validity (option_and_then (λ t. t.revalidate) source) a s.board in
      let t = with_board s v.1 in
      let p = segment (chosen_with number a (rating plan s a) v.0 t) in
      caused_then p (acting plan (if_valid v.0 source) a) p.end refl (chooses number a (rating plan s a) v.0 t (by_source source a s.board refl)) (goes_if_valid v.0 source a p.state refl)

  -- ---- the whole run

  waits : (s : State) (c : Option Activation) → IsCaused (wait_for plan s c)
  waits s None = responds quiescence s
  waits s (Some a) = tt

  last : (t : State) (c : Option Activation) → IsCaused (if_chosen t c (λ a. over finishes.Limit t))
  last t None = tt
  last t (Some a) = tt

  next_cycle : (made left : ℕ) (t : State) (c : Option Activation) → ((s : State) → IsCaused (cycles plan (made + 1) left s)) → IsCaused (if_chosen t c (λ a. and_then (cycle plan (made + 1) a t) (cycles plan (made + 1) left)))
  next_cycle made left t None rest = tt
  next_cycle made left t (Some a) rest = let p = cycle plan (made + 1) a t in caused_then p (cycles plan (made + 1) left) p.end refl (cycle_caused (made + 1) a t) (rest p.state)

  cycles_caused : (made left : ℕ) (s : State) → IsCaused (cycles plan made left s)
  unfolding cycles
  cycles_caused made zero s =
      let p = wait plan s in
      caused_then p (λ t. if_chosen t (choice plan t) (λ a. over finishes.Limit t)) p.end refl (waits s (choice plan s)) (last p.state (choice plan p.state))
  cycles_caused made (suc left) s =
      let p = wait plan s in
      caused_then p (λ t. if_chosen t (choice plan t) (λ a. and_then (cycle plan (made + 1) a t) (cycles plan (made + 1) left))) p.end refl (waits s (choice plan s))
      (next_cycle made left p.state (choice plan p.state) (λ t. cycles_caused (made + 1) left t))

  pub run_has_cause : (board : Blackboard) (natives : List Native) (limit : ℕ) → let p = run plan board natives limit in HasCause plan p.state p.end
  run_has_cause board natives limit =
      let first : State = first_state plan board natives in
      let p = start plan board natives in
      caused_then p (cycles plan 0 limit) p.end refl (reports (noted first [] None) tt) (cycles_caused 0 limit p.state)
