-- Each cycle of a run goes on orderly after the notes before it.
use Rattle.std.proofs.Common.{◌≡◌, ◌<◌, ℕ, zero, suc, ℤ, ◌+◌, List, [], ◌∷◌, ◌++◌, length, map, slice_get, Option, Some, None, Result, Ok, Err, refl, sym, ap, subst, ◌∙◌, append_assoc, arith}
use Rattle.std.specs.Prelude.{Contains, option_and_then}
use Rattle.std.proofs.lemmas.List.{append-nil}
use Rattle.std.proofs.lemmas.List.Elements.{All-contains}
use Rattle.bb_trace.specs.Board.{Board as Blackboard}
use Rattle.bb_agenda.specs.declared.focusing.activation.Activation.{Activation}
use Rattle.bb_agenda.specs.Agenda.{next_number, pending_of}
use Rattle.bb_code.specs.Code.{Code}
use Rattle.bb_verify.specs.Budget.{budget}
use Rattle.bb_machine.specs.declared.outcome.Outcome.{Outcome}
use Rattle.bb_machine.specs.declared.outcome.Stop.{Stop}
use Rattle.bb_rules.specs.declared.source.Act.{Act}
use Rattle.bb_rules.specs.declared.source.Act.TheVariants as acts
use Rattle.bb_rules.specs.Parts.{Source}
use Rattle.bb_trace.specs.Ask.{Ask}
use Rattle.bb_trace.specs.End.{End}
use Rattle.bb_trace.specs.End as finishes
use Rattle.bb_trace.specs.declared.note.Note.{Note}
use Rattle.bb_trace.specs.declared.note.Note.TheVariants.{Board, Chosen, Invalid, Ended, Refused, NativeEnded}
use Rattle.bb_trace.specs.Native.{Native}
use Rattle.bb_trace.specs.Roster.{after_act_at, asks_at, place_of}
use Rattle.bb_trace.specs.Sight.{sight_of}
use Rattle.bb_run_plan.specs.Plan.{Plan}
use Rattle.bb_run.specs.declared.execution.Verdict.{Verdict}
use Rattle.bb_run.specs.declared.execution.Verdict.TheVariants as verdicts
use Rattle.bb_run.specs.State.{State, with_board, with_natives}
use Rattle.bb_run.specs.Emission.{Response, emitting, and_then, and_then_unless, segment}
use Rattle.bb_run.specs.Asking.{attempt, end_by, entry_of}
use Rattle.bb_run.specs.Processing.{reported}
use Rattle.bb_run.specs.Run.{rating, calling, each_applied, with_notes_taken, noted, answered, execution, acting, chosen_with, if_valid, cycle, validity}
use Rattle.bb_run.specs.Order.{notes_of, chosen_in}
use Rattle.bb_run.proofs.rules.OrderLemmas.{comes_none, comes_one, comes_then}
use Rattle.bb_run.proofs.notes.PendingLemmas.{IsKnown, stands_silent, stands_emitted, stands_executed, stands_invalid}
use Rattle.bb_run.proofs.rules.AskRule.{HoldsOfAsks, asks_hold}
use Rattle.bb_run.proofs.notes.OrderlyParts.{May, MayChoose, Agrees, Keeps, Emits, agrees_silent, keeps_none, responds_then, emits_one, keeps_more, Responds, comes_board, agrees_board, reports, IsEarly, early_end, IsEarlyVerdict, early_verdict}

module _ (plan : Plan) (board : Blackboard) (natives : List Native) where
  -- ---- what the blackboard noted

  -- nothing more is emitted
  pub keeps_board : (past : List Note) (made before executed : ℕ) (s : State) (end : Option End) → IsEarly end → (end ≡ None → before ≡ executed) → Agrees plan board natives past made before s.agenda → Responds plan board natives past made executed (noted s [] end)
  keeps_board past made before executed s end early same stands =
      let notes = map Board s.board.world.notes in
      let later = agrees_board plan board natives past s.board.world.notes made before s.agenda stands in
      subst (λ l. Keeps plan board natives past l made executed (with_notes_taken s) end) (sym (append-nil notes)) (record {
        comes = comes_board plan board natives past s.board.world.notes;
        cycles = later.cycles;
        stands = λ none. stands_emitted (length plan.sources) (past ++ notes) made executed s.agenda (with_notes_taken s).agenda.foci (subst (λ n. Agrees plan board natives (past ++ notes) made n s.agenda) (same none) later);
        early = early;
      })

  -- the end of an execution is emitted too
  keeps_ended : (past : List Note) (made steps found allowed : ℕ) (s : State) → Agrees plan board natives past (made + 1) made s.agenda → Responds plan board natives past (made + 1) (made + 1) (noted s (Ended steps found allowed ∷ []) None)
  keeps_ended past made steps found allowed s stands =
      let notes = map Board s.board.world.notes in
      let note : Note = Ended steps found allowed in
      let emitted = agrees_board plan board natives past s.board.world.notes (made + 1) made s.agenda stands in
      let ended = stands_silent (length plan.sources) (past ++ notes) (made + 1) made s.agenda emitted (note ∷ []) 1 (record { none_triggered = refl; none_chosen = refl; none_gone = refl; same_pending = λ pending. refl }) refl in
      let later = subst (λ l. Agrees plan board natives l (made + 1) (made + 1) s.agenda) (append_assoc past notes (note ∷ [])) ended in
      record {
        comes = comes_then (May plan board natives) past notes (note ∷ []) (comes_board plan board natives past s.board.world.notes) (comes_one (May plan board natives) (past ++ notes) note (sym (ap (λ n. n + 1) emitted.executions) ∙ emitted.cycles));
        cycles = later.cycles;
        stands = λ none. stands_emitted (length plan.sources) (past ++ (notes ++ note ∷ [])) (made + 1) (made + 1) s.agenda (with_notes_taken s).agenda.foci later;
        early = tt;
      }

  -- ---- a cycle

  -- where the run is over it does not matter how many cycles are
  keeps_over : (past notes : List Note) (made executed other : ℕ) (s : State) (end : Option End) (e : End) → end ≡ Some e → Keeps plan board natives past notes made executed s end → Keeps plan board natives past notes made other s end
  keeps_over past notes made executed other s end e is p = record { comes = p.comes; cycles = p.cycles; stands = λ none. absurd (let no : Some e ≡ None = sym is ∙ none in cc); early = p.early }

  -- the notes of asks leave a cycle open
  abbrev Asks : State → Response → Type 0
  Asks s r = (past : List Note) (made : ℕ) → Agrees plan board natives past (made + 1) made s.agenda → Responds plan board natives past (made + 1) made r

  ask_parts : (asks : List Ask) → HoldsOfAsks asks Asks
  ask_parts asks = record {
    nothing = λ s past made stands. keeps_none plan board natives past (made + 1) made s None tt stands;
    changed = λ s ask b is past made stands. keeps_board past (made + 1) made made (with_board s b) None tt (λ none. refl) stands;
    refused = λ s number refusal past made stands.
        let note : Note = Refused number refusal in
        emits_one plan board natives past note (made + 1) made s (sym (ap (λ n. n + 1) stands.executions) ∙ stands.cycles)
        (agrees_silent plan board natives past note (made + 1) made s.agenda (record { none_triggered = refl; none_chosen = refl; none_gone = refl; same_pending = λ pending. refl }) refl stands);
    full = λ s ask there is past made stands. keeps_none plan board natives past (made + 1) made s (Some finishes.Full) tt stands;
    no_memory = λ s ask is past made stands. keeps_none plan board natives past (made + 1) made s (Some finishes.Full) tt stands;
    further = λ s r next first rest past made stands.
        responds_then plan board natives past (made + 1) made r next r.end refl (first past made stands) (λ later. rest (past ++ r.emitted) made later);
  }

  -- after its asks the end of the native's execution is emitted
  native_ends : (asks : ℕ) (r : Response) (past : List Note) (made : ℕ) (end : Option End) → r.end ≡ end → Responds plan board natives past (made + 1) made r
      → Responds plan board natives past (made + 1) (made + 1) (and_then_unless end r (λ t. emitting (NativeEnded asks ∷ []) t None))
  native_ends asks r past made (Some e) is emitted = keeps_over past r.emitted (made + 1) made (made + 1) r.state r.end e is emitted
  native_ends asks r past made None is emitted =
      let note : Note = NativeEnded asks in
      let before = emitted.stands is in
      let ended = stands_silent (length plan.sources) (past ++ r.emitted) (made + 1) made r.state.agenda before (note ∷ []) 1 (record { none_triggered = refl; none_chosen = refl; none_gone = refl; same_pending = λ pending. refl }) refl in
      keeps_more plan board natives past r.emitted (note ∷ []) (made + 1) (made + 1) r.state None emitted.comes
      (emits_one plan board natives (past ++ r.emitted) note (made + 1) (made + 1) r.state (sym (ap (λ n. n + 1) before.executions) ∙ before.cycles) ended)

  calls : (place : Option ℕ) (a : Activation) (s : State) (past : List Note) (made : ℕ) → Agrees plan board natives past (made + 1) made s.agenda → Responds plan board natives past (made + 1) (made + 1) (calling place a s)
  calls None a s past made stands =
      record { comes = comes_none (May plan board natives) past; cycles = stands.cycles ∙ ap (λ l. length (chosen_in l)) (sym (append-nil past)); stands = λ none. absurd cc; early = tt }
  calls (Some place) a s past made stands =
      let seen = sight_of s.board in
      let asks = asks_at s.natives place a.unit seen in
      let t = with_natives s (after_act_at s.natives place a.unit seen) in
      let r = each_applied 1 asks t in
      native_ends (length asks) r past made r.end refl (asks_hold asks Asks (ask_parts asks) t past made stands)

  executes : (code : Code) (s : State) (r : Result Outcome Stop) (past : List Note) (made : ℕ) → Agrees plan board natives past (made + 1) made s.agenda → Responds plan board natives past (made + 1) (made + 1) (answered code s r)
  executes code s (Ok o) past made stands = keeps_ended past made o.steps o.found (budget code o.found) s stands
  executes code s (Err stop) past made stands = keeps_board past (made + 1) made (made + 1) s (Some (end_by stop)) (early_end stop) (λ none. absurd cc) stands

  -- the execution of an act
  pub act_executes : (name : List ℕ) (act : Act) (a : Activation) (s : State) (past : List Note) (made : ℕ) → Agrees plan board natives past (made + 1) made s.agenda
      → Responds plan board natives past (made + 1) (made + 1) (execution name act a s)
  act_executes name (acts.Code body) a s past made stands = let e = attempt body.code (entry_of a.unit None) s.board in executes body.code (with_board s e.1) e.0 past made stands
  act_executes name acts.Native a s past made stands = calls (place_of s.natives name) a s past made stands

  acts_by : (name : List ℕ) (act : Act) (a : Activation) (s : State) (past : List Note) (made : ℕ) → Agrees plan board natives past (made + 1) made s.agenda
      → Emits plan board natives past (made + 1) (made + 1) (reported plan (execution name act a s))
  acts_by name act a s past made stands = reports plan board natives past (made + 1) (made + 1) (execution name act a s) (act_executes name act a s past made stands)

  -- each place within a list has its item
  within_some : {X : Type 0} (xs : List X) (i : ℕ) → i < length xs → slice_get xs i ≡ None → ⊥
  within_some [] i lt none = omega arith
  within_some (x ∷ xs) zero lt none = absurd cc
  within_some (x ∷ xs) (suc i) lt none = within_some xs i (omega arith) none

  acts_at : (source : Option Source) (a : Activation) (s : State) (past : List Note) (made : ℕ) → slice_get plan.sources a.source ≡ source → a.source < length plan.sources → Agrees plan board natives past (made + 1) made s.agenda
      → Emits plan board natives past (made + 1) (made + 1) (acting plan source a s)
  acts_at None a s past made is lt stands = absurd (within_some plan.sources a.source lt is)
  acts_at (Some source) a s past made is lt stands = acts_by source.name source.act a s past made stands

  -- ---- a cycle

  module _ (a : Activation) (r : ℤ) (s : State) (past : List Note) (made : ℕ) (may : MayChoose plan board natives past (made + 1) a r) (there : Contains (pending_of s.agenda) a) (stands : Agrees plan board natives past made made s.agenda) where
    abbrev choosing : Note
    choosing = Chosen (made + 1) a r

    -- what is invalid does not act
    chosen_invalid : Keeps plan board natives past (choosing ∷ Invalid a.number ∷ []) (made + 1) (made + 1) (chosen_with (made + 1) a r verdicts.Invalid s).state None
    chosen_invalid =
        let emitted = stands_invalid (length plan.sources) past made made s.agenda stands (made + 1) a r there in
        let t = (chosen_with (made + 1) a r verdicts.Invalid s).state in
        let ended = stands_silent (length plan.sources) (past ++ choosing ∷ []) (made + 1) made t.agenda emitted (Invalid a.number ∷ []) 1 (record { none_triggered = refl; none_chosen = refl; none_gone = refl; same_pending = λ pending. refl }) refl in
        let later = subst (λ l. Agrees plan board natives l (made + 1) (made + 1) t.agenda) (append_assoc past (choosing ∷ []) (Invalid a.number ∷ [])) ended in
        record {
          comes = comes_then (May plan board natives) past (choosing ∷ []) (Invalid a.number ∷ []) (comes_one (May plan board natives) past choosing may) (comes_one (May plan board natives) (past ++ choosing ∷ []) (Invalid a.number) (sym (ap (λ n. n + 1) emitted.executions) ∙ emitted.cycles));
          cycles = later.cycles;
          stands = λ none. later;
          early = tt;
        }

    -- by the verdict on it
    chosen_by_verdict : (source : Option Source) (v : Verdict) → IsEarlyVerdict v → slice_get plan.sources a.source ≡ source
        → Emits plan board natives past (made + 1) (made + 1) (and_then (segment (chosen_with (made + 1) a r v s)) (acting plan (if_valid v source) a))
    chosen_by_verdict source verdicts.Valid early is =
        let t = (chosen_with (made + 1) a r verdicts.Valid s).state in
        let p = acting plan source a t in
        keeps_more plan board natives past (choosing ∷ []) (notes_of p) (made + 1) (made + 1) p.state p.end (comes_one (May plan board natives) past choosing may)
        (acts_at source a t (past ++ choosing ∷ []) made is (All-contains (IsKnown (next_number s.agenda) (length plan.sources)) (pending_of s.agenda) a stands.known there).source
        (stands_executed (length plan.sources) past made made s.agenda stands (made + 1) a r there))
    chosen_by_verdict source verdicts.Invalid early is = chosen_invalid
    chosen_by_verdict source (verdicts.Over end) early is = record {
      comes = comes_one (May plan board natives) past choosing may;
      cycles = (stands_executed (length plan.sources) past made made s.agenda stands (made + 1) a r there).cycles;
      stands = λ none. absurd cc;
      early = early end refl;
    }

  -- the choice, and what its source does
  pub cycles_once : (a : Activation) (s : State) (past : List Note) (made : ℕ) → MayChoose plan board natives past (made + 1) a (rating plan s a) → Contains (pending_of s.agenda) a → Agrees plan board natives past made made s.agenda → Emits plan board natives past (made + 1) (made + 1) (cycle plan (made + 1) a s)
  cycles_once a s past made may there stands =
      let source = slice_get plan.sources a.source in
      let code = option_and_then (λ t. t.revalidate) source in
      let v = validity code a s.board in
      chosen_by_verdict a (rating plan s a) (with_board s v.1) past made may there stands source v.0 (early_verdict code a s.board) refl
