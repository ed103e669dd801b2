-- No more activations are pending than may be.
use Rattle.std.proofs.Common.{◌≡◌, ◌≤◌, ◌<◌, ℕ, ◌+◌, ℤ, Bool, true, false, cond, List, [], ◌∷◌, ◌++◌, length, filter, map, Option, Some, None, Result, Ok, Err, sym, subst, arith, length-append}
use Rattle.std.specs.Prelude.{nat_le}
use Rattle.std.proofs.lemmas.Bool.{leb-false, or_parts}
use Rattle.std.proofs.lemmas.List.{length-map}
use Rattle.bb_agenda.specs.declared.focusing.activation.Activation.{Activation}
use Rattle.bb_agenda.specs.Agenda.{Agenda, is_full, pending_of}
use Rattle.bb_agenda.specs.Changes.{new_activation, other_than, rebased, with_activation, with_base, with_executed, with_obviated}
use Rattle.bb_agenda.proofs.Laws.{pending_added, pending_executed, pending_obviated, pending_rebased}
use Rattle.bb_code.specs.Code.{Code}
use Rattle.bb_machine.specs.declared.outcome.Outcome.{Outcome}
use Rattle.bb_machine.specs.declared.outcome.Stop.{Stop}
use Rattle.bb_rules.specs.declared.source.Act.{Act}
use Rattle.bb_rules.specs.declared.source.Act.TheVariants as acts
use Rattle.bb_trace.specs.Ask.{Ask}
use Rattle.bb_trace.specs.Board.{Board as Blackboard}
use Rattle.bb_trace.specs.Native.{Native}
use Rattle.bb_trace.specs.Roster.{after_act_at, asks_at, place_of}
use Rattle.bb_trace.specs.Sight.{sight_of}
use Rattle.bb_trace.specs.End.{End}
use Rattle.bb_trace.specs.declared.note.Note.TheVariants.{NativeEnded}
use Rattle.bb_run_plan.specs.Plan.{Plan}
use Rattle.bb_run.specs.declared.execution.Verdict.{Verdict}
use Rattle.bb_run.specs.declared.execution.Verdict.TheVariants as verdicts
use Rattle.bb_run.specs.State.{State, with_board, with_natives}
use Rattle.bb_run.specs.Emission.{Response, and_then_unless, emitting}
use Rattle.bb_run.specs.Asking.{attempt, entry_of}
use Rattle.bb_run.specs.Run.{answered, calling, chosen_with, each_applied, execution, run}
use Rattle.bb_run.proofs.rules.AskRule.{HoldsOfAsks, asks_hold}
use Rattle.bb_run.proofs.rules.ResponseRule.{HoldsOfParts, holds}
use Rattle.bb_run.proofs.rules.StateRule.{IsKept, kept_then, run_keeps}

-- no more are pending than may be
abbrev pub HasFew : Agenda → Type 0
HasFew agenda = length (pending_of agenda) ≤ 65536

-- ---- changes of the agenda

one_less : (b : Bool) (a : Activation) (xs ys : List Activation) → length ys ≤ length xs → length (cond b (a ∷ ys) ys) ≤ length (a ∷ xs)
one_less true a xs ys le = omega arith
one_less false a xs ys le = omega arith

no_more : (p : Activation → Bool) (xs : List Activation) → length (filter p xs) ≤ length xs
no_more p [] = omega arith
no_more p (a ∷ xs) = one_less (p a) a xs (filter p xs) (no_more p xs)

without_one : (agenda later : Agenda) (number : ℕ) → pending_of later ≡ filter (other_than number) (pending_of agenda) → HasFew agenda → HasFew later
without_one agenda later number left few =
    let less = no_more (other_than number) (pending_of agenda) in
    subst (λ l. length l ≤ 65536) (sym left) (let here : length (filter (other_than number) (pending_of agenda)) ≤ 65536 = omega (arith, less, few) in here)

with_one : (agenda : Agenda) (source unit : ℕ) (base : ℤ) → is_full agenda ≡ false → HasFew (with_activation agenda source unit base)
with_one agenda source unit base room =
    let a = new_activation agenda source unit base in
    let under : length (pending_of agenda) < 65536 = leb-false 65536 (length (pending_of agenda)) (or_parts (nat_le 65536 (length (pending_of agenda))) (nat_le 9223372036854775807 (length agenda.given)) room).0 in
    let count : length (pending_of agenda ++ a ∷ []) ≡ length (pending_of agenda) + 1 = length-append (pending_of agenda) (a ∷ []) in
    subst (λ l. length l ≤ 65536) (sym (pending_added agenda source unit base)) (let here : length (pending_of agenda ++ a ∷ []) ≤ 65536 = omega (arith, under, count) in here)

with_other_base : (agenda : Agenda) (number : ℕ) (base : ℤ) → HasFew agenda → HasFew (with_base agenda number base)
with_other_base agenda number base few =
    let same : length (map (rebased number base) (pending_of agenda)) ≡ length (pending_of agenda) = length-map (pending_of agenda) (rebased number base) in
    subst (λ l. length l ≤ 65536) (sym (pending_rebased agenda number base)) (let here : length (map (rebased number base) (pending_of agenda)) ≤ 65536 = omega (arith, same, few) in here)

-- ---- each part of a run

module _ (plan : Plan) where
  abbrev StaysFew : State → Response → Type 0
  StaysFew s r = HasFew s.agenda → HasFew r.state.agenda

  few_then : (s : State) (r : Response) (next : State → Response) (end : Option End) → StaysFew s r → StaysFew r.state (next r.state) → StaysFew s (and_then_unless end r next)
  few_then s r next (Some e) first rest few = first few
  few_then s r next None first rest few = rest (first few)

  response_parts : HoldsOfParts plan StaysFew
  response_parts = record {
    nothing = λ s few. few;
    full = λ s is few. few;
    stopped = λ s code entry stop of came few. few;
    went_on = λ s code entry r of stays few. stays few;
    triggered = λ s source unit base under room few. with_one s.agenda source unit base room;
    declined = λ s source unit few. few;
    obviated = λ s number few. without_one s.agenda (with_obviated s.agenda number) number (pending_obviated s.agenda number) few;
    rebased = λ s number base few. with_other_base s.agenda number base few;
    further = λ s r next first rest few. few_then s r next r.end first rest few;
  }

  ask_parts : (asks : List Ask) → HoldsOfAsks asks StaysFew
  ask_parts asks = record {
    nothing = λ s few. few;
    changed = λ s ask b is few. few;
    refused = λ s number refusal few. few;
    full = λ s ask there is few. few;
    no_memory = λ s ask is few. few;
    further = λ s r next first rest few. few_then s r next r.end first rest few;
  }

  abbrev Few : State → Type 0
  Few s = HasFew s.agenda

  calls : (place : Option ℕ) (a : Activation) (s : State) → Few s → Few (calling place a s).state
  calls None a s few = few
  calls (Some place) a s few =
      let seen = sight_of s.board in
      let asks = asks_at s.natives place a.unit seen in
      let t = with_natives s (after_act_at s.natives place a.unit seen) in
      let r = each_applied 1 asks t in
      kept_then plan Few r (λ u. emitting (NativeEnded (length asks) ∷ []) u None) r.end (asks_hold asks StaysFew (ask_parts asks) t few) (λ u there. there)

  answered_few : (body : Code) (s : State) (r : Result Outcome Stop) → Few s → Few (answered body s r).state
  answered_few body s (Ok o) few = few
  answered_few body s (Err stop) few = few

  executes : (name : List ℕ) (act : Act) (a : Activation) (s : State) → Few s → Few (execution name act a s).state
  executes name (acts.Code body) a s few = let e = attempt body.code (entry_of a.unit None) s.board in answered_few body.code (with_board s e.1) e.0 few
  executes name acts.Native a s few = calls (place_of s.natives name) a s few

  chooses : (number : ℕ) (a : Activation) (r : ℤ) (v : Verdict) (s : State) → Few s → Few (chosen_with number a r v s).state
  chooses number a r verdicts.Valid s few = without_one s.agenda (with_executed s.agenda a.number) a.number (pending_executed s.agenda a.number) few
  chooses number a r verdicts.Invalid s few = without_one s.agenda (with_obviated s.agenda a.number) a.number (pending_obviated s.agenda a.number) few
  chooses number a r (verdicts.Over end) s few = few

  few_kept : IsKept plan Few
  few_kept = record {
    events = λ event s few. holds plan StaysFew response_parts event s few;
    executes = executes;
    asks = λ source a s is few. few;
    chooses = chooses;
  }

  pub run_has_few : (board : Blackboard) (natives : List Native) (limit : ℕ) → HasFew (run plan board natives limit).state.agenda
  run_has_few board natives limit = run_keeps plan Few few_kept board natives (let none : 0 ≤ 65536 = omega arith in none) limit
