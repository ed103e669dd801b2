-- No cycle, and no wait before one, ends a run by quiescence or by its limit.
use Rattle.std.proofs.Common.{◌≡◌, ℕ, ℤ, List, [], ◌∷◌, length, slice_get, Option, Some, None, Result, Ok, Err, refl}
use Rattle.std.specs.Prelude.{option_and_then}
use Rattle.bb_trace.specs.Event.{Event}
use Rattle.bb_trace.specs.Event.TheVariants.{Quiescence as quiescence}
use Rattle.bb_agenda.specs.declared.focusing.activation.Activation.{Activation}
use Rattle.bb_code.specs.Code.{Code}
use Rattle.bb_machine.specs.declared.outcome.Outcome.{Outcome}
use Rattle.bb_machine.specs.declared.outcome.Stop.{Stop}
use Rattle.bb_rules.specs.declared.source.Act.{Act}
use Rattle.bb_rules.specs.declared.source.Act.TheVariants as acts
use Rattle.bb_trace.specs.Ask.{Ask}
use Rattle.bb_trace.specs.Roster.{after_act_at, asks_at, place_of}
use Rattle.bb_trace.specs.Sight.{sight_of}
use Rattle.bb_trace.specs.declared.note.Note.TheVariants.{NativeEnded}
use Rattle.bb_rules.specs.Parts.{Source}
use Rattle.bb_trace.specs.End.{End}
use Rattle.bb_run_plan.specs.Plan.{Plan}
use Rattle.bb_run.specs.declared.execution.Verdict.{Verdict}
use Rattle.bb_run.specs.declared.execution.Verdict.TheVariants as verdicts
use Rattle.bb_run.specs.State.{State, with_board, with_natives}
use Rattle.bb_run.specs.Asking.{attempt, entry_of}
use Rattle.bb_run.specs.Emission.{Emission, Response, and_then_unless, emitting, segment}
use Rattle.bb_run.specs.Processing.{events_in, processing, processing_all, reported, response}
use Rattle.bb_run.specs.Run.{rating, choice, wait, wait_for, answered, calling, each_applied, execution, acting, if_valid, chosen_with, cycle, validity}
use Rattle.bb_run.proofs.notes.OrderlyParts.{IsEarly, IsEarlyVerdict, early_end, early_verdict}
use Rattle.bb_run.proofs.rules.AskRule.{HoldsOfAsks, asks_hold}
use Rattle.bb_run.proofs.rules.ResponseRule.{HoldsOfParts, holds}

-- a part and the next, in the state that it leaves
early_after : {X : Type 0} (p : Emission X) (next : State → Emission X) (end : Option End) → p.end ≡ end → IsEarly p.end → IsEarly (next p.state).end → IsEarly (and_then_unless end p next).end
early_after p next (Some e) is first rest = first
early_after p next None is first rest = rest

-- a part and the next
pub early_then : {X : Type 0} (p : Emission X) (next : State → Emission X) (end : Option End) → p.end ≡ end → IsEarly p.end → ((s : State) → IsEarly (next s).end) → IsEarly (and_then_unless end p next).end
early_then p next (Some e) is early rest = early
early_then p next None is early rest = rest p.state

-- ---- executions

answered_early : (code : Code) (s : State) (r : Result Outcome Stop) → IsEarly (answered code s r).end
answered_early code s (Ok o) = tt
answered_early code s (Err stop) = early_end stop

asks_early : (asks : List Ask) → HoldsOfAsks asks (λ s r. IsEarly r.end)
asks_early asks = record {
  nothing = λ s. tt;
  changed = λ s ask b is. tt;
  refused = λ s number refusal. tt;
  full = λ s ask there is. tt;
  no_memory = λ s ask is. tt;
  further = λ s r next first rest. early_after r next r.end refl first rest;
}

calls_early : (place : Option ℕ) (a : Activation) (s : State) → IsEarly (calling place a s).end
calls_early None a s = tt
calls_early (Some place) a s =
    let seen = sight_of s.board in
    let asks = asks_at s.natives place a.unit seen in
    let t = with_natives s (after_act_at s.natives place a.unit seen) in
    let r = each_applied 1 asks t in
    early_after r (λ u. emitting (NativeEnded (length asks) ∷ []) u None) r.end refl (asks_hold asks (λ u q. IsEarly q.end) (asks_early asks) t) tt

pub executed_early : (name : List ℕ) (act : Act) (a : Activation) (s : State) → IsEarly (execution name act a s).end
executed_early name (acts.Code body) a s = let e = attempt body.code (entry_of a.unit None) s.board in answered_early body.code (with_board s e.1) e.0
executed_early name acts.Native a s = calls_early (place_of s.natives name) a s

module _ (plan : Plan) where
  -- ---- what answers to events

  early_parts : HoldsOfParts plan (λ s r. IsEarly r.end)
  early_parts = record {
    nothing = λ s. tt;
    full = λ s is. tt;
    stopped = λ s code entry stop of came. early_end stop;
    went_on = λ s code entry r of early. early;
    triggered = λ s source unit base under room. tt;
    declined = λ s source unit. tt;
    obviated = λ s number. tt;
    rebased = λ s number base. tt;
    further = λ s r next first rest. early_after r next r.end refl first rest;
  }

  pub response_early : (event : Event) (s : State) → IsEarly (response plan event s).end
  response_early event s = holds plan (λ t r. IsEarly r.end) early_parts event s

  pub processes_early : (events : List Event) (s : State) → IsEarly (processing_all plan events s).end
  unfolding processing_all
  processes_early [] s = tt
  processes_early (event ∷ events) s =
      let p = processing plan event s in
      early_then p (processing_all plan events) p.end refl (response_early event s) (λ t. processes_early events t)

  pub reports_early : (r : Response) → IsEarly r.end → IsEarly (reported plan r).end
  reports_early r early = early_then (segment r) (processing_all plan (events_in r.emitted)) r.end refl early (λ t. processes_early (events_in r.emitted) t)

  acts_early : (source : Option Source) (a : Activation) (s : State) → IsEarly (acting plan source a s).end
  acts_early None a s = tt
  acts_early (Some source) a s = reports_early (execution source.name source.act a s) (executed_early source.name source.act a s)

  chooses_early : (number : ℕ) (a : Activation) (r : ℤ) (v : Verdict) (s : State) → IsEarlyVerdict v → IsEarly (chosen_with number a r v s).end
  chooses_early number a r verdicts.Valid s early = tt
  chooses_early number a r verdicts.Invalid s early = tt
  chooses_early number a r (verdicts.Over end) s early = early end refl

  pub cycle_early : (number : ℕ) (a : Activation) (s : State) → IsEarly (cycle plan number a s).end
  cycle_early number a s =
      let source = slice_get plan.sources a.source in
      let code = option_and_then (λ t. t.revalidate) source in
      let v = validity code a s.board in
      let p = segment (chosen_with number a (rating plan s a) v.0 (with_board s v.1)) in
      early_then p (acting plan (if_valid v.0 source) a) p.end refl (chooses_early number a (rating plan s a) v.0 (with_board s v.1) (early_verdict code a s.board))
      (λ t. acts_early (if_valid v.0 source) a t)

  waits_early : (s : State) (c : Option Activation) → IsEarly (wait_for plan s c).end
  waits_early s None = response_early quiescence s
  waits_early s (Some a) = tt

  pub wait_early : (s : State) → IsEarly (wait plan s).end
  wait_early s = waits_early s (choice plan s)
