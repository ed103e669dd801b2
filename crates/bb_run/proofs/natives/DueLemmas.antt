-- Where no source lacks a native, no run ends with one due; and none comes due between cycles.
use Rattle.std.proofs.Common.{◌≡◌, ◌∙◌, ℕ, List, [], ◌∷◌, length, map, slice_get, Option, Some, None, Result, Ok, Err, refl, ap, subst, sym}
use Rattle.std.specs.Prelude.{Contains, position}
use Rattle.std.specs.List.{AllZip}
use Rattle.std.specs.Str.{bytes_eq}
use Rattle.std.proofs.lemmas.Option.{slice_get_within, get_or_from_slice_get}
use Rattle.bb_basis.proofs.ListLemmas.{position-map}
use Rattle.bb_agenda.specs.declared.focusing.activation.Activation.{Activation}
use Rattle.bb_code.specs.Code.{Code}
use Rattle.bb_verify.specs.Accepted.{Checked}
use Rattle.bb_machine.specs.declared.outcome.Answer.{Answer}
use Rattle.bb_machine.specs.declared.outcome.Answer.TheVariants as answers
use Rattle.bb_machine.specs.declared.outcome.Outcome.{Outcome}
use Rattle.bb_machine.specs.declared.outcome.Stop.{Stop}
use Rattle.bb_machine.specs.declared.outcome.Stop.TheVariants as stops
use Rattle.bb_trace.specs.Ask.{Ask}
use Rattle.bb_trace.specs.Board.{Board as Blackboard}
use Rattle.bb_trace.specs.End.{End}
use Rattle.bb_trace.specs.End as finishes
use Rattle.bb_trace.specs.Event.{Event}
use Rattle.bb_trace.specs.Event.TheVariants.{Quiescence as quiescence}
use Rattle.bb_trace.specs.Native.{Native}
use Rattle.bb_trace.specs.Roster.{place_of}
use Rattle.bb_trace.specs.declared.note.Note.{Note}
use Rattle.bb_run_plan.specs.Plan.{Plan}
use Rattle.bb_run.specs.declared.execution.Verdict.{Verdict}
use Rattle.bb_run.specs.declared.execution.Verdict.TheVariants as verdicts
use Rattle.bb_run.specs.Asking.{attempt, end_by, entry_of, reply_by}
use Rattle.bb_run.specs.Causes.{Cause, HasCause, LacksNative, LacksNativeFor, of_agenda, of_ask, of_execution, of_native, of_units}
use Rattle.bb_run.specs.Emission.{Emission, Response, and_then_unless, emitting, over, segment}
use Rattle.bb_run.specs.Order.{IsLike}
use Rattle.bb_run.specs.Processing.{events_in, processing, processing_all, reported, response}
use Rattle.bb_run.specs.Run.{answered, asked, choice, cycles, each_applied, if_chosen, run, validity, verdict_by, verdict_of, wait, wait_for}
use Rattle.bb_run.specs.State.{State}
use Rattle.bb_run.specs.Turns.{settled}
use Rattle.bb_run.specs.Unstuck.{NotDue}
use Rattle.bb_run.proofs.rules.AskRule.{HoldsOfAsks, asks_hold}
use Rattle.bb_run.proofs.natives.CauseLemmas.{run_has_cause}
use Rattle.bb_run.proofs.natives.ClosedLemmas.{run_closes_each}
use Rattle.bb_run.proofs.rules.ResponseRule.{HoldsOfParts, holds}

-- ---- between cycles

not_due_then : {X : Type 0} (p : Emission X) (next : State → Emission X) (end : Option End) → p.end ≡ end → NotDue p.end → NotDue (next p.state).end → NotDue (and_then_unless end p next).end
not_due_then p next (Some e) is first rest = first
not_due_then p next None is first rest = rest

by_stop : (stop : Stop) → NotDue (Some (end_by stop))
by_stop (stops.Full steps found) = tt
by_stop (stops.Stuck reason steps found) = tt
by_stop stops.Memory = tt

-- an execution, and what is asked about a choice
pub answered_not_due : (code : Code) (s : State) (r : Result Outcome Stop) → NotDue (answered code s r).end
answered_not_due code s (Ok o) = tt
answered_not_due code s (Err stop) = by_stop stop

abbrev pub IsPlainVerdict : Verdict → Type 0
IsPlainVerdict v = (end : End) → v ≡ verdicts.Over end → NotDue (Some end)

plain_of : (answer : Answer) → IsPlainVerdict (verdict_of answer)
plain_of answers.No end is = absurd cc
plain_of answers.Yes end is = absurd cc
plain_of answers.Done end is = absurd cc
plain_of answers.Declined end is = absurd cc
plain_of (answers.Rated base) end is = absurd cc

plain_by : (r : Result Outcome Stop) → IsPlainVerdict (verdict_by (reply_by r))
plain_by (Ok o) end is = plain_of o.answer end is
plain_by (Err stop) end is = let same : end_by stop ≡ end = cc in subst (λ e. NotDue (Some e)) same (by_stop stop)

pub plain_verdict : (code : Option Checked) (a : Activation) (b : Blackboard) → IsPlainVerdict (validity code a b).0
plain_verdict None a b end is = absurd cc
plain_verdict (Some code) a b end is = plain_by (attempt code.code (entry_of a.unit None) b).0 end is

-- asks
asks_plain : (asks : List Ask) → HoldsOfAsks asks (λ s r. NotDue r.end)
asks_plain asks = record {
  nothing = λ s. tt;
  changed = λ s ask b is. tt;
  refused = λ s number refusal. tt;
  full = λ s ask there is. tt;
  no_memory = λ s ask is. tt;
  further = λ s r next first rest. not_due_then r next r.end refl first rest;
}

pub asked_not_due : (last : ℕ → Note) (asks : List Ask) (s : State) → NotDue (asked last asks s).end
asked_not_due last asks s =
    let r = each_applied 1 asks s in
    not_due_then r (λ t. emitting (last (length asks) ∷ []) t None) r.end refl (asks_hold asks (λ u q. NotDue q.end) (asks_plain asks) s) tt

module _ (plan : Plan) where
  abbrev IsPlain : State → Response → Type 0
  IsPlain s r = NotDue r.end

  parts : HoldsOfParts plan IsPlain
  parts = record {
    nothing = λ s. tt;
    full = λ s is. tt;
    stopped = λ s code entry stop of came. by_stop stop;
    went_on = λ s code entry r of not. not;
    triggered = λ s source unit base under room. tt;
    declined = λ s source unit. tt;
    obviated = λ s number. tt;
    rebased = λ s number base. tt;
    further = λ s r next first rest. not_due_then r next r.end refl first rest;
  }

  responds : (event : Event) (s : State) → NotDue (response plan event s).end
  responds event s = holds plan IsPlain parts event s

  waits : (s : State) (c : Option Activation) → NotDue (wait_for plan s c).end
  waits s None = responds quiescence s
  waits s (Some a) = tt

  last : (t : State) (c : Option Activation) → NotDue (if_chosen t c (λ a. over finishes.Limit t)).end
  last t None = tt
  last t (Some a) = tt

  processes_not_due : (events : List Event) (s : State) → NotDue (processing_all plan events s).end
  unfolding processing_all
  processes_not_due [] s = tt
  processes_not_due (event ∷ events) s =
      let p = processing plan event s in
      not_due_then p (processing_all plan events) p.end refl (responds event s) (processes_not_due events p.state)

  -- nor after a response that leaves none
  pub reports_not_due : (r : Response) → NotDue r.end → NotDue (reported plan r).end
  reports_not_due r not = not_due_then (segment r) (processing_all plan (events_in r.emitted)) r.end refl not (processes_not_due (events_in r.emitted) r.state)

  rests : (made : ℕ) (s : State) → NotDue (cycles plan made 0 s).end
  unfolding cycles
  rests made s =
      let p = wait plan s in
      not_due_then p (λ t. if_chosen t (choice plan t) (λ a. over finishes.Limit t)) p.end refl (waits s (choice plan s)) (last p.state (choice plan p.state))

  -- a run that its host ends, where none was due
  pub settled_not_due : (made : ℕ) (end : Option End) (s : State) → NotDue end → NotDue (settled plan made end s).end
  settled_not_due made None s not = rests made s
  settled_not_due made (Some end) s not = not

-- ---- a whole run

there_at : {X : Type 0} (xs : List X) (i : ℕ) (x : X) → slice_get xs i ≡ Some x → Contains xs x
there_at xs i x is = (i, slice_get_within xs i x is, get_or_from_slice_get xs i x x is)

abbrev names : List Native → List (List ℕ)
names natives = map (λ (n : Native). n.name) natives

place_by_name : (natives : List Native) (name : List ℕ) → position (λ one. bytes_eq one name) (names natives) ≡ place_of natives name
place_by_name natives name = position-map (λ one. bytes_eq one name) (λ (n : Native). n.name) natives

-- natives that are alike have the same names, and the same places
same_names : (natives left : List Native) → AllZip IsLike natives left → names left ≡ names natives
same_names [] [] like = refl
same_names [] (m ∷ left) like = absurd like
same_names (n ∷ natives) [] like = absurd like
same_names (n ∷ natives) (m ∷ left) like = ap (λ (x : Native). x.name ∷ names left) like.0.1 ∙ ap (λ l. n.name ∷ l) (same_names natives left like.1)

same_place : (natives left : List Native) (name : List ℕ) → AllZip IsLike natives left → place_of left name ≡ place_of natives name
same_place natives left name like = sym (place_by_name left name) ∙ (ap (position (λ one. bytes_eq one name)) (same_names natives left like) ∙ place_by_name natives name)

module _ (plan : Plan) (natives : List Native) (given : ¬ LacksNative plan natives) where
  lacks_none : (s : State) (a : Activation) → AllZip IsLike natives s.natives → LacksNativeFor plan s.natives a → ⊥
  lacks_none s a like l = given (l.0, there_at plan.sources a.source l.0 l.1, l.2, sym (same_place natives s.natives l.0.name like) ∙ l.3)

  by_cause : (s : State) {end : End} → AllZip IsLike natives s.natives → Cause plan s end → NotDue (Some end)
  by_cause s like (of_agenda full) = tt
  by_cause s like (of_units steps found was none) = tt
  by_cause s like (of_ask was none) = tt
  by_cause s like (of_execution reason steps found was) = tt
  by_cause s like (of_native a lacks) = lacks_none s a like lacks

  pub not_due : (s : State) (end : Option End) → AllZip IsLike natives s.natives → HasCause plan s end → NotDue end
  not_due s None like cause = tt
  not_due s (Some finishes.Quiescence) like cause = tt
  not_due s (Some finishes.Limit) like cause = tt
  not_due s (Some finishes.Full) like cause = tt
  not_due s (Some (finishes.Due a)) like cause = by_cause s like cause
  not_due s (Some (finishes.Stuck reason)) like cause = tt

pub run_not_due : (plan : Plan) (board : Blackboard) (natives : List Native) (limit : ℕ) → ¬ LacksNative plan natives → NotDue (run plan board natives limit).end
run_not_due plan board natives limit given =
    let p = run plan board natives limit in
    not_due plan natives given p.state p.end (run_closes_each plan board natives limit).left (run_has_cause plan board natives limit)
