-- A cycle that ends with a native due, and then the answer to it, come to what the cycle does in which a native inside
-- asks the same.
use Rattle.std.proofs.Common.{◌≡◌, ℕ, ℤ, List, [], ◌∷◌, ◌++◌, slice_get, Option, Some, None, refl, sym, ap, subst, ◌∙◌, append_assoc}
use Rattle.std.specs.Prelude.{option_and_then}
use Rattle.bb_agenda.specs.declared.focusing.activation.Activation.{Activation}
use Rattle.bb_rules.specs.declared.source.Act.{Act}
use Rattle.bb_rules.specs.declared.source.Act.TheVariants as acts
use Rattle.bb_trace.specs.Ask.{Ask}
use Rattle.bb_trace.specs.End.{End}
use Rattle.bb_trace.specs.End as finishes
use Rattle.bb_trace.specs.Native.{Native}
use Rattle.bb_trace.specs.Roster.{after_act_at, asks_at, place_of}
use Rattle.bb_trace.specs.Sight.{sight_of}
use Rattle.bb_rules.specs.Parts.{Source}
use Rattle.bb_trace.specs.declared.note.Note.{Note}
use Rattle.bb_trace.specs.declared.note.Note.TheVariants.{NativeEnded}
use Rattle.bb_run_plan.specs.Plan.{Plan}
use Rattle.bb_run.specs.declared.execution.Verdict.{Verdict}
use Rattle.bb_run.specs.declared.execution.Verdict.TheVariants as verdicts
use Rattle.bb_run.specs.Asking.{attempt, entry_of}
use Rattle.bb_run.specs.Emission.{Stretch, after_emitted, and_then, segment}
use Rattle.bb_run.specs.Order.{all_of, notes_of}
use Rattle.bb_run.specs.Processing.{reported}
use Rattle.bb_run.specs.Run.{acting, asked, calling, chosen_with, cycle, execution, if_valid, rating, validity}
use Rattle.bb_run.specs.State.{State, with_board, with_natives}
use Rattle.bb_run.specs.Turns.{answering}
use Rattle.bb_run.specs.Unstuck.{NotDue}
use Rattle.bb_run.proofs.natives.DueLemmas.{IsPlainVerdict, answered_not_due, asked_not_due, plain_verdict, reports_not_due}
use Rattle.bb_run.proofs.natives.NativesApart.{asked_apart, beside, reported_apart}
use Rattle.bb_run.proofs.notes.OrderlyParts.{all_of_two}

module _ (plan : Plan) (natives : List Native) (asks : List Ask) where
  -- the first stretch, and the answer then, come to what the second does, but for its natives
  pub record ComesTo (p w : Stretch) : Type 0 where
    pub notes : notes_of p ++ notes_of (answering plan asks p.state) ≡ notes_of w
    pub end : (answering plan asks p.state).end ≡ w.end
    pub state : (answering plan asks p.state).state ≡ with_natives w.state (answering plan asks p.state).state.natives

  -- there is a native inside for this source, which asks this for the unit of the activation in a state
  pub record AsksInside (source : Source) (a : Activation) (s : State) : Type 0 where
    pub place : ℕ
    pub there : place_of natives source.name ≡ Some place
    pub same : asks_at natives place a.unit (sight_of s.board) ≡ asks

  module _ (a b : Activation) (source : Source) where
    -- it is called
    calls : (o : Option ℕ) (s : State) → let p = reported plan (calling o a s) in p.end ≡ Some (finishes.Due b) → AsksInside source a p.state
        → ComesTo p (reported plan (calling (place_of natives source.name) a (with_natives s natives)))
    calls None s is inside =
        let after = after_act_at natives inside.place a.unit (sight_of s.board) in
        let q = answering plan asks s in
        let whole : reported plan (calling (place_of natives source.name) a (with_natives s natives)) ≡ beside after q =
        ap (λ o. reported plan (calling o a (with_natives s natives))) inside.there
        ∙ (ap (λ xs. reported plan (asked (λ n. NativeEnded n) xs (with_natives s after))) inside.same
        ∙ reported_apart after plan (asked (λ n. NativeEnded n) asks) (asked_apart after (λ n. NativeEnded n) asks) s) in
        subst (ComesTo (reported plan (calling None a s))) (sym whole) (record { notes = refl; end = refl; state = refl })
    calls (Some place) s is inside =
        let seen = sight_of s.board in
        absurd (subst NotDue is (reports_not_due plan (calling (Some place) a s)
        (asked_not_due (λ n. NativeEnded n) (asks_at s.natives place a.unit seen) (with_natives s (after_act_at s.natives place a.unit seen)))))

    acts_by : (act : Act) (s : State) → let p = reported plan (execution source.name act a s) in p.end ≡ Some (finishes.Due b) → AsksInside source a p.state
        → ComesTo p (reported plan (execution source.name act a (with_natives s natives)))
    acts_by (acts.Code body) s is inside =
        let e = attempt body.code (entry_of a.unit None) s.board in
        absurd (subst NotDue is (reports_not_due plan (execution source.name (acts.Code body) a s) (answered_not_due body.code (with_board s e.1) e.0)))
    acts_by acts.Native s is inside = calls (place_of s.natives source.name) s is inside

  acts_at : (a b : Activation) (source : Option Source) (s : State) → let p = acting plan source a s in p.end ≡ Some (finishes.Due b) → ((x : Source) → source ≡ Some x → AsksInside x a p.state)
      → ComesTo p (acting plan source a (with_natives s natives))
  acts_at a b None s is inside = absurd cc
  acts_at a b (Some source) s is inside = acts_by a b source source.act s is (inside source refl)

  -- behind what was emitted before
  comes_after : (emitted : List (List Note)) (p w : Stretch) → ComesTo p w → ComesTo (after_emitted emitted p) (after_emitted emitted w)
  comes_after emitted p w c = record {
    notes = ap (λ l. l ++ notes_of (answering plan asks p.state)) (all_of_two emitted p.emitted)
        ∙ (append_assoc (all_of emitted) (notes_of p) (notes_of (answering plan asks p.state))
        ∙ (ap (λ l. all_of emitted ++ l) c.notes ∙ sym (all_of_two emitted w.emitted)));
    end = c.end;
    state = c.state;
  }

  -- by the verdict on the activation
  by_verdict : (number : ℕ) (a b : Activation) (r : ℤ) (source : Option Source) (v : Verdict) (s : State) → IsPlainVerdict v
      → let p = and_then (segment (chosen_with number a r v s)) (acting plan (if_valid v source) a) in p.end ≡ Some (finishes.Due b) → ((x : Source) → source ≡ Some x → AsksInside x a p.state)
      → ComesTo p (and_then (segment (chosen_with number a r v (with_natives s natives))) (acting plan (if_valid v source) a))
  by_verdict number a b r source verdicts.Valid s plain is inside =
      let q = chosen_with number a r verdicts.Valid s in
      comes_after (q.emitted ∷ []) (acting plan source a q.state) (acting plan source a (with_natives q.state natives)) (acts_at a b source q.state is inside)
  by_verdict number a b r source verdicts.Invalid s plain is inside = absurd cc
  by_verdict number a b r source (verdicts.Over end) s plain is inside = absurd (subst NotDue is (plain end refl))

  pub cycle_outside : (number : ℕ) (a b : Activation) (s : State) → let p = cycle plan number a s in p.end ≡ Some (finishes.Due b)
      → ((x : Source) → slice_get plan.sources a.source ≡ Some x → AsksInside x a p.state) → ComesTo p (cycle plan number a (with_natives s natives))
  cycle_outside number a b s is inside =
      let source = slice_get plan.sources a.source in
      let code = option_and_then (λ t. t.revalidate) source in
      let v = validity code a s.board in
      by_verdict number a b (rating plan s a) source v.0 (with_board s v.1) (plain_verdict code a s.board) is inside
