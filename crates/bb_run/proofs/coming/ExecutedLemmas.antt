-- What comes after a choice is what its cycle emits.
use Rattle.std.proofs.Common.{◌≡◌, ◌<◌, ◌≤◌, inl, inr, ℕ, ◌+◌, ◌-◌, ℤ, List, [], ◌∷◌, ◌++◌, length, slice_get, Option, Some, None, refl, sym, ap, subst, ◌∙◌, append_assoc, arith, length-append}
use Rattle.std.proofs.lemmas.List.{append-nil, append_cancel_left, append_cancel_right}
use Rattle.bb_basis.proofs.AppendLemmas.{there_is}
use Rattle.bb_trace.specs.Board.{Board as Blackboard}
use Rattle.bb_agenda.specs.declared.focusing.activation.Activation.{Activation}
use Rattle.bb_rules.specs.Parts.{Source}
use Rattle.bb_trace.specs.End.{End}
use Rattle.bb_trace.specs.End as finishes
use Rattle.bb_trace.specs.declared.note.Note.{Note}
use Rattle.bb_trace.specs.declared.note.Note.TheVariants.{Chosen}
use Rattle.bb_trace.specs.Native.{Native}
use Rattle.bb_run_plan.specs.Plan.{Plan}
use Rattle.bb_run.specs.declared.execution.Verdict.{Verdict}
use Rattle.bb_run.specs.declared.execution.Verdict.TheVariants as verdicts
use Rattle.bb_run.specs.State.{State, with_board, with_agenda}
use Rattle.bb_run.specs.Emission.{Response, Stretch, and_then, and_then_unless, segment}
use Rattle.bb_run.specs.Processing.{events_in, processing_all}
use Rattle.bb_agenda.specs.Changes.{with_executed}
use Rattle.bb_run.specs.Run.{rating, choice, validity, execution, chosen_with, if_valid, acting, cycle, cycle_of, finish, finish_segments, run}
use Rattle.bb_run.specs.Order.{all_of, notes_of, chosen_in, IsChosenAfter}
use Rattle.bb_run.specs.Executed.{upon_verdict, upon_choice, finish_by, IsFollowed}
use Rattle.bb_run.proofs.notes.PendingLemmas.{chosen_then}
use Rattle.bb_run.proofs.notes.OrderlyParts.{all_of_more, all_of_two}
use Rattle.bb_run.proofs.notes.OrderlyRuns.{run_keeps_limit, run_chooses, source_there}
use Rattle.bb_run.proofs.stretches.LimitLemmas.{BeginsByCycle, GoesFurther, run_goes_further}

pub finish_is : (end : Option End) (natives : List Native) → all_of (finish_segments end natives) ≡ finish_by end natives
finish_is None natives = refl
finish_is (Some end) natives = append-nil (finish end natives)

module _ (plan : Plan) where
  -- what is reported is emitted first, and the finish if the run ends in it
  reported_first : (r : Response) (end : Option End) → r.end ≡ end
      → (rest : List Note) × (let p = and_then_unless end (segment r) (processing_all plan (events_in r.emitted)) in all_of (p.emitted ++ finish_segments p.end p.state.natives) ≡ (r.emitted ++ finish_by r.end r.state.natives) ++ rest)
  reported_first r (Some e) is = ([], ap (λ l. r.emitted ++ l) (finish_is r.end r.state.natives) ∙ sym (append-nil (r.emitted ++ finish_by r.end r.state.natives)))
  reported_first r None is =
      let q = processing_all plan (events_in r.emitted) r.state in
      let rest = all_of (q.emitted ++ finish_segments q.end q.state.natives) in
      (rest, ap (λ l. l ++ rest) (sym (append-nil r.emitted) ∙ ap (λ e. r.emitted ++ finish_by e r.state.natives) (sym is)))

  -- a cycle emits the choice and what comes upon it first, by its verdict
  by_verdict : (source : Source) (v : Verdict) (number : ℕ) (a : Activation) (r : ℤ) (t : State)
      → (rest : List Note) × (let p = and_then (segment (chosen_with number a r v t)) (acting plan (if_valid v (Some source)) a) in let emitted = upon_verdict v source a t in
      all_of (p.emitted ++ finish_segments p.end p.state.natives) ≡ Chosen number a r ∷ ((emitted.emitted ++ finish_by emitted.end emitted.state.natives) ++ rest))
  by_verdict source verdicts.Valid number a r t =
      let e = execution source.name source.act a (with_agenda t (with_executed t.agenda a.number)) in
      let first = reported_first e e.end refl in
      (first.0, ap (λ l. Chosen number a r ∷ l) first.1)
  by_verdict source verdicts.Invalid number a r t = ([], refl)
  by_verdict source (verdicts.Over end) number a r t = ([], refl)

  -- a cycle emits the choice, and then what comes upon it
  cycle_first : (source : Source) (number : ℕ) (a : Activation) (s : State) → slice_get plan.sources a.source ≡ Some source
      → (rest : List Note) × (let p = cycle plan number a s in let emitted = upon_choice source a s in
      all_of (p.emitted ++ finish_segments p.end p.state.natives) ≡ Chosen number a (rating plan s a) ∷ ((emitted.emitted ++ finish_by emitted.end emitted.state.natives) ++ rest))
  cycle_first source number a s is =
      let v = validity source.revalidate a s.board in
      subst
      (λ o. (rest : List Note) × (let p = cycle_of plan number o a s in let emitted = upon_choice source a s in
      all_of (p.emitted ++ finish_segments p.end p.state.natives) ≡ Chosen number a (rating plan s a) ∷ ((emitted.emitted ++ finish_by emitted.end emitted.state.natives) ++ rest)))
      (sym is) (by_verdict source v.0 number a (rating plan s a) (with_board s v.1))

  -- segments that begin with a cycle emit its choice, and then what comes upon it
  followed_by : (number m : ℕ) (a : Activation) (r : ℤ) (s : State) (segments : List (List Note)) (after : List Note) → a.source < length plan.sources → choice plan s ≡ Some a → BeginsByCycle plan m s segments
      → Chosen number a r ∷ after ≡ all_of segments → IsFollowed plan s a after
  followed_by number m a r s segments after there chosen begins is =
      let found = there_is plan.sources a.source there in
      let same : begins.chosen ≡ a = let e = begins.choice_is in cc in
      let p = cycle plan m a s in
      let emitted = upon_choice found.0 a s in
      let parts : segments ≡ (p.emitted ++ finish_segments p.end p.state.natives) ++ begins.more =
      subst (λ x. let q = cycle plan m x s in segments ≡ (q.emitted ++ finish_segments q.end q.state.natives) ++ begins.more) same begins.begins in
      let first = cycle_first found.0 m a s found.1 in
      let rest = first.0 ++ all_of begins.more in
      let all : Chosen number a r ∷ after ≡ Chosen m a (rating plan s a) ∷ (((emitted.emitted ++ finish_by emitted.end emitted.state.natives) ++ first.0) ++ all_of begins.more) =
      is ∙ ap all_of parts ∙ all_of_two (p.emitted ++ finish_segments p.end p.state.natives) begins.more ∙ ap (λ l. l ++ all_of begins.more) first.1 in
      let tail : after ≡ ((emitted.emitted ++ finish_by emitted.end emitted.state.natives) ++ first.0) ++ all_of begins.more = cc in
      record { source = found.0; source_is = found.1; rest = rest; begins = tail ∙ append_assoc (emitted.emitted ++ finish_by emitted.end emitted.state.natives) first.0 (all_of begins.more) }

  -- a choice among the notes of a stretch is one more than those before it
  chosen_more : (notes before after : List Note) (number : ℕ) (a : Activation) (r : ℤ) → notes ≡ before ++ Chosen number a r ∷ after → length (chosen_in before) + 1 ≤ length (chosen_in notes)
  chosen_more notes before after number a r is =
      let all : length (chosen_in notes) ≡ length (chosen_in before ++ (a ∷ chosen_in after)) = ap (λ l. length (chosen_in l)) is ∙ ap length (chosen_then before (Chosen number a r ∷ after)) in
      let count : length (chosen_in before ++ (a ∷ chosen_in after)) ≡ length (chosen_in before) + length (a ∷ chosen_in after) = length-append (chosen_in before) (a ∷ chosen_in after) in
      omega (arith, all, count)

  -- what comes from a choice on: the segments that begin with its cycle, in the last state of the run up to it
  pub record FromChoice (m number : ℕ) (a : Activation) (r : ℤ) (p : Stretch) (after : List Note) : Type 0 where
    pub segments : List (List Note)
    pub begins : BeginsByCycle plan (m + 1) p.state segments
    pub emits : Chosen number a r ∷ after ≡ all_of segments

  -- a run that goes on where another one is over by its limit
  from_choice_by : (number m : ℕ) (a : Activation) (r : ℤ) (p q : Stretch) (before after : List Note) → number ≡ m + 1 → number ≡ length (chosen_in before) + 1 → length (chosen_in (notes_of p)) ≤ m → IsChosenAfter plan p before number a r
      → notes_of q ≡ before ++ Chosen number a r ∷ after → GoesFurther plan (m + 1) p q → FromChoice m number a r p after
  from_choice_by number m a r p q before after is counted few chosen emitted (inl same) =
      let more = chosen_more (notes_of p) before after number a r (ap notes_of (sym same) ∙ emitted) in
      absurd (omega (arith, is, counted, few, more))
  from_choice_by number m a r p q before after is counted few chosen emitted (inr further) =
      let front = further.1.0 in
      let rest = further.1.1.0 in
      let last = finish finishes.Limit p.state.natives in
      let ends : all_of front ++ last ≡ before ++ last = sym (all_of_more front last) ∙ ap all_of (sym further.1.1.1.0) ∙ chosen.emitted in
      let same : all_of front ≡ before = append_cancel_right (all_of front) before last ends in
      let all : before ++ Chosen number a r ∷ after ≡ before ++ all_of rest = sym emitted ∙ ap all_of further.1.1.1.1.0 ∙ all_of_two front rest ∙ ap (λ l. l ++ all_of rest) same in
      record { segments = rest; begins = further.1.1.1.1.1; emits = append_cancel_left before (Chosen number a r ∷ after) (all_of rest) all }

  pub from_choice : (board : Blackboard) (natives : List Native) (limit : ℕ) (before after : List Note) (number : ℕ) (a : Activation) (r : ℤ) → notes_of (run plan board natives limit) ≡ before ++ Chosen number a r ∷ after
      → FromChoice (number - 1) number a r (run plan board natives (number - 1)) after
  from_choice board natives limit before after number a r emitted =
      let m = number - 1 in
      let counted : number ≡ length (chosen_in before) + 1 = (run_chooses plan board natives limit before number a r (after, emitted)).counted in
      let within : length (chosen_in (notes_of (run plan board natives limit))) ≤ limit = (run_keeps_limit plan board natives limit).within in
      let many = chosen_more (notes_of (run plan board natives limit)) before after number a r emitted in
      let one : number ≡ m + 1 = omega (arith, counted) in
      let left : m + (limit - m) ≡ limit = omega (arith, counted, within, many) in
      let further : GoesFurther plan (m + 1) (run plan board natives m) (run plan board natives limit) = subst (λ n. GoesFurther plan (m + 1) (run plan board natives m) (run plan board natives n)) left (run_goes_further plan board natives m (limit - m)) in
      from_choice_by number m a r (run plan board natives m) (run plan board natives limit) before after one counted (run_keeps_limit plan board natives m).within (run_chooses plan board natives limit before number a r (after, emitted)) emitted further

  pub run_is_followed : (board : Blackboard) (natives : List Native) (limit : ℕ) (before after : List Note) (number : ℕ) (a : Activation) (r : ℤ) → notes_of (run plan board natives limit) ≡ before ++ Chosen number a r ∷ after
      → IsFollowed plan (run plan board natives (number - 1)).state a after
  run_is_followed board natives limit before after number a r emitted =
      let p = run plan board natives (number - 1) in
      let from = from_choice board natives limit before after number a r emitted in
      let chosen = run_chooses plan board natives limit before number a r (after, emitted) in
      followed_by number (number - 1 + 1) a r p.state from.segments after (source_there plan board natives limit before number a r (after, emitted)) chosen.choice_is from.begins from.emits
