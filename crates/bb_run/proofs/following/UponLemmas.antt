-- What is emitted upon a choice asks for nothing and answers nothing, and ends the cycle, by what acts emit.
use Rattle.std.proofs.Common.{◌≡◌, inl, inr, ℕ, ◌+◌, List, [], ◌∷◌, ◌++◌, length, map, Option, Some, None, Result, Ok, Err, refl, sym, ap, subst, ◌∙◌}
use Rattle.std.specs.Prelude.{⊤}
use Rattle.std.specs.List.{fold}
use Rattle.std.proofs.lemmas.List.{append-nil}
use Rattle.std.proofs.lemmas.List.Sums.{fold-append}
use Rattle.bb_agenda.specs.declared.focusing.activation.Activation.{Activation}
use Rattle.bb_agenda.specs.Changes.{with_executed}
use Rattle.bb_code.specs.Code.{Code}
use Rattle.bb_machine.specs.declared.outcome.Outcome.{Outcome}
use Rattle.bb_machine.specs.declared.outcome.Stop.{Stop}
use Rattle.bb_verify.specs.Budget.{budget}
use Rattle.bb_rules.specs.declared.source.Act.{Act}
use Rattle.bb_rules.specs.declared.source.Act.TheVariants as deeds
use Rattle.bb_trace.specs.Applied.{applied}
use Rattle.bb_trace.specs.Ask.{Ask}
use Rattle.bb_trace.specs.Board.{Board as Blackboard}
use Rattle.bb_trace.specs.BoardNote.{Note as BoardNote}
use Rattle.bb_trace.specs.Denial.{Denial}
use Rattle.bb_trace.specs.Denial.TheVariants as denials
use Rattle.bb_trace.specs.Roster.{place_of}
use Rattle.bb_rules.specs.Parts.{Source}
use Rattle.bb_trace.specs.End.{End}
use Rattle.bb_trace.specs.declared.note.Note.{Note}
use Rattle.bb_trace.specs.declared.note.Note.TheVariants.{Board, Triggered, Declined, Obviated, Retriggered, Chosen, Invalid, Ended, Refused, NativeEnded, Posted, PostEnded, Finished, Closed}
use Rattle.bb_run_plan.specs.Plan.{Plan}
use Rattle.bb_run.specs.declared.execution.Verdict.{Verdict}
use Rattle.bb_run.specs.declared.execution.Verdict.TheVariants as verdicts
use Rattle.bb_run.specs.State.{State, with_agenda, with_board}
use Rattle.bb_run.specs.Asking.{attempt, entry_of}
use Rattle.bb_run.specs.Emission.{Response, over}
use Rattle.bb_run.specs.Acts.{IsCall, IsCalled, IsDone, IsExecution, asks_of, emitted_of_ask, emitted_of_asks, emitted_of_end, end_after, left_by}
use Rattle.bb_run.specs.Executed.{upon_choice, upon_verdict}
use Rattle.bb_run.specs.Phases.{after_in, inside, outside}
use Rattle.bb_run.specs.Responds.{noted_on}
use Rattle.bb_run.specs.Run.{execution, validity}
use Rattle.bb_run.proofs.rules.OrderLemmas.{Comes, comes_none, comes_one, comes_then}
use Rattle.bb_run.proofs.notes.OrderlyParts.{IsEarly, IsEarlyVerdict, early_end, early_verdict}
use Rattle.bb_run.proofs.notes.PaidLemmas.{MayStand, answered_by, answered_in}

-- ---- notes of an execution

abbrev pub IsOfAct : Note → Type 0
IsOfAct (Board note) = ⊤
IsOfAct (Invalid number) = ⊤
IsOfAct (Ended steps found allowed) = ⊤
IsOfAct (Refused ask refusal) = ⊤
IsOfAct (NativeEnded asks) = ⊤
IsOfAct _ = ⊥

abbrev pub AreOfAct : List Note → Type 0
AreOfAct [] = ⊤
AreOfAct (note ∷ notes) = IsOfAct note × AreOfAct notes

of_act_then : (xs ys : List Note) → AreOfAct xs → AreOfAct ys → AreOfAct (xs ++ ys)
of_act_then [] ys p q = q
of_act_then (x ∷ xs) ys p q = (p.0, of_act_then xs ys p.1 q)

of_act_first : (xs ys : List Note) → AreOfAct (xs ++ ys) → AreOfAct xs
of_act_first [] ys p = tt
of_act_first (x ∷ xs) ys p = (p.0, of_act_first xs ys p.1)

pub of_act_noted : (notes : List BoardNote) → AreOfAct (map Board notes)
of_act_noted [] = tt
of_act_noted (note ∷ notes) = (tt, of_act_noted notes)

-- such a note may come anywhere, and answers nothing
record IsFree (plan : Plan) (note : Note) : Type 0 where
  comes : (past : List Note) → MayStand plan past note
  silent : answered_by note ≡ []

free : (plan : Plan) (note : Note) → IsOfAct note → IsFree plan note
free plan (Board note) of = record { comes = λ past. tt; silent = refl }
free plan (Invalid number) of = record { comes = λ past. tt; silent = refl }
free plan (Ended steps found allowed) of = record { comes = λ past. tt; silent = refl }
free plan (Refused ask refusal) of = record { comes = λ past. tt; silent = refl }
free plan (NativeEnded asks) of = record { comes = λ past. tt; silent = refl }
free plan (Triggered a) of = absurd of
free plan (Declined source unit) of = absurd of
free plan (Obviated number) of = absurd of
free plan (Retriggered number base) of = absurd of
free plan (Chosen cycle a r) of = absurd of
free plan Posted of = absurd of
free plan (PostEnded asks) of = absurd of
free plan (Finished end) of = absurd of
free plan (Closed closing) of = absurd of

pub free_come : (plan : Plan) (notes past : List Note) → AreOfAct notes → Comes (MayStand plan) past notes
free_come plan [] past of = comes_none (MayStand plan) past
free_come plan (note ∷ notes) past of =
    comes_then (MayStand plan) past (note ∷ []) notes (comes_one (MayStand plan) past note ((free plan note of.0).comes past)) (free_come plan notes (past ++ note ∷ []) of.1)

pub free_silent : (plan : Plan) (notes : List Note) → AreOfAct notes → answered_in notes ≡ []
free_silent plan [] of = refl
free_silent plan (note ∷ notes) of = ap (λ l. l ++ answered_in notes) (free plan note of.0).silent ∙ free_silent plan notes of.1

-- ---- what is emitted

-- notes of an execution, by which a cycle is over unless the run is; and that is by no quiescence and no limit
pub record IsUpon (emitted : List Note) (end : Option End) : Type 0 where
  pub of_act : AreOfAct emitted
  pub over : end ≡ None → fold after_in inside emitted ≡ outside
  pub early : IsEarly end

noted_inside : (notes : List BoardNote) → fold after_in inside (map Board notes) ≡ inside
noted_inside [] = refl
noted_inside (note ∷ notes) = noted_inside notes

inside_then : (xs ys : List Note) → fold after_in inside xs ≡ inside → fold after_in inside (xs ++ ys) ≡ fold after_in inside ys
inside_then xs ys is = fold-append after_in inside xs ys ∙ ap (λ phase. fold after_in phase ys) is

-- a code
upon_end : (code : Code) (board : Blackboard) (r : Result Outcome Stop) → IsUpon (noted_on board ++ emitted_of_end code r) (end_after r)
upon_end code board (Ok o) = record {
  of_act = of_act_then (noted_on board) (Ended o.steps o.found (budget code o.found) ∷ []) (of_act_noted board.world.notes) (tt, tt);
  over = λ e. inside_then (noted_on board) (Ended o.steps o.found (budget code o.found) ∷ []) (noted_inside board.world.notes);
  early = tt;
}
upon_end code board (Err stop) = record {
  of_act = of_act_then (noted_on board) [] (of_act_noted board.world.notes) tt;
  over = λ none. absurd cc;
  early = early_end stop;
}

upon_code : (s : State) (code : Code) (a : Activation) (r : Response) → IsExecution s code a r → IsUpon r.emitted r.end
upon_code s code a r is =
    let e = attempt code (entry_of a.unit None) s.board in
    subst (λ o. IsUpon r.emitted o) (sym is.end) (subst (λ l. IsUpon l (end_after e.0)) (sym is.emitted) (upon_end code e.1 e.0))

-- a native
ask_inside : (number : ℕ) (r : Result Blackboard Denial) → AreOfAct (emitted_of_ask number r) × (fold after_in inside (emitted_of_ask number r) ≡ inside)
ask_inside number (Ok board) = (of_act_noted board.world.notes, noted_inside board.world.notes)
ask_inside number (Err (denials.Refused refusal)) = ((tt, tt), refl)
ask_inside number (Err denials.Full) = (tt, refl)
ask_inside number (Err denials.Memory) = (tt, refl)

asks_inside : (number : ℕ) (asks : List Ask) (board : Blackboard) → AreOfAct (emitted_of_asks number asks board) × (fold after_in inside (emitted_of_asks number asks board) ≡ inside)
asks_inside number [] board = (tt, refl)
asks_inside number (ask ∷ more) board =
    let first = emitted_of_ask number (applied ask board) in
    let later = emitted_of_asks (number + 1) more (left_by board (applied ask board)) in
    let one = ask_inside number (applied ask board) in
    let rest = asks_inside (number + 1) more (left_by board (applied ask board)) in
    (of_act_then first later one.0 rest.0, inside_then first later one.1 ∙ rest.1)

upon_call : (s : State) (place : ℕ) (a : Activation) (r : Response) → IsCall s place a r → IsUpon r.emitted r.end
upon_call s place a r is =
    let asks = asks_of s place a in
    let told = emitted_of_asks 1 asks s.board in
    let last : List Note = NativeEnded (length asks) ∷ [] in
    let inner = asks_inside 1 asks s.board in
    let all : AreOfAct (told ++ last) = of_act_then told last inner.0 (tt, tt) in
    record {
      of_act = of_act_first r.emitted is.left (subst AreOfAct (sym is.emitted) all);
      over = λ none.
          (let same : r.emitted ≡ told ++ last = sym (append-nil r.emitted) ∙ ap (λ l. r.emitted ++ l) (sym (is.whole none)) ∙ is.emitted in
          ap (λ l. fold after_in inside l) same ∙ inside_then told last inner.1);
      early = elim is.end [
        | inl none ↦ subst IsEarly (sym none) tt
        | inr full ↦ subst IsEarly (sym full) tt
      ];
    }

upon_called : (s : State) (place : Option ℕ) (a : Activation) (r : Response) → IsCalled s place a r → IsUpon r.emitted r.end
upon_called s None a r is = subst (λ (q : Response). IsUpon q.emitted q.end) (sym is) (record { of_act = tt; over = λ none. absurd cc; early = tt })
upon_called s (Some place) a r is = upon_call s place a r is

upon_act : (s : State) (name : List ℕ) (act : Act) (a : Activation) (r : Response) → IsDone s name act a r → IsUpon r.emitted r.end
upon_act s name (deeds.Code body) a r is = upon_code s body.code a r is
upon_act s name deeds.Native a r is = upon_called s (place_of s.natives name) a r is

-- ---- upon a choice

-- what is so of each act
abbrev pub ActsAreDone : Type 0
ActsAreDone = (s : State) (name : List ℕ) (act : Act) (a : Activation) → IsDone s name act a (execution name act a s)

upon_verdicts : ActsAreDone → (source : Source) (v : Verdict) (a : Activation) (t : State) → IsEarlyVerdict v → let r = upon_verdict v source a t in IsUpon r.emitted r.end
upon_verdicts done source verdicts.Valid a t early =
    let u = with_agenda t (with_executed t.agenda a.number) in
    upon_act u source.name source.act a (execution source.name source.act a u) (done u source.name source.act a)
upon_verdicts done source verdicts.Invalid a t early = record { of_act = (tt, tt); over = λ e. refl; early = tt }
upon_verdicts done source (verdicts.Over end) a t early = record { of_act = tt; over = λ none. absurd cc; early = early end refl }

pub upon_choices : ActsAreDone → (source : Source) (a : Activation) (s : State) → let r = upon_choice source a s in IsUpon r.emitted r.end
upon_choices done source a s =
    let v = validity source.revalidate a s.board in
    upon_verdicts done source v.0 a (with_board s v.1) (early_verdict source.revalidate a s.board)
