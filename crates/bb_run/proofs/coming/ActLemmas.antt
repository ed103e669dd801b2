-- What an execution emits and leaves; and the call of a native, which reports its asks, and applies them, in order.
use Rattle.std.proofs.Common.{◌≡◌, ◌⊎◌, inl, inr, ℕ, ◌+◌, List, [], ◌∷◌, ◌++◌, length, Option, Some, None, Result, Ok, Err, refl, sym, ap, subst, ◌∙◌, append_assoc}
use Rattle.std.proofs.lemmas.List.{append-nil}
use Rattle.bb_agenda.specs.declared.focusing.activation.Activation.{Activation}
use Rattle.bb_code.specs.Code.{Code}
use Rattle.bb_machine.specs.declared.outcome.Outcome.{Outcome}
use Rattle.bb_machine.specs.declared.outcome.Stop.{Stop}
use Rattle.bb_verify.specs.Accepted.{Checked}
use Rattle.bb_rules.specs.declared.source.Act.{Act}
use Rattle.bb_rules.specs.declared.source.Act.TheVariants as acts
use Rattle.bb_trace.specs.Applied.{applied}
use Rattle.bb_trace.specs.Ask.{Ask}
use Rattle.bb_trace.specs.Board.{Board as Blackboard}
use Rattle.bb_trace.specs.Denial.{Denial}
use Rattle.bb_trace.specs.Denial.TheVariants as denials
use Rattle.bb_trace.specs.Roster.{after_act_at, asks_at, place_of}
use Rattle.bb_trace.specs.Sight.{sight_of}
use Rattle.bb_trace.specs.End.{End}
use Rattle.bb_trace.specs.End as finishes
use Rattle.bb_trace.specs.declared.note.Note.{Note}
use Rattle.bb_trace.specs.declared.note.Note.TheVariants.{NativeEnded}
use Rattle.bb_run.specs.State.{State, with_board, with_natives}
use Rattle.bb_run.specs.Asking.{attempt, entry_of}
use Rattle.bb_run.specs.Emission.{Response, and_then, and_then_unless, emitting}
use Rattle.bb_run.specs.Acts.{IsCall, IsCalled, IsDone, IsExecution, after_asks, left_by, emitted_of_ask, emitted_of_asks, emitted_of_end, end_after}
use Rattle.bb_run.specs.Responds.{noted_on, taken}
use Rattle.bb_run.specs.Run.{answered, calling, each_applied, execution, upon_ask}

-- of these notes all are emitted unless the run is over, and then the blackboard is this
record Does (s : State) (all : List Note) (after : Blackboard) (r : Response) : Type 0 where
  left : List Note
  emitted : r.emitted ++ left ≡ all
  end : (r.end ≡ None) ⊎ (r.end ≡ Some finishes.Full)
  whole : r.end ≡ None → left ≡ []
  board : r.end ≡ None → r.state.board ≡ after
  natives : r.state.natives ≡ s.natives

does_one : (s : State) (number : ℕ) (r : Result Blackboard Denial) → Does s (emitted_of_ask number r) (left_by s.board r) (upon_ask number r s)
does_one s number (Ok board) = record { left = []; emitted = append-nil (noted_on board ++ []) ∙ append-nil (noted_on board); end = inl refl; whole = λ e. refl; board = λ e. refl; natives = refl }
does_one s number (Err (denials.Refused refusal)) = record { left = []; emitted = refl; end = inl refl; whole = λ e. refl; board = λ e. refl; natives = refl }
does_one s number (Err denials.Full) = record { left = []; emitted = refl; end = inr refl; whole = λ e. refl; board = λ none. absurd cc; natives = refl }
does_one s number (Err denials.Memory) = record { left = []; emitted = refl; end = inr refl; whole = λ e. refl; board = λ none. absurd cc; natives = refl }

-- one, and then more
does_then : (s : State) (xs ys : List Note) (mid after : Blackboard) (r : Response) (next : State → Response) (end : Option End) → r.end ≡ end → Does s xs mid r
    → (r.state.board ≡ mid → Does r.state ys after (next r.state)) → Does s (xs ++ ys) after (and_then_unless end r next)
does_then s xs ys mid after r next (Some e) is first rest = record {
  left = first.left ++ ys;
  emitted = sym (append_assoc r.emitted first.left ys) ∙ ap (λ l. l ++ ys) first.emitted;
  end = first.end;
  whole = λ none. absurd (let no : Some e ≡ None = sym is ∙ none in cc);
  board = λ none. absurd (let no : Some e ≡ None = sym is ∙ none in cc);
  natives = first.natives;
}
does_then s xs ys mid after r next None is first rest =
    let q = rest (first.board is) in
    let same : r.emitted ≡ xs = sym (append-nil r.emitted) ∙ ap (λ l. r.emitted ++ l) (sym (first.whole is)) ∙ first.emitted in
    record {
      left = q.left;
      emitted = append_assoc r.emitted (next r.state).emitted q.left ∙ ap (λ l. r.emitted ++ l) q.emitted ∙ ap (λ l. l ++ ys) same;
      end = q.end;
      whole = q.whole;
      board = q.board;
      natives = q.natives ∙ first.natives;
    }

does_each : (number : ℕ) (asks : List Ask) (s : State) (board : Blackboard) → s.board ≡ board → Does s (emitted_of_asks number asks board) (after_asks board asks) (each_applied number asks s)
unfolding each_applied
does_each number [] s board same = record { left = []; emitted = refl; end = inl refl; whole = λ e. refl; board = λ e. same; natives = refl }
does_each number (ask ∷ more) s board same =
    let r = upon_ask number (applied ask s.board) s in
    let left = left_by s.board (applied ask s.board) in
    subst (λ b. Does s (emitted_of_asks number (ask ∷ more) b) (after_asks b (ask ∷ more)) (and_then r (each_applied (number + 1) more))) same
    (does_then s (emitted_of_ask number (applied ask s.board)) (emitted_of_asks (number + 1) more left) left (after_asks left more) r (each_applied (number + 1) more) r.end refl
    (does_one s number (applied ask s.board)) (does_each (number + 1) more r.state left))

is_call : (s : State) (place : ℕ) (a : Activation) → IsCall s place a (calling (Some place) a s)
is_call s place a =
    let seen = sight_of s.board in
    let asks = asks_at s.natives place a.unit seen in
    let t = with_natives s (after_act_at s.natives place a.unit seen) in
    let r = each_applied 1 asks t in
    let ended : State → Response = λ u. emitting (NativeEnded (length asks) ∷ []) u None in
    let after = after_asks s.board asks in
    let does = does_then t (emitted_of_asks 1 asks s.board) (NativeEnded (length asks) ∷ []) after after r ended r.end refl (does_each 1 asks t s.board refl)
    (λ same. record { left = []; emitted = refl; end = inl refl; whole = λ e. refl; board = λ e. same; natives = refl }) in
    record { left = does.left; emitted = does.emitted; end = does.end; whole = does.whole; board = does.board; natives = does.natives }

is_called : (s : State) (place : Option ℕ) (a : Activation) → IsCalled s place a (calling place a s)
is_called s None a = refl
is_called s (Some place) a = is_call s place a

-- ---- a code

-- by how it went
answered_emits : (code : Code) (board : Blackboard) (s : State) (r : Result Outcome Stop) → let q = answered code (with_board s board) r in (q.emitted ≡ noted_on board ++ emitted_of_end code r) × (q.state.board ≡ taken board) × (q.state.natives ≡ s.natives) × (q.end ≡ end_after r)
answered_emits code board s (Ok o) = (refl, refl, refl, refl)
answered_emits code board s (Err stop) = (refl, refl, refl, refl)

code_is_executed : (s : State) (name : List ℕ) (body : Checked) (a : Activation) → IsExecution s body.code a (execution name (acts.Code body) a s)
code_is_executed s name body a =
    let e = attempt body.code (entry_of a.unit None) s.board in
    let all = answered_emits body.code e.1 s e.0 in
    record { emitted = all.0; board = all.1; natives = all.2; end = all.3 }

pub act_is_done : (s : State) (name : List ℕ) (act : Act) (a : Activation) → IsDone s name act a (execution name act a s)
act_is_done s name (acts.Code body) a = code_is_executed s name body a
act_is_done s name acts.Native a = is_called s (place_of s.natives name) a
