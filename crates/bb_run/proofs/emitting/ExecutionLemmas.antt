-- What is emitted of a code that was executed, and of one that was asked, by how that came out.
use Rattle.std.proofs.Common.{◌≡◌, ◌⊎◌, ℕ, inl, inr, Ok, Err, List, Option, None, Result, sym, subst, ap, ◌∙◌}
use Rattle.bb_agenda.specs.declared.focusing.activation.Activation.{Activation}
use Rattle.bb_code.specs.Code.{Code}
use Rattle.bb_verify.specs.Accepted.{Checked}
use Rattle.bb_machine.specs.declared.outcome.Answer.{Answer}
use Rattle.bb_machine.specs.declared.outcome.Entry.{Entry}
use Rattle.bb_machine.specs.declared.outcome.Outcome.{Outcome}
use Rattle.bb_basis.specs.Results.{Gives}
use Rattle.bb_exec.specs.Executed.{as_defensive}
use Rattle.bb_exec.specs.declared.stop.Stop.{Stop as Stopped}
use Rattle.bb_exec.specs.declared.stop.Stop.TheVariants as stopped
use Rattle.bb_machine.specs.declared.outcome.Stop.{Stop}
use Rattle.bb_machine.specs.declared.outcome.Stop.TheVariants as stops
use Rattle.bb_trace.specs.Board.{Board as Blackboard}
use Rattle.bb_trace.specs.End.{End}
use Rattle.bb_trace.specs.End as ends
use Rattle.bb_trace.specs.declared.note.Note.{Note}
use Rattle.bb_run.specs.declared.asking.Reply.{Reply}
use Rattle.bb_run.specs.declared.asking.Reply.TheVariants as replies
use Rattle.bb_run.specs.Asking.{asking, attempt, entry_of, reply_by, upon}
use Rattle.bb_run.specs.State.{State, with_board}
use Rattle.bb_run.specs.Emission.{Response}
use Rattle.bb_run.specs.Run.{answered, executing}
use Rattle.bb_run.specs.Emitting.{Attempts, IsResponse, Replies}

-- what an execution that came out so attempted
pub attempted_by : (r : Result Outcome Stopped) (e : Result Outcome Stop × Blackboard) (board : Blackboard) → Gives stops.Memory (λ o. o) (as_defensive r) e.0 → (r ≡ Err stopped.Memory) ⊎ (board ≡ e.1) → Attempts e r board
attempted_by (Ok o) e board gives (inl memory) = absurd cc
attempted_by (Ok o) e board gives (inr left) = (gives, left)
attempted_by (Err (stopped.Full steps found)) e board gives (inl memory) = absurd cc
attempted_by (Err (stopped.Full steps found)) e board (inl memory) (inr left) = absurd cc
attempted_by (Err (stopped.Full steps found)) e board (inr same) (inr left) = (same, left)
attempted_by (Err stopped.Memory) e board gives left = tt

-- a question replies by how its execution came out
pub replied_ok : (e : Result Outcome Stop × Blackboard) (o : Outcome) (board : Blackboard) → Attempts e (Ok o) board → Replies e (replies.Answer o.answer) board
replied_ok e o board came = record { reply_is = ap reply_by (sym came.0); board_is = came.1 }

pub replied_full : (e : Result Outcome Stop × Blackboard) (steps found : ℕ) (board : Blackboard) → Attempts e (Err (stopped.Full steps found)) board → Replies e (replies.Over ends.Full) board
replied_full e steps found board came = record { reply_is = ap reply_by (sym came.0); board_is = came.1 }

module _ (old new : List Note) (s t : State) (end : Option End) (board : Blackboard) where
  -- an execution was noted
  pub execution_noted : (body : Checked) (a : Activation) (entry : Entry) (r : Result Outcome Stop) → entry ≡ entry_of a.unit None → (attempt body.code entry s.board).0 ≡ r → board ≡ (attempt body.code entry s.board).1
      → IsResponse (answered body.code (with_board s board) r) old new t end → IsResponse (executing body.code a s) old new t end
  execution_noted body a entry r begins came left noted =
      let by : Entry → Response = λ e. answered body.code (with_board s (attempt body.code e s.board).1) (attempt body.code e s.board).0 in
      let is : answered body.code (with_board s board) r ≡ executing body.code a s =
      ap (λ b. answered body.code (with_board s b) r) left ∙ ap (answered body.code (with_board s (attempt body.code entry s.board).1)) (sym came) ∙ ap by begins
      in
      subst (λ q. IsResponse q old new t end) is noted

  -- what the reply to a question brings about was noted
  pub reply_noted : (code : Code) (entry begun : Entry) (reply known : Reply) (next : Answer → State → Response) → begun ≡ entry → Replies (attempt code begun s.board) reply board → reply ≡ known
      → IsResponse (upon known next (with_board s board)) old new t end → IsResponse (asking code entry next s) old new t end
  reply_noted code entry begun reply known next begins replied is noted =
      let by : Entry → Response = λ e. upon (reply_by (attempt code e s.board).0) next (with_board s (attempt code e s.board).1) in
      let same : upon known next (with_board s board) ≡ asking code entry next s =
      ap (λ r. upon r next (with_board s board)) (sym is ∙ replied.reply_is) ∙ ap (λ b. upon (reply_by (attempt code begun s.board).0) next (with_board s b)) replied.board_is ∙ ap by begins
      in
      subst (λ q. IsResponse q old new t end) same noted
