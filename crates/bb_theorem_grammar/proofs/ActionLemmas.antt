-- Statements without blocks that are read stand there.
use Rattle.std.proofs.Common.{◌≡◌, ◌+◌, ℕ, true, codes}
use Rattle.bb_lang_tree.specs.State.{State, at}
use Rattle.bb_lang.specs.Expressions.{expr, inside}
use Rattle.bb_lang.specs.Statements.{slot_of, space_of, let_of, assign_of, new_of, set_of, link_of, unlink_of, enter_of, leave_of, delete_of, say_of, rate_of, decline_of, answer_of, change_of, action_of}
use Rattle.bb_lang.specs.declared.sources.TheConstants.{NESTING_LIMIT}
use Rattle.bb_theorem_grammar.specs.Words.{IsName}
use Rattle.bb_theorem_grammar.specs.Expressions.{IsVariable, IsExpr}
use Rattle.bb_theorem_grammar.specs.Actions.{IsSlot, IsAction}
use Rattle.bb_theorem_grammar.proofs.SoundLemmas.{Stands, Sound, Read, by_move, by_if, by_read, done, behind, next_strict, skip_moves, takes}
use Rattle.bb_theorem_grammar.proofs.NameLemmas.{name_strict, name_read, member_read, declared_read}
use Rattle.bb_theorem_grammar.proofs.RepeatLemmas.{listed_read}
use Rattle.bb_theorem_grammar.proofs.AtomLemmas.{variable_read}
use Rattle.bb_theorem_grammar.proofs.ExpressionLemmas.{all_ready, expr_in_read}

module _ (n m : ℕ) (limit : n + m ≡ NESTING_LIMIT) where
  pub expr_read : (s : State) → Stands s → Sound s (λ e t. IsExpr n e s t) (expr m s)
  expr_read s = expr_in_read n (inside m) (all_ready m n limit) s

  slot_read : (s : State) → Read s (slot_of s) (λ of w. IsSlot of.unit of.slot s w)
  unfolding slot_of
  slot_read s = by_read _ (variable_read s) (λ unit t a. by_move _ (skip_moves (codes ".") t) (λ u b. by_read _ (member_read u) (λ x v c. done (IsSlot.slot a b c))))

  space_read : (s : State) → Read s (space_of s) (λ of u. (t : State) × IsVariable of.unit s t × IsName of.space t u)
  unfolding space_of
  space_read s = by_read _ (variable_read s) (λ unit t a. by_read _ (name_read t) (λ space u b. done (t, a, b)))

  let_read : (s : State) → at (codes "let") s ≡ true → Sound (behind s) (λ a t. IsAction n a s t) (let_of m s)
  unfolding let_of
  let_read s is = by_move _ (next_strict s) (λ t k. by_read _ (declared_read t) (λ x u a. by_move _ (skip_moves (codes "=") u) (λ v b. by_read _ (expr_read v b.next.is_token) (λ e w c. done (IsAction.let_is (takes (codes "let") s t is k) a b c)))))

  new_read : (s : State) → at (codes "new") s ≡ true → Sound (behind s) (λ a t. IsAction n a s t) (new_of s)
  unfolding new_of
  new_read s is = by_move _ (next_strict s) (λ t k. by_read _ (declared_read t) (λ x u a. by_move _ (skip_moves (codes ":") u) (λ v b. by_read _ (name_read v) (λ class w c. done (IsAction.new (takes (codes "new") s t is k) a b c)))))

  assign_read : (s : State) → Sound (behind s) (λ a t. IsAction n a s t) (assign_of m s)
  unfolding assign_of
  assign_read s = by_read _ (name_strict s) (λ x t a. by_move _ (skip_moves (codes "=") t) (λ u b. by_read _ (expr_read u b.next.is_token) (λ e v c. done (IsAction.assign a b c))))

  set_read : (s : State) → at (codes "set") s ≡ true → Sound (behind s) (λ a t. IsAction n a s t) (set_of m s)
  unfolding set_of
  set_read s is = by_move _ (next_strict s) (λ t k. by_read _ (slot_read t) (λ of u a. by_move _ (skip_moves (codes "=") u) (λ v b. by_read _ (expr_read v b.next.is_token) (λ e w c. done (IsAction.set (takes (codes "set") s t is k) a b c)))))

  link_read : (s : State) → at (codes "link") s ≡ true → Sound (behind s) (λ a t. IsAction n a s t) (link_of s)
  unfolding link_of
  link_read s is = by_move _ (next_strict s) (λ t k. by_read _ (slot_read t) (λ of u a. by_read _ (variable_read u) (λ other v b. done (IsAction.link (takes (codes "link") s t is k) a b))))

  unlink_read : (s : State) → at (codes "unlink") s ≡ true → Sound (behind s) (λ a t. IsAction n a s t) (unlink_of s)
  unfolding unlink_of
  unlink_read s is = by_move _ (next_strict s) (λ t k. by_read _ (slot_read t) (λ of u a. by_read _ (variable_read u) (λ other v b. done (IsAction.unlink (takes (codes "unlink") s t is k) a b))))

  enter_read : (s : State) → at (codes "enter") s ≡ true → Sound (behind s) (λ a t. IsAction n a s t) (enter_of s)
  unfolding enter_of
  enter_read s is = by_move _ (next_strict s) (λ t k. by_read _ (space_read t) (λ of u a. done (IsAction.enter (takes (codes "enter") s t is k) a.1 a.2)))

  leave_read : (s : State) → at (codes "leave") s ≡ true → Sound (behind s) (λ a t. IsAction n a s t) (leave_of s)
  unfolding leave_of
  leave_read s is = by_move _ (next_strict s) (λ t k. by_read _ (space_read t) (λ of u a. done (IsAction.leave (takes (codes "leave") s t is k) a.1 a.2)))

  delete_read : (s : State) → at (codes "delete") s ≡ true → Sound (behind s) (λ a t. IsAction n a s t) (delete_of s)
  unfolding delete_of
  delete_read s is = by_move _ (next_strict s) (λ t k. by_read _ (variable_read t) (λ unit u a. done (IsAction.delete (takes (codes "delete") s t is k) a)))

  say_read : (s : State) → at (codes "say") s ≡ true → Sound (behind s) (λ a t. IsAction n a s t) (say_of m s)
  unfolding say_of
  say_read s is = by_move _ (next_strict s) (λ t k. by_read _ (listed_read (IsExpr n) (expr m) expr_read (codes ";") t k.is_token) (λ es u a. done (IsAction.say (takes (codes "say") s t is k) a)))

  rate_read : (s : State) → at (codes "rate") s ≡ true → Sound (behind s) (λ a t. IsAction n a s t) (rate_of m s)
  unfolding rate_of
  rate_read s is = by_move _ (next_strict s) (λ t k. by_read _ (expr_read t k.is_token) (λ e u a. done (IsAction.rate (takes (codes "rate") s t is k) a)))

  decline_read : (s : State) → at (codes "decline") s ≡ true → Sound (behind s) (λ a t. IsAction n a s t) (decline_of s)
  unfolding decline_of
  decline_read s is = by_move _ (next_strict s) (λ t k. done (IsAction.decline (takes (codes "decline") s t is k)))

  answer_read : (s : State) → at (codes "answer") s ≡ true → Sound (behind s) (λ a t. IsAction n a s t) (answer_of m s)
  unfolding answer_of
  answer_read s is = by_move _ (next_strict s) (λ t k. by_read _ (expr_read t k.is_token) (λ e u a. done (IsAction.answer (takes (codes "answer") s t is k) a)))

  change_read : (s : State) → Sound (behind s) (λ a t. IsAction n a s t) (change_of m s)
  unfolding change_of
  change_read s =
      by_if (at (codes "set") s) _ _ (set_read s)
      (λ _. by_if (at (codes "link") s) _ _ (link_read s)
      (λ _. by_if (at (codes "unlink") s) _ _ (unlink_read s)
      (λ _. by_if (at (codes "enter") s) _ _ (enter_read s)
      (λ _. by_if (at (codes "leave") s) _ _ (leave_read s)
      (λ _. by_if (at (codes "delete") s) _ _ (delete_read s)
      (λ _. assign_read s))))))

  pub action_read : (s : State) → Sound (behind s) (λ a t. IsAction n a s t) (action_of m s)
  unfolding action_of
  action_read s =
      by_if (at (codes "let") s) _ _ (let_read s)
      (λ _. by_if (at (codes "new") s) _ _ (new_read s)
      (λ _. by_if (at (codes "say") s) _ _ (say_read s)
      (λ _. by_if (at (codes "rate") s) _ _ (rate_read s)
      (λ _. by_if (at (codes "decline") s) _ _ (decline_read s)
      (λ _. by_if (at (codes "answer") s) _ _ (answer_read s)
      (λ _. change_read s))))))
