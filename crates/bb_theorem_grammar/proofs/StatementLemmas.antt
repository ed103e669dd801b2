-- Statements and blocks that are read stand there.
use Rattle.std.proofs.Common.{◌≡◌, ◌+◌, ℕ, zero, suc, true, List, refl, codes, arith}
use Rattle.bb_lang_tree.specs.declared.fault.LangFault.TheVariants.{Token, Nesting}
use Rattle.bb_lang_tree.specs.State.{State, Reader, at}
use Rattle.bb_lang_tree.specs.declared.atom.Variable.{Variable}
use Rattle.bb_lang_tree.specs.declared.block.Placed.{Placed}
use Rattle.bb_lang_tree.specs.Blocks.{BlockTree}
use Rattle.bb_lang_tree.specs.BlockView.{otherwise_of, statement_of, block_of}
use Rattle.bb_lang.specs.Expressions.{pattern, inside}
use Rattle.bb_lang.specs.Repeats.{as_many}
use Rattle.bb_lang.specs.Statements.{plain, leave_scope, otherwise_in, if_in, bound, binding, with_in, for_in, statement_in, next_statement, block}
use Rattle.bb_lang.specs.declared.sources.TheConstants.{NESTING_LIMIT}
use Rattle.bb_theorem_grammar.specs.Tokens.{Takes}
use Rattle.bb_theorem_grammar.specs.Words.{Declares}
use Rattle.bb_theorem_grammar.specs.Expressions.{IsVariable}
use Rattle.bb_theorem_grammar.specs.Statements.{IsBinding, IsStatement, IsElse, IsBlock, AreStatements}
use Rattle.bb_theorem_grammar.proofs.SoundLemmas.{Sound, by_move, by_if, by_read, by_ok, from_more, done, fails, behind, next_strict, next_moves, skip_moves, takes}
use Rattle.bb_theorem_grammar.proofs.NameLemmas.{name_read, member_read, declared_read}
use Rattle.bb_theorem_grammar.proofs.RepeatLemmas.{Joins, many_read}
use Rattle.bb_theorem_grammar.proofs.AtomLemmas.{variable_read}
use Rattle.bb_theorem_grammar.proofs.ExpressionLemmas.{all_ready, pattern_in_read, sequence_read}
use Rattle.bb_theorem_grammar.proofs.ActionLemmas.{expr_read, action_read}

bound_read : (x : List ℕ) (unit : Variable) (s t u v : State) → Declares x s t → Takes (codes "=") t u → IsVariable unit u v → Sound v (λ b w. IsBinding b s w) (bound x unit v)
unfolding bound
bound_read x unit s t u v a b c =
    by_if (at (codes "as") v) _ _
    (λ is. by_move _ (next_moves v) (λ w k. by_read _ (name_read w) (λ class y d. done (IsBinding.as_class a b c (takes (codes "as") v w is k) d))))
    (λ _. by_move _ (skip_moves (codes ".") v) (λ w k. by_read _ (member_read w) (λ by y d. done (IsBinding.linked_by a b c k d))))

binding_read : (s : State) → Sound s (λ b t. IsBinding b s t) (binding s)
unfolding binding
binding_read s = by_read _ (declared_read s) (λ x t a. by_move _ (skip_moves (codes "=") t) (λ u b. by_read _ (variable_read u) (λ unit v c. bound_read x unit s t u v a b c)))

-- ---- `block` reads a block

module _ (n m : ℕ) (limit : n + m ≡ NESTING_LIMIT) (block : Reader BlockTree) (read : (s : State) → Sound s (λ b t. IsBlock n b s t) (block s)) where
  plain_read : (s : State) → Sound (behind s) (λ x t. IsStatement n (statement_of x) s t) (plain m s)
  unfolding plain
  plain_read s = by_read _ (action_read n m limit s) (λ a t d. by_move _ (skip_moves (codes ";") t) (λ u c. done (IsStatement.plain d c)))

  else_read : (s : State) → Sound s (λ o t. IsElse n (otherwise_of o) s t) (otherwise_in block s)
  unfolding otherwise_in
  else_read s =
      by_if (at (codes "else") s) _ _
      (λ is. by_move _ (next_moves s) (λ t k. by_read _ (read t) (λ b u d. done (IsElse.else_block (takes (codes "else") s t is k) d))))
      (λ _. done IsElse.no_else)

  if_read : (s : State) → at (codes "if") s ≡ true → Sound (behind s) (λ x t. IsStatement n (statement_of x) s t) (if_in m block s)
  unfolding if_in
  if_read s is = by_move _ (next_strict s) (λ t k. by_read _ (expr_read n m limit t k.is_token) (λ e u a. by_read _ (read u) (λ b v c. by_read _ (else_read v) (λ o w d. done (IsStatement.if_then (takes (codes "if") s t is k) a c d)))))

  with_read : (s : State) → at (codes "with") s ≡ true → Sound (behind s) (λ x t. IsStatement n (statement_of x) s t) (with_in block s)
  unfolding with_in
  with_read s is = by_move _ (next_strict s) (λ t k. by_read _ (binding_read t) (λ found u a. by_read _ (read u) (λ b v c.
      from_more (leave_scope s v) v (omega arith) refl (by_read _ (else_read (leave_scope s v)) (λ o w d. done (IsStatement.with_name (takes (codes "with") s t is k) a c d))))))

  for_read : (s : State) → at (codes "for") s ≡ true → Sound (behind s) (λ x t. IsStatement n (statement_of x) s t) (for_in m block s)
  unfolding for_in
  for_read s is = by_move _ (next_strict s) (λ t k. by_read _ (declared_read t) (λ x u a. by_move _ (skip_moves (codes "in") u) (λ v b.
      by_read _ (sequence_read n (pattern m) (pattern_in_read n (inside m) (all_ready m n limit)) v) (λ q w c. by_read _ (read w) (λ body y d.
      by_ok _ y (leave_scope s y) (omega arith) refl (IsStatement.for_each (takes (codes "for") s t is k) a b c d))))))

  pub statement_read : (s : State) → Sound (behind s) (λ x t. IsStatement n (statement_of x) s t) (statement_in m block s)
  unfolding statement_in
  statement_read s =
      by_if (at (codes "if") s) _ _ (if_read s)
      (λ _. by_if (at (codes "with") s) _ _ (with_read s)
      (λ _. by_if (at (codes "for") s) _ _ (for_read s)
      (λ _. plain_read s)))

  abbrev Stands : List Placed → State → State → Type 0
  Stands ss s t = AreStatements n (block_of ss) s t

  next_read : (s : State) → Sound s (Joins Stands s) (next_statement m block s)
  unfolding next_statement
  next_read s =
      by_if (at (codes "}") s) _ _
      (λ _. done AreStatements.none)
      (λ _. by_read _ (from_more (behind s) s (omega arith) refl (statement_read s)) (λ one t d. done (λ ss u more. AreStatements.one_more d more)))

  pub statements_read : (s : State) → Sound s (λ ss t. Stands ss s t) (as_many (next_statement m block) s)
  statements_read s = many_read Stands (λ _. AreStatements.none) (next_statement m block) next_read s

-- ---- blocks

pub block_read : (m n : ℕ) → n + m ≡ NESTING_LIMIT → (s : State) → Sound s (λ b t. IsBlock n b s t) (block m s)
unfolding block
block_read zero n limit s = by_if (at (codes "{") s) _ _ (λ _. fails (Nesting s.place)) (λ _. fails (Token s.place))
block_read (suc m) n limit s =
    by_move _ (skip_moves (codes "{") s) (λ t a. by_read _ (statements_read (suc n) m (omega (arith, limit)) (block m) (block_read m (suc n) (omega (arith, limit))) t) (λ ss u d.
    by_move _ (skip_moves (codes "}") u) (λ v c. by_ok _ v (leave_scope s v) (omega arith) refl (IsBlock.block (record { takes = a; within = omega (arith, limit) }) d c))))
