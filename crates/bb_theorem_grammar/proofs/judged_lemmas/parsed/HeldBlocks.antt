-- The numbers and the text constants of statements that stand in a text.
use Rattle.std.proofs.Common.{◌≡◌, ℕ, true, ◌&&◌, List, refl}
use Rattle.std.proofs.lemmas.Bool.{and_from}
use Rattle.bb_lang_tree.specs.Blocks.{BlockTree, StatementTree, OtherwiseTree}
use Rattle.bb_lang_tree.specs.State.{State}
use Rattle.bb_lang_tree.specs.Trees.{ExprTree}
use Rattle.bb_lang_tree.specs.View.{sequence_of}
use Rattle.bb_lang_tree.specs.declared.block.Action.{Action}
use Rattle.bb_theorem_grammar.specs.Actions.{IsAction}
use Rattle.bb_theorem_grammar.specs.Expressions.{IsExpr}
use Rattle.bb_theorem_grammar.specs.Repeats.{AreMany, IsNextItem, AreListed}
use Rattle.bb_theorem_grammar.specs.Statements.{IsStatement, IsElse, IsBlock, AreStatements}
use Rattle.bb_theorem_grammar.specs.judged.Held.{expr_held, sequence_held, values_held, action_held, statement_held, otherwise_held, statements_held}
use Rattle.bb_theorem_grammar.proofs.judged_lemmas.parsed.HeldExprs.{expr_holds, seq_holds}

-- ---- statements without blocks

next_holds : {n : ℕ} {e : ExprTree} {s t : State} → IsNextItem (IsExpr n) e s t → expr_held e ≡ true
next_holds (IsNextItem.next_item k d) = expr_holds d

many_hold : {n : ℕ} {es : List ExprTree} {s t : State} → AreMany (IsNextItem (IsExpr n)) es s t → values_held es ≡ true
many_hold AreMany.no_item = refl
many_hold (AreMany.items {x = e} {xs = es} d ds) = and_from (expr_held e) (values_held es) (next_holds d) (many_hold ds)

listed_hold : {n : ℕ} {es : List ExprTree} {s t : State} → AreListed (IsExpr n) es s t → values_held es ≡ true
listed_hold AreListed.none_listed = refl
listed_hold (AreListed.listed {x = e} {xs = es} d ds) = and_from (expr_held e) (values_held es) (expr_holds d) (many_hold ds)

action_holds : {n : ℕ} {a : Action} {s t : State} → IsAction n a s t → action_held a ≡ true
unfolding action_held
action_holds (IsAction.let_is k a c d) = expr_holds d
action_holds (IsAction.assign a k d) = expr_holds d
action_holds (IsAction.new k a c d) = refl
action_holds (IsAction.set k a c d) = expr_holds d
action_holds (IsAction.link k a b) = refl
action_holds (IsAction.unlink k a b) = refl
action_holds (IsAction.enter k a b) = refl
action_holds (IsAction.leave k a b) = refl
action_holds (IsAction.delete k a) = refl
action_holds (IsAction.say k ds) = listed_hold ds
action_holds (IsAction.rate k d) = expr_holds d
action_holds (IsAction.decline k) = refl
action_holds (IsAction.answer k d) = expr_holds d

-- ---- statements and blocks

mutual
  unfolding statement_held otherwise_held statements_held

  statement_holds : {n : ℕ} {x : StatementTree} {s t : State} → IsStatement n x s t → statement_held x ≡ true
  statement_holds (IsStatement.plain a k) = action_holds a
  statement_holds (IsStatement.if_then {e = e} {b = b} {o = o} k d c f) =
      and_from (expr_held e) (statements_held b && otherwise_held o) (expr_holds d)
      (and_from (statements_held b) (otherwise_held o) (block_holds c) (else_holds f))
  statement_holds (IsStatement.with_name {b = b} {o = o} k a c f) =
      and_from (statements_held b) (otherwise_held o) (block_holds c) (else_holds f)
  statement_holds (IsStatement.for_each {q = q} {b = b} k a c d f) =
      and_from (sequence_held (sequence_of q)) (statements_held b) (seq_holds d) (block_holds f)

  else_holds : {n : ℕ} {o : OtherwiseTree} {s t : State} → IsElse n o s t → otherwise_held o ≡ true
  else_holds IsElse.no_else = refl
  else_holds (IsElse.else_block k b) = block_holds b

  pub block_holds : {n : ℕ} {b : BlockTree} {s t : State} → IsBlock n b s t → statements_held b ≡ true
  block_holds (IsBlock.block o ss c) = statements_hold ss

  statements_hold : {n : ℕ} {b : BlockTree} {s t : State} → AreStatements n b s t → statements_held b ≡ true
  statements_hold AreStatements.none = refl
  statements_hold (AreStatements.one_more {one = x} {others = b} d ds) =
      and_from (statement_held x) (statements_held b) (statement_holds d) (statements_hold ds)
