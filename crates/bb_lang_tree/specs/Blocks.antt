-- Statements and blocks as trees.
use Rattle.std.specs.Prelude.{ℕ, List}
use Rattle.bb_lang_tree.specs.declared.block.Action.{Action}
use Rattle.bb_lang_tree.specs.declared.block.Binding.{Binding}
use Rattle.bb_lang_tree.specs.declared.place.Place.{Place}
use Rattle.bb_lang_tree.specs.declared.tree.Sequence.{Sequence}
use Rattle.bb_lang_tree.specs.Trees.{ExprTree}

mutual
  pub data BlockTree : Type 0 where
    no_statement : BlockTree
    -- a statement, with the place of its first token, before others
    before_others : Place → StatementTree → BlockTree → BlockTree

  pub data StatementTree : Type 0 where
    -- a statement without blocks
    action : Action → StatementTree
    if_of : (test : ExprTree) → BlockTree → OtherwiseTree → StatementTree
    with_of : Binding → BlockTree → OtherwiseTree → StatementTree
    for_of : (name : List ℕ) → Sequence → BlockTree → StatementTree

  pub data OtherwiseTree : Type 0 where
    absent : OtherwiseTree
    otherwise : BlockTree → OtherwiseTree
