-- Which statements always end.
use Rattle.std.specs.Prelude.{Bool, true, false, ◌&&◌, ◌||◌}
use Rattle.bb_lang_tree.specs.declared.block.Action.{Action}
use Rattle.bb_lang_tree.specs.declared.block.Action.TheVariants.{Rate, Decline, Answer}
use Rattle.bb_lang_tree.specs.Blocks.{BlockTree, StatementTree, OtherwiseTree, no_statement, before_others, action, if_of, with_of, for_of, absent, otherwise}

-- a statement without blocks ends the part
abbrev pub ends : Action → Bool
ends (Rate value) = true
ends Decline = true
ends (Answer value) = true
ends _ = false

-- each path through it ends
unfoldable mutual
  pub always_ends : StatementTree → Bool
  always_ends (action a) = ends a
  always_ends (if_of test then other) = block_ends then && otherwise_ends other
  always_ends (with_of binding then other) = block_ends then && otherwise_ends other
  always_ends (for_of name sequence body) = false

  pub otherwise_ends : OtherwiseTree → Bool
  otherwise_ends absent = false
  otherwise_ends (otherwise b) = block_ends b

  pub block_ends : BlockTree → Bool
  block_ends no_statement = false
  block_ends (before_others place statement others) = always_ends statement || block_ends others
