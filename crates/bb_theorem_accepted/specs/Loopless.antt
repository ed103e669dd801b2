-- Texts whose statements are executed at most once each, from the first to the last; an `if` or a `with` skips some.
use Rattle.std.specs.Prelude.{Bool, true, false, ◌&&◌}
use Rattle.bb_lang.specs.Blocks.{BlockTree, StatementTree, OtherwiseTree, no_statement, before_others, action, if_of, with_of, for_of, absent, otherwise}

-- no statement is a `for`, also inside the blocks of other statements
abbrev mutual
  pub is_loopless : BlockTree → Bool
  is_loopless no_statement = true
  is_loopless (before_others place statement others) = is_loopless_statement statement && is_loopless others

  pub is_loopless_statement : StatementTree → Bool
  is_loopless_statement (action a) = true
  is_loopless_statement (if_of test then other) = is_loopless then && is_loopless_otherwise other
  is_loopless_statement (with_of binding then other) = is_loopless then && is_loopless_otherwise other
  is_loopless_statement (for_of name sequence body) = false

  pub is_loopless_otherwise : OtherwiseTree → Bool
  is_loopless_otherwise absent = true
  is_loopless_otherwise (otherwise b) = is_loopless b
