-- The trees that values of `Statement` and `Block` stand for.
use Rattle.std.specs.Prelude.{List, [], ◌∷◌, Option, Some, None}
use Rattle.bb_lang_tree.specs.declared.block.Placed.{Placed}
use Rattle.bb_lang_tree.specs.declared.block.Statement.{Statement}
use Rattle.bb_lang_tree.specs.declared.block.Statement.TheVariants.{Action, If, With, For}
use Rattle.bb_lang_tree.specs.Blocks.{BlockTree, StatementTree, OtherwiseTree, no_statement, before_others, action, if_of, with_of, for_of, absent, otherwise}

abbrev pub otherwise_of : Option BlockTree → OtherwiseTree
otherwise_of None = absent
otherwise_of (Some b) = otherwise b

abbrev pub statement_of : Statement → StatementTree
statement_of (Action a) = action a
statement_of (If test branches) = if_of test branches.then (otherwise_of branches.otherwise)
statement_of (With binding branches) = with_of binding branches.then (otherwise_of branches.otherwise)
statement_of (For l) = for_of l.name l.sequence l.body

-- the statements, in order
abbrev pub block_of : List Placed → BlockTree
block_of [] = no_statement
block_of (s ∷ ss) = before_others s.place (statement_of s.statement) (block_of ss)
