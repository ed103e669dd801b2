-- The size of statements: the number of nodes of their blocks.
use Rattle.std.specs.Prelude.{ℕ}
use Rattle.bb_lang_tree.specs.Blocks.{BlockTree, StatementTree, OtherwiseTree, absent, otherwise}
use Rattle.bb_lang_tree.specs.proving.BlockCodes.{parts, block_size}
use Rattle.bb_lang_tree.specs.proving.Rose.{all_nodes}

abbrev pub statement_size : StatementTree → ℕ
statement_size s = all_nodes (parts s)

abbrev pub otherwise_size : OtherwiseTree → ℕ
otherwise_size absent = 0
otherwise_size (otherwise b) = block_size b
