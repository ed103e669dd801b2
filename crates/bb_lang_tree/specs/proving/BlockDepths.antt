-- A block has more nodes than any block in it.
use Rattle.std.specs.Prelude.{suc, ◌≤◌, max, List, [], ◌∷◌, Option, Some, None}
use Rattle.std.proofs.Common.{arith}
use denote.Param.Weighed.{most}
use Rattle.bb_lang_tree.specs.declared.block.Placed.{Placed}
use Rattle.bb_lang_tree.specs.declared.block.Statement.{Statement}
use Rattle.bb_lang_tree.specs.declared.block.Statement.TheVariants.{Action, If, With, For}
use Rattle.bb_lang_tree.specs.declared.block.Block.TheDeep.{deep-Placed, deep-Statement}
use Rattle.bb_lang_tree.specs.declared.block.Binding.{Binding}
use Rattle.bb_lang_tree.specs.Trees.{ExprTree}
use Rattle.bb_lang_tree.specs.Blocks.{BlockTree, if_of, with_of}
use Rattle.bb_lang_tree.specs.BlockView.{block_of, statement_of, otherwise_of}
use Rattle.bb_lang_tree.specs.proving.BlockCodes.{block_roses, parts, block_size}
use Rattle.bb_lang_tree.specs.proving.Rose.{all_nodes}

if_below : (test : ExprTree) (then : BlockTree) (other : Option BlockTree) → deep-Statement (If test (record { then = then; otherwise = other })) ≤ suc (all_nodes (parts (if_of test then (otherwise_of other))))
if_below test then None = omega arith
if_below test then (Some other) = omega arith

with_below : (binding : Binding) (then : BlockTree) (other : Option BlockTree) → deep-Statement (With binding (record { then = then; otherwise = other })) ≤ suc (all_nodes (parts (with_of binding then (otherwise_of other))))
with_below binding then None = omega arith
with_below binding then (Some other) = omega arith

statement_below : (s : Statement) → deep-Statement s ≤ suc (all_nodes (parts (statement_of s)))
statement_below (Action a) = omega arith
statement_below (If test branches) = if_below test branches.then branches.otherwise
statement_below (With binding branches) = with_below binding branches.then branches.otherwise
statement_below (For l) = omega arith

all_below : (ss : List Placed) → most deep-Placed ss ≤ all_nodes (block_roses (block_of ss))
all_below [] = omega arith
all_below (s ∷ ss) = omega (arith, statement_below s.statement, all_below ss)

pub block_falls : (ss : List Placed) → max (most deep-Placed ss) 0 ≤ block_size (block_of ss)
block_falls ss = omega (arith, all_below ss)
