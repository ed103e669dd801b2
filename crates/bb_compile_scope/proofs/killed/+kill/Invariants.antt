use Rattle.std.proofs.Common.{◌≡◌, ◌+◌, ◌*◌, drop}
use Rattle.bb_lang_tree.specs.BlockView.{block_of, statement_of, otherwise_of}
use Rattle.bb_lang_tree.specs.proving.BlockCodes.{block_size}
use Rattle.bb_compile_scope.specs.Killed.{killed_statements}
use Rattle.bb_compile_scope.specs.proving.Sizes.{statement_size, otherwise_size}
use Rattle.bb_compile_scope.proofs.killed.+kill.Given as goal

abbrev pub decreases-kill : goal.decreases-kill
decreases-kill l = 4 * block_size l.block.now

abbrev pub decreases-kill_otherwise : goal.decreases-kill_otherwise
decreases-kill_otherwise l = 4 * otherwise_size (otherwise_of l.otherwise.now) + 1

abbrev pub decreases-kill_under : goal.decreases-kill_under
decreases-kill_under l = 4 * block_size l.block.now + 1

abbrev pub decreases-kill_statement : goal.decreases-kill_statement
decreases-kill_statement l = 4 * statement_size (statement_of l.statement.now) + 2

-- what was gone over, and what is still to be
abbrev pub invariant-kill-loop-placed : goal.invariant-kill-loop-placed
invariant-kill-loop-placed l = killed_statements l.schema l.scope (block_of (drop l.placed-index l.placed-items)) ≡ killed_statements l.schema l.fn.scope l.block
