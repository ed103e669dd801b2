use Rattle.std.proofs.Common.{◌≡◌, ◌+◌, ◌*◌, drop}
use Rattle.bb_lang_tree.specs.BlockView.{block_of, statement_of, otherwise_of}
use Rattle.bb_lang_tree.specs.proving.BlockCodes.{block_size}
use Rattle.bb_compile_scope.specs.Ending.{block_ends}
use Rattle.bb_compile_scope.specs.proving.Sizes.{statement_size, otherwise_size}
use Rattle.bb_compile_scope.proofs.ending.+ends.Given as goal

abbrev pub decreases-block_ends : goal.decreases-block_ends
decreases-block_ends l = 4 * block_size l.block.now

abbrev pub decreases-otherwise_ends : goal.decreases-otherwise_ends
decreases-otherwise_ends l = 4 * otherwise_size (otherwise_of l.otherwise.now) + 1

abbrev pub decreases-always_ends : goal.decreases-always_ends
decreases-always_ends l = 4 * statement_size (statement_of l.statement.now) + 2

-- none of the statements before ends, so those that are left say it
abbrev pub invariant-block_ends-loop-placed : goal.invariant-block_ends-loop-placed
invariant-block_ends-loop-placed l = block_ends (block_of (drop l.placed-index l.placed-items)) ≡ block_ends l.block
