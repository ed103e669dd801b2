use Rattle.std.proofs.Common.{◌≡◌, ◌+◌, ◌*◌, false, drop}
use Rattle.bb_lang.specs.BlockView.{block_of, statement_of, otherwise_of}
use Rattle.bb_lang.specs.proving.BlockCodes.{block_size}
use Rattle.bb_compile_scope.specs.proving.Sizes.{statement_size, otherwise_size}
use Rattle.bb_compile.specs.Statements.{statements_code}
use Rattle.bb_compile.specs.proving.Laying.{Same}
use Rattle.bb_compile.proofs.statements.+statements.Given as goal

abbrev pub decreases-emit_block : goal.decreases-emit_block
decreases-emit_block l = 8 * block_size l.block.now

abbrev pub decreases-emit_otherwise : goal.decreases-emit_otherwise
decreases-emit_otherwise l = 8 * otherwise_size (otherwise_of l.otherwise.now) + 1

abbrev pub decreases-emit_branches : goal.decreases-emit_branches
decreases-emit_branches l = 8 * (block_size l.branches.now.then + otherwise_size (otherwise_of l.branches.now.otherwise)) + 2

abbrev pub decreases-emit_for : goal.decreases-emit_for
decreases-emit_for l = 8 * block_size l.for_loop.now.body + 2

abbrev pub decreases-emit_statement : goal.decreases-emit_statement
decreases-emit_statement l = 8 * statement_size (statement_of l.statement.now) + 3

abbrev pub decreases-emit_placed : goal.decreases-emit_placed
decreases-emit_placed l = 8 * statement_size (statement_of l.placed.now.statement) + 4

-- what is laid out, and what is still to be
abbrev pub invariant-emit_block-loop-placed : goal.invariant-emit_block-loop-placed
invariant-emit_block-loop-placed l =
    (statements_code l.fn.emitter.schema.now l.fn.emitter.part l.loops l.ended (block_of (drop l.placed-index l.placed-items)) l.emitter.buffer
    ≡ statements_code l.fn.emitter.schema.now l.fn.emitter.part l.loops false l.block l.fn.emitter.buffer)
    × Same l.fn.emitter l.emitter
