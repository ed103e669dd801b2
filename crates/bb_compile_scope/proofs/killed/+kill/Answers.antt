use Rattle.std.proofs.Common.{arith}
use Rattle.bb_compile_scope.proofs.Laws.{statement_in_block}
use Rattle.bb_compile_scope.proofs.killed.+kill.Goals as goal

pub kill-kill_statement-requires : goal.kill-kill_statement-requires
kill-kill_statement-requires t c =
    let below = statement_in_block c.args.block.now c.statements-placed-items.result.now c.loop-placed.placed-index c.placed-item.result c.statements-placed-items.ensures c.loop-placed-test.true c.placed-item.is in
    (omega (arith, below), tt)
