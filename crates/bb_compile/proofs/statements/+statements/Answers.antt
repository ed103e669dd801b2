use Rattle.std.proofs.Common.{arith, sym, ap, ◌∙◌}
use Rattle.std.proofs.lemmas.Result.{err_from_is_err_and}
use Rattle.bb_compile_scope.proofs.Laws.{statement_in_block}
use Rattle.bb_compile_scope.specs.declared.fault.CompileFault.TheVariants.{Memory}
use Rattle.std.proofs.Common.{Ok}
use Rattle.bb_compile_buffer.specs.Buffers.{leave}
use Rattle.bb_compile.proofs.EmitterLemmas.{same_on}
use Rattle.bb_compile.proofs.LoopLemmas.{block_next, block_fail, block_end, block_fails, block_whole}
use Rattle.bb_compile.proofs.statements.+statements.Goals as goal

pub emit_block-emit_placed-requires : goal.emit_block-emit_placed-requires
emit_block-emit_placed-requires t c =
    let below = statement_in_block c.args.block.now c.statements-placed-items.result.now c.loop-placed.placed-index c.placed-item.result c.statements-placed-items.ensures c.loop-placed-test.true c.placed-item.is in
    (omega (arith, below), tt)

pub emit_block-returns-in_err-ended : goal.emit_block-returns-in_err-ended
emit_block-returns-in_err-ended t c =
    let p = err_from_is_err_and c.from_residual.result c.from_residual.ensures.1 in
    let own = c.args.emitter.now in
    let failed = block_fail own.schema.now own.part c.args.loops c.statements-placed-items.result.now c.loop-placed.placed-index c.loop-placed.ended c.loop-placed.emitter.buffer _ c.placed-item.result Memory c.in_err-ended.field-0.0 c.loop-placed-test.true c.placed-item.is
    (rw (c.loop-placed.invariant.1.0, c.loop-placed.invariant.1.1) at c.in_err-ended.ensures) c.loop-placed.invariant.0 in
    rw (p.1, p.2) (block_fails own.schema.now own.part c.args.loops c.args.block.now own.buffer Memory c.in_err-ended.field-0.0 failed)

pub emit_block-loop-placed-preserved : goal.emit_block-loop-placed-preserved
emit_block-loop-placed-preserved t c =
    let own = c.args.emitter.now in (
      block_next own.schema.now own.part c.args.loops c.statements-placed-items.result.now c.loop-placed.placed-index c.loop-placed.ended c.loop-placed.emitter.buffer _ c.placed-item.result c.in_ok-ended.ended c.emit_placed.new.emitter.buffer c.loop-placed-test.true c.placed-item.is
          (rw (c.loop-placed.invariant.1.0, c.loop-placed.invariant.1.1) at c.in_ok-ended.ensures.0) c.loop-placed.invariant.0,
      same_on own c.loop-placed.emitter c.emit_placed.new.emitter c.loop-placed.invariant.1 c.in_ok-ended.ensures.1,
    )

pub emit_block-returns : goal.emit_block-returns
emit_block-returns t c =
    let own = c.args.emitter.now in
    let all = block_end own.schema.now own.part c.args.loops c.statements-placed-items.result.now c.loop-placed.placed-index c.loop-placed.ended c.loop-placed.emitter.buffer _ c.loop-placed-test.false c.loop-placed.invariant.0 in (
      block_whole own.schema.now own.part c.args.loops c.args.block.now own.buffer c.loop-placed.emitter.buffer c.loop-placed.ended all
          ∙ ap (λ m. Ok (c.loop-placed.ended, leave m c.loop-placed.emitter.buffer)) (sym c.mark-mark.ensures)
          ∙ ap (λ sc. Ok (c.loop-placed.ended, record c.loop-placed.emitter.buffer { scope = sc })) (sym c.leave.ensures),
      c.loop-placed.invariant.1,
    )
