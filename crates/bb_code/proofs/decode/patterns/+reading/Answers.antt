use Rattle.std.proofs.Common.{inl, inr}
use Rattle.std.proofs.lemmas.Result.{err_from_is_err_and}
use Rattle.bb_pattern.specs.Trees.{Tree}
use Rattle.bb_code.specs.Patterns.{Ahead, parts_at, pattern_at}
use Rattle.bb_code.proofs.Turns.{repeated_next, repeated_failed, is_done}
use Rattle.bb_code.proofs.PatternTurns.{too_deep, no_room, one_node}
use Rattle.bb_code.proofs.decode.patterns.+reading.Goals as goal

pub read_parts-returns-in_err-part : goal.read_parts-returns-in_err-part
read_parts-returns-in_err-part t c =
    let p = err_from_is_err_and c.from_residual-in_err-part.result c.from_residual-in_err-part.ensures.1 in
    rw (p.1, p.2) (repeated_failed Tree Ahead (pattern_at c.args.depth) c.loop.parts.items c.in_ok-count.count c.loop.counter (c.loop.left, c.loop.rest.now) _ (parts_at (pattern_at c.args.depth) (c.args.room, c.args.bytes.now)) c.loop-test.true c.in_err-part.ensures c.loop.invariant)

pub read_parts-loop-preserved : goal.read_parts-loop-preserved
read_parts-loop-preserved t c =
    rw c.in_ok-push.ensures.items (repeated_next Tree Ahead (pattern_at c.args.depth) c.loop.parts.items c.in_ok-count.count c.loop.counter (c.loop.left, c.loop.rest.now) c.in_ok-part.part (c.in_ok-part.room, c.in_ok-part.after.now) (parts_at (pattern_at c.args.depth) (c.args.room, c.args.bytes.now)) c.loop-test.true c.in_ok-part.ensures c.loop.invariant)

pub read_parts-returns : goal.read_parts-returns
read_parts-returns t c = is_done Tree Ahead (pattern_at c.args.depth) c.loop.parts.items c.in_ok-count.count c.loop.counter (c.loop.left, c.loop.rest.now) (parts_at (pattern_at c.args.depth) (c.args.room, c.args.bytes.now)) c.loop-test.false c.loop.invariant

pub read_pattern-returns-then-depth-eq0 : goal.read_pattern-returns-then-depth-eq0
read_pattern-returns-then-depth-eq0 t c =
    elim c.then-depth-eq0.either [
      | inl deep ↦ inr (too_deep c.args.depth c.args.room c.args.bytes.now deep)
      | inr full ↦ inr (no_room c.args.depth c.args.room c.args.bytes.now full.1)
    ]

pub read_pattern-returns : goal.read_pattern-returns
read_pattern-returns t c = rw (one_node c.args.depth c.args.room c.args.bytes.now c.if-depth-eq0.false c.if-room-eq0.false) c.read_tagged.ensures
