use Rattle.std.proofs.Common.{◌<◌, ◌∙◌, ap, set, length, arith}
use Rattle.std.proofs.lemmas.List.Edits.{map_over_more}
use Rattle.bb_schema_classes.specs.proving.SpanWalk.{moved_span}
use Rattle.bb_schema_classes.proofs.span.make_room.Goals as goal

pub loop-index-preserved : goal.loop-index-preserved
loop-index-preserved c =
    let old = c.args.spans.now.items in
    let now = c.loop-index.spans.items in
    let i = c.loop-index.index in
    let lt : i < length old = omega (arith, c.loop-index-test.true, c.loop-index.auto.index-end, c.len-index-end.ensures) in
    ap (set now i) c.moved.ensures ∙ map_over_more (moved_span c.args.at) old now i c.index.result.now lt c.loop-index.invariant c.index.ensures
