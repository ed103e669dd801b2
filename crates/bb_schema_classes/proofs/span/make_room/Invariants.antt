use Rattle.std.proofs.Common.{◌≡◌, ◌++◌, map, take, drop}
use Rattle.bb_schema_classes.specs.proving.SpanWalk.{moved_span}
use Rattle.bb_schema_classes.proofs.span.make_room.Given as goal

abbrev pub invariant-loop-index : goal.invariant-loop-index
invariant-loop-index l = l.spans.items ≡ map (moved_span l.at) (take l.index l.fn.spans.items) ++ drop l.index l.fn.spans.items
