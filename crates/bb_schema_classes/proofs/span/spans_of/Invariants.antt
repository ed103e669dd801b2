use Rattle.bb_schema_classes.specs.proving.SpanWalk.{IsWalk}
use Rattle.bb_schema_classes.proofs.span.spans_of.Given as goal

abbrev pub invariant-loop-class : goal.invariant-loop-class
invariant-loop-class l = IsWalk l.classes l.class-index l.spans.items
