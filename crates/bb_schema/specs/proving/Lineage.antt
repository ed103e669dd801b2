-- Classes with their spans.
use Rattle.std.specs.Prelude.{◌≤◌, List, length}
use Rattle.bb_schema_classes.specs.declared.class.Class.{Class}
use Rattle.bb_schema_classes.specs.declared.span.Span.{Span}
use Rattle.bb_schema_classes.specs.declared.read.classes.TheConstants.{CLASS_LIMIT}
use Rattle.bb_schema_classes.specs.Inheritance.{ParentsAreEarlier}
use Rattle.bb_schema_classes.specs.Spans.{AreSpans}

-- the spans are those of the classes
pub record IsLineage (classes : List Class) (spans : List Span) : Type 0 where
  pub few : length classes ≤ CLASS_LIMIT
  pub parents : ParentsAreEarlier classes
  pub told : AreSpans classes spans
