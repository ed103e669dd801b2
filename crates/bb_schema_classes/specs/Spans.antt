-- The spans of classes: a class descends from another if its number is in the other's span.
use Rattle.std.specs.Prelude.{◌≡◌, ◌≤◌, ◌<◌, ◌↔◌, ℕ, List, length, slice_get, Some}
use Rattle.bb_schema_classes.specs.declared.class.Class.{Class}
use Rattle.bb_schema_classes.specs.declared.span.Span.{Span}
use Rattle.bb_schema_classes.specs.Inheritance.{Descends}

-- the number of the inner class is in the outer one's span
abbrev pub LiesIn : (inner outer : Span) → Type 0
LiesIn inner outer = (outer.first ≤ inner.first) × (inner.first < outer.end)

-- every class has a span, and the spans show which class descends from which
pub record AreSpans (classes : List Class) (spans : List Span) : Type 0 where
  pub count : length spans ≡ length classes
  pub tell : (c d : ℕ) (k l : Span) → slice_get spans c ≡ Some k → slice_get spans d ≡ Some l
      → Descends classes c d ↔ LiesIn k l
