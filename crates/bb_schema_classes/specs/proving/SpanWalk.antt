-- A walk over classes, which are inserted one after another.
use Rattle.std.specs.Prelude.{◌≡◌, ◌≤◌, ◌<◌, ◌↔◌, ℕ, ◌+◌, nat_lt, List, [], ◌∷◌, ◌++◌, length, map, slice_get, All, Option, Some, None, if◌then◌else◌}
use Rattle.std.specs.Option.{option_map_or}
use Rattle.bb_schema_classes.specs.declared.class.Class.{Class}
use Rattle.bb_schema_classes.specs.declared.span.Span.{Span}
use Rattle.bb_schema_classes.specs.Inheritance.{Descends}
use Rattle.bb_schema_classes.specs.Spans.{LiesIn}

-- a number after another was inserted at a place
unfoldable pub moved : (at n : ℕ) → ℕ
moved at n = if nat_lt n at then n else n + 1

-- a span after a number was inserted at a place
abbrev pub moved_span : ℕ → Span → Span
moved_span at s = record { first = moved at s.first; end = moved at s.end }

-- where a class is inserted: right after its parent, or at the first place
abbrev pub place_of : List Span → Option ℕ → ℕ
place_of spans None = 0
place_of spans (Some p) = option_map_or (λ s. s.first + 1) (slice_get spans p) 0

-- the span of a class without descendants
abbrev pub new_span : ℕ → Span
new_span at = record { first = at; end = at + 1 }

-- spans with the span of another class
unfoldable pub with_class : List Span → Option ℕ → List Span
with_class spans parent = map (moved_span (place_of spans parent)) spans ++ new_span (place_of spans parent) ∷ []

-- the span is in a walk over n classes
abbrev pub IsWithin : ℕ → Span → Type 0
IsWithin n s = (s.first < n) × (s.end ≤ n)

-- the spans of the first n classes
pub record IsWalk (classes : List Class) (n : ℕ) (spans : List Span) : Type 0 where
  pub count : length spans ≡ n
  pub within : All (IsWithin n) spans
  pub tell : (c d : ℕ) (k l : Span) → slice_get spans c ≡ Some k → slice_get spans d ≡ Some l
      → Descends classes c d ↔ LiesIn k l
