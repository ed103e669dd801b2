-- The invariant of schemas.
use Rattle.std.specs.Prelude.{◌≡◌, ℕ, Bool, List, Option, length, is_some, unwrap_or}
use Rattle.bb_schema_classes.specs.declared.span.Span.{Span}
use Rattle.bb_schema_classes.specs.Spans.{AreSpans}
use Rattle.bb_schema.specs.Schema.{Schema}
use Rattle.bb_schema.specs.Fits.{Fits}
use Rattle.bb_schema.specs.Couples.{couples, counts}
use Rattle.bb_schema.specs.Ownership.{owns_any, strikes}
use Rattle.bb_schema.specs.Heirs.{related_in}
use Rattle.bb_schema.specs.proving.Struck.{struck_at}
use Rattle.bb_schema.specs.declared.readings.Readings.{Readings}
use Rattle.bb_schema.specs.proving.Readings.{AreReadings}

-- the kept table of what a delete strikes: there is one exactly if a slot owns; if it has no value for two classes, one
-- strikes the other exactly if they are related
pub record IsStruck (s : Schema) (struck : Option (List (List Bool))) : Type 0 where
  pub owning : is_some struck ≡ owns_any s
  pub tell : (d c : ℕ) → strikes s d c ≡ unwrap_or (struck_at struck d c) (related_in s.classes d c)

pub record IsWellFormed (s : Schema) (couples_before : List ℕ) (couple_count : ℕ) (spans : List Span) (table : Option (List (List Bool))) (tables : Readings) : Type 0 where
  pub fits : Fits s
  -- for each slot, the number of couples before it
  pub counted : couples_before ≡ counts 0 0 s.slots
  pub all : couple_count ≡ length (couples s)
  -- the spans are those of the classes
  pub told : AreSpans s.classes spans
  pub struck : IsStruck s table
  pub readings : AreReadings s tables
