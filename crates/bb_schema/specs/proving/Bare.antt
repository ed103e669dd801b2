-- A schema without spaces, with an index of its slots.
use Rattle.std.specs.Prelude.{◌≡◌, ℕ, List, Option}
use Rattle.std.specs.BTreeMap.{BTreeMap}
use Rattle.bb_schema_classes.specs.proving.Entries.{IsIndex}
use Rattle.bb_schema.specs.Schema.{Schema}
use Rattle.bb_schema.specs.proving.Readings.{names_of, firsts_of}
use denote.Ref.{Bor}

pub record IsBare (s : Schema) (places : BTreeMap (Bor (List ℕ)) ℕ) (numbers : List (Option ℕ)) : Type 0 where
  -- the place of a name is the first slot's with the name
  pub index : IsIndex places (names_of s.slots)
  pub firsts : numbers ≡ firsts_of s.slots
