-- Properties of searches, for the contracts of private functions.
use Rattle.std.specs.Prelude.{◌≡◌, ℕ, ◌<◌, Bool, true, List, Ok, Some, length}
use Rattle.bb_pattern.specs.Fits.{query_fits}
use Rattle.bb_pattern.specs.Holds.{holds}
use Rattle.bb_pattern.specs.declared.value.DimValue.{DimValue}
use Rattle.bb_query.specs.declared.search.Search.{Search}
use Rattle.bb_space.specs.Spaces.{values_in}
use Rattle.bb_query.specs.Answer.{answers, is_of_class}
use Rattle.bb_query.specs.Knows.{Knows}
use Rattle.bb_query.specs.proving.Enough.{AreEnough}

-- the spaces know the units' values, and the query fits the schema
pub record Suits (s : Search) : Type 0 where
  pub knows : Knows s.schema.now s.units.now s.spaces.now
  pub fits : query_fits s.schema.now s.query.now ≡ Ok tt

-- all members of the query's space are of its class
abbrev pub AreOfClass : Search → Type 0
AreOfClass s = (n : ℕ) (values : List DimValue) → values_in s.spaces.now s.query.now.space n ≡ Some values
    → is_of_class s.schema.now s.units.now s.query.now n ≡ true

-- the query's space exists
abbrev pub HasSpace : Search → Type 0
HasSpace s = s.query.now.space < length s.spaces.now.spaces

-- whether the answer contains the unit
abbrev pub is_answer : Search → ℕ → Bool
is_answer s n = answers s.schema.now s.units.now s.spaces.now s.query.now s.operands.now n

-- whether the query's pattern holds of values
abbrev pub matches : Search → List DimValue → Bool
matches s values = holds s.operands.now values s.query.now.pattern

-- the list is ascending, and has all members of the query's space whose values pass a test
abbrev pub HasAll : Search → (List DimValue → Bool) → List ℕ → Type 0
HasAll s test list = AreEnough s.spaces.now s.query.now.space test list
