-- What spaces know of units: the law of the board on which the answers of queries rely.
use Rattle.std.specs.Prelude.{◌≡◌, ℕ, List, length, Some, true, IfSome, IsTrue}
use Rattle.bb_schema.specs.Schema.{Schema}
use Rattle.bb_schema.specs.Spaces.{allowed}
use Rattle.bb_units.specs.Units.{Units, is_live, class_of}
use Rattle.bb_pattern.specs.declared.value.DimValue.{DimValue}
use Rattle.bb_space.specs.Spaces.{Spaces, values_in}
use Rattle.bb_query.specs.PresentValues.{present_values}

-- members are live and of classes that the space admits, and the spaces have their present values
pub record Knows (s : Schema) (u : Units) (t : Spaces) : Type 0 where
  -- there are as many spaces as in the schema
  pub spaces : length t.spaces ≡ length s.spaces
  -- members are live
  pub live : (space n : ℕ) (values : List DimValue) → values_in t space n ≡ Some values → is_live u n ≡ true
  -- members are of classes that the space admits
  pub admitted : (space n : ℕ) (values : List DimValue) → values_in t space n ≡ Some values
      → IfSome (class_of u n) (λ class. IsTrue (allowed s space class))
  -- the space has the present values of its members
  pub told : (space n : ℕ) (values : List DimValue) → values_in t space n ≡ Some values
      → values ≡ present_values s u n space
