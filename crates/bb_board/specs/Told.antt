-- What spaces are told of a unit whose values change.
use Rattle.std.specs.Prelude.{ℕ, List, map}
use Rattle.bb_schema.specs.Schema.{Schema}
use Rattle.bb_units.specs.Units.{Units}
use Rattle.bb_pattern.specs.declared.value.DimValue.{DimValue}
use Rattle.bb_space.specs.Spaces.{Spaces, spaces_of, after_moves}
use Rattle.bb_query.specs.PresentValues.{present_values}

-- the present values of a unit on the dimensions of some spaces
abbrev pub values_for : Schema → Units → (unit : ℕ) → List ℕ → List (ℕ × List DimValue)
values_for s u n spaces = map (λ space. (space, present_values s u n space)) spaces

-- the spaces that a unit is in, after each was told the unit's present values
abbrev pub told_again : Schema → Units → Spaces → (unit : ℕ) → Spaces
told_again s u t n = after_moves t n (values_for s u n (spaces_of t n))
