-- The answers of queries (GBBopen Reference Manual, find-instances).
use Rattle.std.specs.Prelude.{ℕ, Bool, false, ◌&&◌, List, filter}
use Rattle.std.specs.Option.{option_map_or}
use Rattle.std.specs.FinMap as map
use Rattle.bb_schema.specs.Schema.{Schema, descends}
use Rattle.bb_units.specs.Units.{Units, class_of}
use Rattle.bb_pattern.specs.declared.query.Query.{Query}
use Rattle.bb_pattern.specs.declared.value.DimValue.{DimValue}
use Rattle.bb_pattern.specs.Holds.{holds}
use Rattle.bb_space.specs.Spaces.{Spaces, is_member}
use Rattle.bb_query.specs.PresentValues.{present_values}

-- whether the unit is live, of the query's class or one below it
abbrev pub is_of_class : Schema → Units → Query → ℕ → Bool
is_of_class s u q n = option_map_or (λ class. descends s class q.class) (class_of u n) false

-- whether the unit is in the query's space and of its class, and its present values satisfy the pattern
abbrev pub answers : Schema → Units → Spaces → Query → List DimValue → ℕ → Bool
answers s u t q operands n =
    is_member t q.space n && is_of_class s u q n && holds operands (present_values s u n q.space) q.pattern

-- the numbers of the live units in the answer of a query, ascending
abbrev pub answer : Schema → Units → Spaces → Query → List DimValue → List ℕ
answer s u t q operands = filter (answers s u t q operands) (map.keys u.units)
