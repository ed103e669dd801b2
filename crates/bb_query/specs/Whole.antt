-- A unit has a value on every dimension of a space that admits it.
use Rattle.std.specs.Prelude.{◌≡◌, ℕ, IfSome, IsTrue}
use Rattle.std.specs.Option.{option_map_or}
use Rattle.bb_schema.specs.declared.space.Dim.{Dim}
use Rattle.bb_schema.specs.Schema.{Schema}
use Rattle.bb_schema.specs.Spaces.{allowed}
use Rattle.bb_units.specs.Layout.{layout_of}
use Rattle.bb_units.specs.Units.{Units, class_of}
use Rattle.bb_pattern.specs.declared.value.OperandKind.{OperandKind}
use Rattle.bb_pattern.specs.declared.value.OperandKind.TheVariants.{Interval, Label}

-- the units have the schema's layout, and the space admits the unit's class
pub record Admits (s : Schema) (u : Units) (n space : ℕ) : Type 0 where
  pub layout : u.layout ≡ layout_of s
  pub allowed : IfSome (class_of u n) (λ class. IsTrue (allowed s space class))

-- the kind of value that a unit has on a dimension: an interval on an ordered one, a label of its set on an enumerated
-- one
abbrev pub kind_on : Dim → OperandKind
kind_on d = option_map_or Label d.set Interval
