-- Values on dimensions, and kinds of operands.
use Rattle.std.specs.Prelude.{Option, Some, None}
use Rattle.bb_schema_classes.specs.declared.value.Value.{Value}
use Rattle.bb_schema_classes.specs.declared.value.Value.TheVariants as slot_values
use Rattle.bb_pattern.specs.declared.value.DimValue.{DimValue}
use Rattle.bb_pattern.specs.declared.value.DimValue.TheVariants.{Interval, Label}
use Rattle.bb_pattern.specs.declared.value.OperandKind.{OperandKind}
use Rattle.bb_pattern.specs.declared.value.OperandKind.TheVariants as kinds

-- the value on a dimension that the value of a slot gives: a number v counts as [v, v]
abbrev pub dim_value_of : Value → Option DimValue
dim_value_of (slot_values.Int v) = Some (Interval v v)
dim_value_of (slot_values.Text t) = None
dim_value_of (slot_values.Bool b) = None
dim_value_of (slot_values.Label set label) = Some (Label set label)
dim_value_of (slot_values.Interval low high) = Some (Interval low high)

-- the kind of operand that the value can be
abbrev pub kind_of_operand : DimValue → OperandKind
kind_of_operand (Interval low high) = kinds.Interval
kind_of_operand (Label set label) = kinds.Label set
