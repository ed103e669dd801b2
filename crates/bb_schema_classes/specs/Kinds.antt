-- The kinds of values.
use Rattle.bb_schema_classes.specs.declared.value.Value.{Value}
use Rattle.bb_schema_classes.specs.declared.value.Value.TheVariants.{Int, Text, Bool, Label, Interval}
use Rattle.bb_schema_classes.specs.declared.kind.Kind.{Kind}
use Rattle.bb_schema_classes.specs.declared.kind.Kind.TheVariants as kinds

-- the kind of the slots that can hold the value
abbrev pub kind_of_value : Value → Kind
kind_of_value (Int z) = kinds.Int
kind_of_value (Text t) = kinds.Text
kind_of_value (Bool b) = kinds.Bool
kind_of_value (Label set label) = kinds.Label set
kind_of_value (Interval low high) = kinds.Interval
