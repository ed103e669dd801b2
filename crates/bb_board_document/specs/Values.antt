-- The value of a slot as JSON, and whether it is the default.
use Rattle.std.specs.Prelude.{ℕ, Bool, false, ◌==◌, ◌&&◌, List, [], ◌∷◌, Option, Some, None, unwrap_or, if◌then◌else◌}
use Rattle.std.specs.Bool.{beq}
use Rattle.std.specs.Ordering.{int_eq}
use Rattle.std.specs.Str.{bytes_eq}
use Rattle.serde_json.specs.Data.{Data, boolean, number, string, array}
use Rattle.serde_json.specs.Find.{of_integer}
use Rattle.serde_json.specs.View.{items_of}
use Rattle.bb_schema_classes.specs.declared.value.Value.{Value}
use Rattle.bb_schema_classes.specs.declared.value.Value.TheVariants.{Int, Text, Bool as Truth, Label, Interval}
use Rattle.bb_schema.specs.Schema.{Schema, name_of_label}

-- whether two values are equal
abbrev pub same_value : Value → Value → Bool
same_value (Int y) (Int z) = int_eq y z
same_value (Text s) (Text t) = bytes_eq s t
same_value (Truth a) (Truth b) = beq a b
same_value (Label set label) (Label of other) = set == of && label == other
same_value (Interval a b) (Interval c d) = int_eq a c && int_eq b d
same_value _ _ = false

-- a value, unless it is the default
abbrev pub unless_same : (default value : Value) → Option Value
unless_same default value = if same_value value default then None else Some value

-- a list of values as JSON
abbrev pub list_data : List Data → Data
list_data ds = array (items_of ds)

-- a name as JSON, an empty one if there is none
abbrev pub name_data : Option (List ℕ) → Data
name_data name = string (unwrap_or name [])

-- a value as JSON: a label as its name, an interval as an array of its two ends
abbrev pub value_data : Schema → Value → Data
value_data s (Int z) = number (of_integer z)
value_data s (Text t) = string t
value_data s (Truth b) = boolean b
value_data s (Label set label) = name_data (name_of_label s set label)
value_data s (Interval low high) = list_data (number (of_integer low) ∷ number (of_integer high) ∷ [])
