-- The value of the last operand of `set`, in the form in which a trace writes values, but a label follows its set.
use Rattle.std.specs.Prelude.{ℕ, ℤ, int_le, List, Option, Some, None, option_and_then, option_map, Result, Ok, Err}
use Rattle.std.specs.Prelude.{if◌then◌else◌}
use Rattle.serde_json.specs.Data.{Data, null, boolean, number, string, array, object, Items, no_items, item}
use Rattle.serde_json.specs.Find.{as_i64, as_number, as_str}
use Rattle.serde_json.specs.Read.{read}
use Rattle.bb_basis.specs.Names.{is_name}
use Rattle.bb_basis.specs.Results.{◌>>=◌, ok_or}
use Rattle.bb_schema.specs.Schema.{Schema, label_named, label_set_named}
use Rattle.bb_shell.specs.Value.{Value}
use Rattle.bb_shell.specs.Value.TheVariants.{Int, Text, Bool as Truth, Label, Interval}
use Rattle.bb_moves.specs.Words.{split_at}
use Rattle.bb_moves.specs.declared.fault.MovesFlaw.TheVariants.{Value as NoValue, Label as NoLabel}
use Rattle.bb_moves.specs.declared.fault.Slip.{Slip}
use Rattle.bb_moves.specs.declared.fault.Slip.TheVariants.{Flaw}

-- a number of 64 bits
abbrev pub whole : Data → Option ℤ
whole json = option_and_then as_i64 (as_number json)

-- two numbers, the first not greater than the second
abbrev pub ends_of : Items → Option (ℤ × ℤ)
ends_of (item low (item high no_items)) =
    option_and_then (λ l. option_and_then (λ h. if int_le l h then Some (l, h) else None) (whole high)) (whole low)
ends_of _ = None

-- the value of JSON data: a truth value, a number, a text, or an interval by its two ends
abbrev pub plain_value : Data → Result Value Slip
plain_value (boolean b) = Ok (Truth b)
plain_value (number n) = ok_or (option_map Int (as_i64 n)) (Flaw NoValue)
plain_value (string t) = Ok (Text t)
plain_value (array ends) = ok_or (option_map (λ e. Interval e.0 e.1) (ends_of ends)) (Flaw NoValue)
plain_value null = Err (Flaw NoValue)
plain_value (object _) = Err (Flaw NoValue)

-- `SET:LABEL`: a label of the schema
unfoldable pub label_of : Schema → List ℕ → Result Value Slip
label_of schema text = do
  parts ← ok_or (split_at 58 text) (Flaw NoValue)
  if is_name parts.0 then (do
    set ← ok_or (label_set_named schema parts.0) (Flaw NoLabel)
    label ← ok_or (label_named schema set parts.1) (Flaw NoLabel)
    Ok (Label set label)) else Err (Flaw NoValue)

-- JSON is a plain value, and everything else is a label
abbrev pub value_by : Schema → List ℕ → Option Data → Result Value Slip
value_by schema text (Some json) = plain_value json
value_by schema text None = label_of schema text

-- the value of a text
unfoldable pub value_of : Schema → List ℕ → Result Value Slip
value_of schema text = value_by schema text (read text)

-- the contents of a text in quotes
unfoldable pub text_of : List ℕ → Result (List ℕ) Slip
text_of text = do
  json ← ok_or (read text) (Flaw NoValue)
  ok_or (as_str json) (Flaw NoValue)
