-- Which values a slot of a kind can hold.
use Rattle.std.specs.Prelude.{ℕ, Bool, true, false, ◌&&◌, ◌==◌, nat_le, nat_lt, int_le, List, map, length, slice_get}
use Rattle.std.specs.Option.{option_map_or}
use Rattle.bb_schema_form.specs.Numbers.{is_i64}
use Rattle.bb_schema_classes.specs.declared.value.TheConstants.{TEXT_LIMIT}
use Rattle.bb_schema_classes.specs.declared.label_set.LabelSet.{LabelSet}
use Rattle.bb_schema_classes.specs.declared.kind.Kind.{Kind}
use Rattle.bb_schema_classes.specs.declared.kind.Kind.TheVariants as kinds
use Rattle.bb_schema_classes.specs.declared.value.Value.{Value}
use Rattle.bb_schema_classes.specs.declared.value.Value.TheVariants.{Int, Text, Bool as Truth, Label, Interval}

-- the number of labels of each set
abbrev pub label_counts : List LabelSet → List ℕ
label_counts sets = map (λ s. length s.values) sets

-- whether the set with the number exists and has the label with the number
abbrev pub is_label : List ℕ → ℕ → ℕ → Bool
is_label counts set label = option_map_or (λ count. nat_lt label count) (slice_get counts set) false

-- whether a slot of the kind can hold the value, if the label sets have these numbers of labels: numbers are of 64
-- bits, a text has at most as many bytes as the limit, a label exists and belongs to the kind's set, the first number
-- of an interval is not greater than the second, and a link slot holds no value
unfoldable pub value_fits : List ℕ → Kind → Value → Bool
value_fits counts kinds.Int (Int z) = is_i64 z
value_fits counts kinds.Text (Text t) = nat_le (length t) TEXT_LIMIT
value_fits counts kinds.Bool (Truth b) = true
value_fits counts (kinds.Label set) (Label of label) = (of == set) && is_label counts set label
value_fits counts kinds.Interval (Interval low high) = is_i64 low && is_i64 high && int_le low high
value_fits counts _ _ = false
