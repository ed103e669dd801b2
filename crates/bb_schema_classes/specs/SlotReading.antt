-- The ordinary slots that a class's entries declare, one after another.
use Rattle.std.specs.Prelude.{ℕ, Bool, false, not, ◌||◌, nat_lt, List, map, length, slice_get, position, Option, Some, None, option_map, option_and_then, Result, Ok, Err, if◌then◌else◌}
use Rattle.std.specs.Str.{bytes_eq}
use Rattle.bb_basis.specs.Results.{◌>>=◌, ok_or}
use Rattle.bb_schema_form.specs.Document.{SlotDeclaration, DefaultDeclaration, int_default, text_default, bool_default, label_default, interval_default}
use Rattle.bb_schema_classes.specs.declared.value.TheConstants.{TEXT_LIMIT}
use Rattle.bb_schema_classes.specs.declared.fault.SchemaFault.{SchemaFault}
use Rattle.bb_schema_classes.specs.Faults.{here}
use Rattle.bb_schema_classes.specs.declared.fault.SchemaFlaw.TheVariants.{Name, Twice, Unknown, Limit}
use Rattle.bb_schema_classes.specs.declared.label_set.LabelSet.{LabelSet}
use Rattle.bb_schema_classes.specs.declared.value.Value.{Value}
use Rattle.bb_schema_classes.specs.declared.value.Value.TheVariants.{Int, Text, Bool as Truth, Label, Interval}
use Rattle.bb_schema_classes.specs.declared.draft.DraftContent.TheVariants.{Default}
use Rattle.bb_basis.specs.Names.{is_name}
use Rattle.bb_schema_classes.specs.Drafts.{ClassDraft, has_slot_named, is_full, with_slot}

-- the number of the default label; none given is the set's first label
abbrev pub chosen_label : List (List ℕ) → Option (List ℕ) → Option ℕ
chosen_label labels None = option_map (λ first. 0) (slice_get labels 0)
chosen_label labels (Some name) = position (bytes_eq name) labels

-- the number of the label set with a name
abbrev pub label_set_number : List LabelSet → List ℕ → Option ℕ
label_set_number sets name = position (bytes_eq name) (map (λ s. s.name) sets)

-- the default label of a slot, or Unknown if the set or the label is missing
unfoldable pub label_value : List LabelSet → List ℕ → Option (List ℕ) → Result Value SchemaFault
label_value sets of given = do
  set ← ok_or (label_set_number sets of) (here Unknown)
  label ← ok_or (option_and_then (λ s. chosen_label s.values given) (slice_get sets set)) (here Unknown)
  Ok (Label set label)

-- the default of a slot
abbrev pub default_value : List LabelSet → DefaultDeclaration → Result Value SchemaFault
default_value sets (int_default z) = Ok (Int z)
default_value sets (text_default t) = Ok (Text t)
default_value sets (bool_default b) = Ok (Truth b)
default_value sets (label_default of given) = label_value sets of given
default_value sets (interval_default low high) = Ok (Interval low high)

-- whether the default is a text longer than the limit
abbrev pub is_long : DefaultDeclaration → Bool
is_long (int_default z) = false
is_long (text_default t) = nat_lt TEXT_LIMIT (length t)
is_long (bool_default b) = false
is_long (label_default of given) = false
is_long (interval_default low high) = false

-- the class with number owner, with the entry's slot added, or the entry's fault
unfoldable pub slot_after : List LabelSet → ℕ → ClassDraft → SlotDeclaration → Result ClassDraft SchemaFault
slot_after sets owner g entry =
    if not (is_name entry.name) then Err (here Name)
    else if has_slot_named g entry.name then Err (here Twice)
    else default_value sets entry.default >>= λ value.
    if is_full g || is_long entry.default then Err (here Limit)
    else Ok (with_slot g (record { name = entry.name; owner = owner; content = Default value }))
