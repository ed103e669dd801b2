-- A value that fits its slot is read back from its JSON.
use Rattle.std.proofs.Common.{◌≡◌, ℕ, zero, suc, ◌<◌, true, ◌&&◌, ◌==◌, List, [], ◌∷◌, length, Option, Some, None, option_map, refl, ap, ◌∙◌}
use Rattle.std.specs.Prelude.{ℤ, pos, negsuc, slice_get, option_and_then, unwrap_or, int_le}
use Rattle.std.specs.Option.{option_map_or}
use Rattle.std.proofs.lemmas.Bool.{and_parts, eqb-true, ltb-true}
use Rattle.serde_json.specs.Data.{number}
use Rattle.serde_json.specs.Find.{as_i64, of_integer}
use Rattle.bb_schema_form.specs.Numbers.{is_i64}
use Rattle.bb_schema_form.specs.Shapes.{as_whole}
use Rattle.bb_schema_form.specs.Form.{ends_of}
use Rattle.bb_schema_form.specs.UnitsDocument.{int_value, interval_value, other_value, given_value_of}
use Rattle.bb_schema_classes.specs.declared.kind.Kind.{Kind}
use Rattle.bb_schema_classes.specs.declared.kind.Kind.TheVariants as kinds
use Rattle.bb_schema_classes.specs.declared.label_set.LabelSet.{LabelSet}
use Rattle.bb_schema_classes.specs.declared.value.Value.{Value}
use Rattle.bb_schema_classes.specs.declared.value.Value.TheVariants as values
use Rattle.bb_schema_classes.specs.Kinds.{kind_of_value}
use Rattle.bb_schema_classes.specs.Values.{label_counts, is_label, value_fits}
use Rattle.bb_schema.specs.declared.slot.Slot.{Slot}
use Rattle.bb_schema.specs.declared.slot.Content.{Content}
use Rattle.bb_schema.specs.declared.slot.Content.TheVariants.{Default, Link}
use Rattle.bb_schema.specs.Kinds.{kind_of}
use Rattle.bb_schema.specs.Slots.{default_in}
use Rattle.bb_schema.specs.Schema.{Schema, default_of, label_named, name_of_label}
use Rattle.bb_schema.specs.Fits as schemas
use Rattle.bb_board.specs.Load.{value_in, value_at}
use Rattle.bb_board_document.specs.Values.{value_data}
use Rattle.bb_board_document.proofs.NameLemmas.{label_back}
use Rattle.bb_board_document.proofs.GivenLemmas.{at_within}

-- ---- numbers

whole_back : (z : ℤ) → is_i64 z ≡ true → as_i64 (of_integer z) ≡ Some z
whole_back (pos n) fits = rw fits refl
whole_back (negsuc n) fits = refl

as_whole_back : (z : ℤ) → is_i64 z ≡ true → as_whole (number (of_integer z)) ≡ Some z
as_whole_back z fits = rw (whole_back z fits, fits) refl

int_back : (z : ℤ) → is_i64 z ≡ true → given_value_of (number (of_integer z)) ≡ int_value z
int_back z fits = rw (whole_back z fits) refl

interval_back : (low high : ℤ) → is_i64 low ≡ true → is_i64 high ≡ true → int_le low high ≡ true
    → option_map_or (λ ends. interval_value ends.0 ends.1) (ends_of (number (of_integer low) ∷ number (of_integer high) ∷ [])) other_value ≡ interval_value low high
interval_back low high one other le = rw (as_whole_back low one, as_whole_back high other, le) refl

-- ---- labels

label_there : (sets : List LabelSet) (set label : ℕ) → is_label (label_counts sets) set label ≡ true → (l : LabelSet) × (slice_get sets set ≡ Some l) × (label < length l.values)
label_there [] set label is = absurd cc
label_there (l ∷ ls) zero label is = (l, refl, ltb-true label (length l.values) is)
label_there (l ∷ ls) (suc set) label is = label_there ls set label is

module _ (s : Schema) (fits : schemas.Fits s) where
  label_value_back : (of set label : ℕ) → ((set == of) && is_label (label_counts s.label_sets) of label) ≡ true
      → option_map (λ l. values.Label of l) (label_named s of (unwrap_or (name_of_label s set label) [])) ≡ Some (values.Label set label)
  label_value_back of set label is =
      let both = and_parts (set == of) (is_label (label_counts s.label_sets) of label) is in
      let l = label_there s.label_sets of label both.1 in
      let name = at_within l.0.values label l.2 in
      let named : name_of_label s of label ≡ Some name.0 = ap (option_and_then (λ (x : LabelSet). slice_get x.values label)) l.1 ∙ name.1 in
      let same : set ≡ of = eqb-true set of both.0 in
      rw (same, named) (ap (option_map (λ n. values.Label of n)) (label_back s fits of label l.0 name.0 l.1 name.1))

  -- by the kind of the slot
  value_in_back : (k : Kind) (v : Value) → value_fits (label_counts s.label_sets) k v ≡ true → value_in s k (given_value_of (value_data s v)) ≡ Some v
  unfolding value_fits value_in
  value_in_back kinds.Int (values.Int z) is = rw (int_back z is) refl
  value_in_back kinds.Text (values.Text t) is = refl
  value_in_back kinds.Bool (values.Bool b) is = refl
  value_in_back (kinds.Label of) (values.Label set label) is = label_value_back of set label is
  value_in_back kinds.Interval (values.Interval low high) is =
      let first = and_parts (is_i64 low && is_i64 high) (int_le low high) is in
      let ends = and_parts (is_i64 low) (is_i64 high) first.0 in
      rw (interval_back low high ends.0 ends.1 first.1) refl
  value_in_back _ _ is = absurd cc

  kind_by : (o : Option Slot) (d : Value) → option_and_then (λ t. default_in t.content) o ≡ Some d → option_map (λ t. kind_of t.content) o ≡ Some (kind_of_value d)
  kind_by None d is = absurd cc
  kind_by (Some t) d is = content t.content is
    where
      content : (c : Content) → default_in c ≡ Some d → Some (kind_of c) ≡ Some (kind_of_value d)
      content (Default v) h = let e : v ≡ d = cc in ap (λ x. Some (kind_of_value x)) e
      content (Link l) h = absurd cc

  -- the value of a slot whose default is of the kind
  pub value_back : (slot : ℕ) (d v : Value) → default_of s slot ≡ Some d → value_fits (label_counts s.label_sets) (kind_of_value d) v ≡ true → value_at s slot (given_value_of (value_data s v)) ≡ Some v
  value_back slot d v default fits_it =
      ap (option_and_then (λ kind. value_in s kind (given_value_of (value_data s v)))) (kind_by (slice_get s.slots slot) d default)
      ∙ value_in_back (kind_of_value d) v fits_it
