-- What a slot of a fitting schema names is there: the label set of what an ordinary slot holds, and the class that a link
-- slot leads to.
use Rattle.std.proofs.Common.{◌≡◌, ℕ, ◌<◌, false, true, List, length, Option, Some, None, refl, subst, arith}
use Rattle.std.specs.Prelude.{slice_get, option_map, option_and_then, nat_lt, IfSome, ◌==◌}
use Rattle.std.specs.Option.{option_map_or}
use Rattle.std.proofs.lemmas.List.{length-map}
use Rattle.std.proofs.lemmas.Option.{slice_get_within}
use Rattle.bb_basis.proofs.BoolLemmas.{and_second}
use Rattle.bb_schema_classes.specs.declared.kind.Kind.TheVariants as held
use Rattle.bb_schema_classes.specs.declared.kind.Link.{Link}
use Rattle.bb_schema_classes.specs.declared.label_set.LabelSet.{LabelSet}
use Rattle.bb_schema_classes.specs.declared.value.Value.{Value}
use Rattle.bb_schema_classes.specs.declared.value.Value.TheVariants as values
use Rattle.bb_schema_classes.specs.Fits.{IsHeld}
use Rattle.bb_schema_classes.specs.Kinds.{kind_of_value}
use Rattle.bb_schema_classes.specs.Values.{label_counts, is_label, value_fits}
use Rattle.bb_schema_classes.proofs.Laws.{All-at}
use Rattle.bb_schema.specs.declared.slot.Content.{Content}
use Rattle.bb_schema.specs.declared.slot.Content.TheVariants as contents
use Rattle.bb_schema.specs.declared.slot.Slot.{Slot}
use Rattle.bb_schema.specs.Kinds.{kind_of}
use Rattle.bb_schema.specs.Slots.{default_in, link_in, link_of}
use Rattle.bb_schema.specs.Schema.{Schema, kind_of_slot}
use Rattle.bb_schema.specs.Fits.{Fits, IsSlot}

set_of_label : (counts : List ℕ) (set label : ℕ) → is_label counts set label ≡ true → set < length counts
set_of_label counts set label h = by_set (slice_get counts set) refl h
  where
    by_set : (o : Option ℕ) → slice_get counts set ≡ o → option_map_or (λ count. nat_lt label count) o false ≡ true → set < length counts
    by_set None at h = absurd cc
    by_set (Some count) at h = slice_get_within counts set count at

link_of_slot : (s : Schema) (n : ℕ) (l : Link) → kind_of_slot s n ≡ Some (held.Link l) → link_of s.slots n ≡ Some l
link_of_slot s n l h = by_slot (slice_get s.slots n) h
  where
    no_link : (v : Value) → kind_of_value v ≡ held.Link l → ⊥
    no_link (values.Int n) h = cc
    no_link (values.Text t) h = cc
    no_link (values.Bool b) h = cc
    no_link (values.Label of label) h = cc
    no_link (values.Interval low high) h = cc

    by_content : (c : Content) → kind_of c ≡ held.Link l → link_in c ≡ Some l
    by_content (contents.Default v) h = absurd (no_link v h)
    by_content (contents.Link k) h = cc

    by_slot : (o : Option Slot) → option_map (λ (t : Slot). kind_of t.content) o ≡ Some (held.Link l) → option_and_then (λ (t : Slot). link_in t.content) o ≡ Some l
    by_slot None h = absurd cc
    by_slot (Some t) h = by_content t.content (let e : kind_of t.content ≡ held.Link l = cc in e)

module _ (s : Schema) (fits : Fits s) where
  set_of_default : (v : Value) (set : ℕ) → kind_of_value v ≡ held.Label set → value_fits (label_counts s.label_sets) (kind_of_value v) v ≡ true → set < length s.label_sets
  unfolding value_fits
  set_of_default (values.Label of label) set is fit =
      let e : of ≡ set = cc in
      let lt = set_of_label (label_counts s.label_sets) of label (and_second (of == of) (is_label (label_counts s.label_sets) of label) fit) in
      let count : length (label_counts s.label_sets) ≡ length s.label_sets = length-map s.label_sets (λ (l : LabelSet). length l.values) in
      omega (arith, lt, count, e)
  set_of_default (values.Int n) set is fit = absurd cc
  set_of_default (values.Text t) set is fit = absurd cc
  set_of_default (values.Bool b) set is fit = absurd cc
  set_of_default (values.Interval low high) set is fit = absurd cc

  -- the label set of what a slot holds
  pub set_of_slot : (n set : ℕ) → kind_of_slot s n ≡ Some (held.Label set) → set < length s.label_sets
  set_of_slot n set h = by_slot (slice_get s.slots n) refl h
    where
      by_content : (t : Slot) (c : Content) → t.content ≡ c → IsSlot s.label_sets (length s.classes) t → kind_of c ≡ held.Label set → set < length s.label_sets
      by_content t (contents.Default v) is slot same = set_of_default v set same (subst (λ c. IfSome (default_in c) (IsHeld s.label_sets)) is slot.default)
      by_content t (contents.Link l) is slot same = absurd cc

      by_slot : (o : Option Slot) → slice_get s.slots n ≡ o → option_map (λ (t : Slot). kind_of t.content) o ≡ Some (held.Label set) → set < length s.label_sets
      by_slot None at h = absurd cc
      by_slot (Some t) at h = by_content t t.content refl (All-at (IsSlot s.label_sets (length s.classes)) s.slots n t at fits.slots) (let e : kind_of t.content ≡ held.Label set = cc in e)

  owner_of_slot : (n of : ℕ) → option_map (λ (t : Slot). t.owner) (slice_get s.slots n) ≡ Some of → of < length s.classes
  owner_of_slot n of h = by_slot (slice_get s.slots n) refl h
    where
      by_slot : (o : Option Slot) → slice_get s.slots n ≡ o → option_map (λ (t : Slot). t.owner) o ≡ Some of → of < length s.classes
      by_slot None at h = absurd cc
      by_slot (Some t) at h = let e : t.owner ≡ of = cc in subst (λ c. c < length s.classes) e (All-at (IsSlot s.label_sets (length s.classes)) s.slots n t at fits.slots).owner

  -- the class that a link slot leads to
  pub class_of_link : (slot : ℕ) (link : Link) → kind_of_slot s slot ≡ Some (held.Link link) → link.to < length s.classes
  class_of_link slot link at = owner_of_slot link.inverse link.to (fits.coupled slot link (link_of_slot s slot link at)).there
