-- Values that the verifier lets a slot be set to: the slot can hold them, and the blackboard still fits its schema.
use Rattle.std.proofs.Common.{◌≡◌, ℕ, false, true, length, List, Option, Some, None, option_map, Ok, refl, sym, ap, subst, ◌∙◌, arith}
use Rattle.std.specs.Prelude.{◌==◌, is_some, nat_lt, slice_get, option_and_then}
use Rattle.std.specs.Option.{option_map_or}
use Rattle.std.proofs.lemmas.Bool.{and_from, eq-eqb, lt-ltb}
use Rattle.std.proofs.lemmas.Option.{slice_get-map, slice_get_within}
use Rattle.bb_schema_classes.specs.declared.kind.Kind.{Kind as SlotKind}
use Rattle.bb_schema_classes.specs.declared.kind.Kind.TheVariants as held
use Rattle.bb_schema_classes.specs.declared.label_set.LabelSet.{LabelSet}
use Rattle.bb_schema_classes.specs.declared.value.Value.{Value as SlotValue}
use Rattle.bb_schema_classes.specs.declared.value.Value.TheVariants as slots
use Rattle.bb_schema_classes.specs.Kinds.{kind_of_value}
use Rattle.bb_schema_classes.specs.Values.{label_counts, is_label, value_fits}
use Rattle.bb_schema.specs.declared.slot.Slot.{Slot}
use Rattle.bb_schema.specs.Schema.{Schema, default_of, name_of_label}
use Rattle.bb_schema.specs.Slots.{default_in}
use Rattle.bb_schema.specs.Fits as schemas
use Rattle.bb_units.specs.Layout.{Layout, layout_of, can_hold}
use Rattle.bb_units.specs.Units.{is_live, has_slot, value_of, after_set as with_value}
use Rattle.bb_units.proofs.Laws.{updated_fit, has_its_slots}
use Rattle.bb_board.specs.State.{World}
use Rattle.bb_board.specs.Fits.{Fits}
use Rattle.bb_board.specs.World.{after_set}
use Rattle.bb_board.specs.Outlives.{Outlives}
use Rattle.bb_board.proofs.Laws.{same_class_of, set_keeps}
use Rattle.bb_code.specs.declared.frame.Kind.{Kind}
use Rattle.bb_code.specs.declared.frame.Kind.TheVariants as kinds
use Rattle.bb_verify.specs.Due as dues
use Rattle.bb_machine.specs.declared.value.Value.{Value}
use Rattle.bb_machine.specs.Value.{slot_value_of}
use Rattle.bb_theorem_machine.specs.Kinds.{IsOf, HasKind}
use Rattle.bb_theorem_machine.proofs.changing.OutliveLemmas.{Persists}
use Rattle.bb_theorem_machine.proofs.HeldLemmas.{default_kept}
use Rattle.bb_theorem_machine.proofs.reading.SlotLemmas.{plain_there, default_by, reads}

-- ---- what a value is in a slot

label_by : (set label : ℕ) (found : Option LabelSet) → is_some (option_and_then (λ l. slice_get l.values label) found) ≡ true → option_map_or (λ count. nat_lt label count) (option_map (λ l. length l.values) found) false ≡ true
label_by set label None named = absurd cc
label_by set label (Some l) named = by (slice_get l.values label) refl named
  where
    by : (o : Option (List ℕ)) → slice_get l.values label ≡ o → is_some o ≡ true → nat_lt label (length l.values) ≡ true
    by None is named = absurd cc
    by (Some name) is named = lt-ltb label (length l.values) (slice_get_within l.values label name is)

label_there : (s : Schema) (set label : ℕ) → is_some (name_of_label s set label) ≡ true → is_label (label_counts s.label_sets) set label ≡ true
label_there s set label named =
    ap (λ (o : Option ℕ). option_map_or (λ count. nat_lt label count) o false) (slice_get-map (λ (l : LabelSet). length l.values) s.label_sets set)
    ∙ label_by set label (slice_get s.label_sets set) named

-- a value is one that fits a kind of slots
abbrev AsHeld : Schema → SlotKind → Value → Type 0
AsHeld s kind v = (x : SlotValue) × (slot_value_of v ≡ Some x) × (value_fits (label_counts s.label_sets) kind x ≡ true)

as_kind : (s : Schema) (w : World) (j k : Kind) (v : Value) → Some j ≡ Some k → HasKind s w k v → HasKind s w j v
as_kind s w j k v is has = subst (λ (i : Kind). HasKind s w i v) (let e : k ≡ j = cc in e) has

kind_held : (s : Schema) (w : World) (slot : SlotKind) (kind : Kind) (v : Value) → dues.plain_kind slot ≡ Some kind → HasKind s w kind v → AsHeld s slot v
unfolding value_fits
kind_held s w held.Int kind v is has = let it = as_kind s w kinds.Int kind v is has in (slots.Int it.0, ap slot_value_of it.1, it.2)
kind_held s w held.Text kind v is has = let it = as_kind s w kinds.Text kind v is has in (slots.Text it.0, ap slot_value_of it.1, it.2)
kind_held s w held.Bool kind v is has = let it = as_kind s w kinds.Bool kind v is has in (slots.Bool it.0, ap slot_value_of it.1, refl)
kind_held s w (held.Label set) kind v is has =
    let it = as_kind s w (kinds.Label set) kind v is has in
    (slots.Label set it.0, ap slot_value_of it.1, and_from (set == set) (is_label (label_counts s.label_sets) set it.0) (eq-eqb set set refl) (label_there s set it.0 it.2))
kind_held s w held.Interval kind v is has = let it = as_kind s w kinds.Interval kind v is has in (slots.Interval it.0 it.1, ap slot_value_of it.2, it.3)
kind_held s w (held.Link l) kind v is has = absurd cc

-- ---- what the verifier asks of slot and value

-- a value is one that a slot can hold
pub record CanHold (s : Schema) (slot : ℕ) (v : Value) : Type 0 where
  pub value : SlotValue
  pub is : slot_value_of v ≡ Some value
  pub holds : can_hold (layout_of s) slot value ≡ true

pub value_held : (s : Schema) (w : World) (class slot : ℕ) (kind : Kind) (v : Value) → dues.plain_slot s class slot ≡ Ok kind → HasKind s w kind v → CanHold s slot v
value_held s w class slot kind v h has =
    let p = plain_there s class slot kind h in
    let d = default_by p.1.entry.content p.0 kind p.1.holds p.2 in
    let default : default_of s slot ≡ Some (d.0) = ap (option_and_then (λ (t : Slot). default_in t.content)) p.1.there ∙ ap default_in d.1 in
    let x = kind_held s w p.0 kind v p.2 has in
    record {
      value = x.0;
      is = x.1;
      holds =
          ap (λ (o : Option SlotValue). option_map_or (λ e. value_fits (label_counts s.label_sets) (kind_of_value e) x.0) o false) (default_kept s slot ∙ default)
          ∙ (ap (λ (i : SlotKind). value_fits (label_counts s.label_sets) i x.0) d.2 ∙ x.2);
    }

-- a live unit has the slot
pub slot_there : (s : Schema) (w : World) (class n slot : ℕ) (kind : Kind) → schemas.Fits s → Fits s w → dues.plain_slot s class slot ≡ Ok kind → IsOf s w class n → has_slot w.units n slot ≡ true
slot_there s w class n slot kind sf fits h of = sym (has_its_slots w.units n slot fits.units) ∙ ap is_some (reads s w sf fits class n slot kind h of).1

-- ---- after a slot is set

module _ (w : World) (n slot : ℕ) (x : SlotValue) where
  pub set_outlives : Outlives w.units (with_value w.units n slot x)
  set_outlives = record { next = omega arith; classes = λ k c lt is. sym (same_class_of w.units n slot k x) ∙ is }

  pub set_persists : Persists w.units (with_value w.units n slot x)
  set_persists k c is = same_class_of w.units n slot k x ∙ is

  pub value_keeps : (s : Schema) → Fits s w → is_live w.units n ≡ true → has_slot w.units n slot ≡ true → can_hold (layout_of s) slot x ≡ true → Fits s (after_set s w n slot x)
  value_keeps s fits alive has holds =
      let mine : can_hold w.units.layout slot x ≡ true = ap (λ (l : Layout). can_hold l slot x) fits.layout ∙ holds in
      set_keeps s w n slot x fits (updated_fit w.units fits.units n slot x mine) alive
      (and_from (is_some (value_of w.units n slot)) (can_hold w.units.layout slot x) (has_its_slots w.units n slot fits.units ∙ has) mine)
