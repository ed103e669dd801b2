-- What slots of live units hold: an ordinary one a value of its kind.
use Rattle.std.proofs.Common.{◌≡◌, ℕ, zero, suc, ◌<◌, Bool, true, false, cond, List, [], ◌∷◌, length, Option, Some, None, option_map, refl, sym, ap, ◌∙◌, arith}
use Rattle.std.specs.Prelude.{◌==◌, slice_get, is_some, option_and_then, nat_lt}
use Rattle.std.specs.List.{list_any}
use Rattle.std.specs.Option.{option_map_or}
use Rattle.std.specs.FinMap as fin
use Rattle.std.proofs.lemmas.Bool.{ltb-true}
use Rattle.std.proofs.lemmas.List.{length-map}
use Rattle.std.proofs.lemmas.Option.{slice_get-map}
use Rattle.bb_basis.proofs.ListLemmas.{option_and_then-map, option_map_or-map}
use Rattle.bb_schema_classes.specs.declared.kind.Kind.{Kind as SlotKind}
use Rattle.bb_schema_classes.specs.declared.label_set.LabelSet.{LabelSet}
use Rattle.bb_schema_classes.specs.declared.value.Value.{Value as SlotValue}
use Rattle.bb_schema_classes.specs.Inheritance.{is_among}
use Rattle.bb_schema_classes.specs.Kinds.{kind_of_value}
use Rattle.bb_schema_classes.specs.Values.{label_counts, is_label, value_fits}
use Rattle.bb_schema.specs.declared.slot.Content.TheVariants as contents
use Rattle.bb_schema.specs.declared.slot.Slot.{Slot}
use Rattle.bb_schema.specs.Fits as schemas
use Rattle.bb_schema.specs.Kinds.{kind_of}
use Rattle.bb_schema.specs.Schema.{Schema, descends, default_of, label_at, slots_of}
use Rattle.bb_schema.specs.Slots.{default_in}
use Rattle.bb_units.specs.declared.unit.Unit.{Unit as OneUnit}
use Rattle.bb_units.specs.Layout as layouts
use Rattle.bb_units.specs.Units.{Units, class_of, value_of, has_slot}
use Rattle.bb_units.specs.Values.{value_at}
use Rattle.bb_units.specs.Fits as units
use Rattle.bb_units.proofs.Laws.{has_its_slots}

-- a class has a slot, which holds what is of this kind
pub record HasSlot (s : Schema) (class slot : ℕ) (kind : SlotKind) : Type 0 where
  pub entry : Slot
  pub there : slice_get s.slots slot ≡ Some entry
  pub under : descends s class entry.owner ≡ true
  pub holds : kind_of entry.content ≡ kind

under_by : (s : Schema) (class slot : ℕ) (kind : SlotKind) (t : Slot) (b : Bool) → slice_get s.slots slot ≡ Some t → descends s class t.owner ≡ b
    → (let held : Option SlotKind = cond b (Some (kind_of t.content)) None in held) ≡ Some kind → HasSlot s class slot kind
under_by s class slot kind t true at up is = record { entry = t; there = at; under = up; holds = (let e : kind_of t.content ≡ kind = cc in e) }
under_by s class slot kind t false at up is = absurd cc

pub slot_by : (s : Schema) (class slot : ℕ) (kind : SlotKind) (found : Option Slot) → slice_get s.slots slot ≡ found
    → (let held : Option SlotKind = cond (option_map_or (descends s class) (option_map (λ t. t.owner) found) false) (option_map (λ t. kind_of t.content) found) None in held) ≡ Some kind
    → HasSlot s class slot kind
slot_by s class slot kind None at is = absurd cc
slot_by s class slot kind (Some t) at is = under_by s class slot kind t (descends s class t.owner) at refl is

-- ---- labels

label_there : (names : List (List ℕ)) (label : ℕ) → label < length names → is_some (slice_get names label) ≡ true
label_there [] label lt = absurd (omega (arith, lt))
label_there (x ∷ xs) zero lt = refl
label_there (x ∷ xs) (suc label) lt = label_there xs label (omega (arith, lt))

name_by : (label : ℕ) (found : Option LabelSet) → option_map_or (λ count. nat_lt label count) (option_map (λ (l : LabelSet). length l.values) found) false ≡ true
    → is_some (option_and_then (λ (l : LabelSet). slice_get l.values label) found) ≡ true
name_by label None is = absurd cc
name_by label (Some l) is = label_there l.values label (ltb-true label (length l.values) is)

pub name_there : (sets : List LabelSet) (set label : ℕ) → is_label (label_counts sets) set label ≡ true → is_some (label_at sets set label) ≡ true
name_there sets set label is =
    name_by label (slice_get sets set) (ap (λ (o : Option ℕ). option_map_or (λ count. nat_lt label count) o false) (sym (slice_get-map (λ (l : LabelSet). length l.values) sets set)) ∙ is)

-- ---- what units keep of a schema

pub default_kept : (s : Schema) (n : ℕ) → layouts.default_at (layouts.layout_of s).defaults n ≡ default_of s n
default_kept s n = ap (option_and_then (λ d. d)) (slice_get-map (λ (t : Slot). default_in t.content) s.slots n) ∙ option_and_then-map (λ (t : Slot). default_in t.content) (slice_get s.slots n)

slots_kept : (s : Schema) (c : ℕ) → layouts.slots_of (layouts.layout_of s) c ≡ slots_of s c
slots_kept s c = ap (λ (o : Option (List ℕ)). option_map_or (λ l. l) o []) (slice_get-map (λ k. k.slots) s.classes c) ∙ option_map_or-map (λ k. k.slots) (slice_get s.classes c)

-- ---- the value of an ordinary slot

-- a unit of a class
pub record UnitOf (u : Units) (n own : ℕ) : Type 0 where
  pub unit : OneUnit
  pub at : fin.get u.units n ≡ Some unit
  pub class : unit.class ≡ own

unit_by : (u : Units) (n own : ℕ) (found : Option OneUnit) → fin.get u.units n ≡ found → option_map (λ x. x.class) found ≡ Some own → UnitOf u n own
unit_by u n own None at is = absurd cc
unit_by u n own (Some x) at is = record { unit = x; at = at; class = (let e : x.class ≡ own = cc in e) }

pub unit_there : (u : Units) (n own : ℕ) → class_of u n ≡ Some own → UnitOf u n own
unit_there u n own is = unit_by u n own (fin.get u.units n) refl is

-- a slot of a unit holds a value, which is of the kind
pub record HoldsValue (s : Schema) (u : Units) (n slot : ℕ) (kind : SlotKind) : Type 0 where
  pub value : SlotValue
  pub is : value_of u n slot ≡ Some value
  pub fits : value_fits (label_counts s.label_sets) kind value ≡ true

module _ (s : Schema) (sf : schemas.Fits s) (u : Units) (uf : units.Fits u) (same : u.layout ≡ layouts.layout_of s) where
  class_there : (n own : ℕ) → class_of u n ≡ Some own → own < length s.classes
  class_there n own is =
      let x = unit_there u n own is in
      let lt = (uf.units n x.unit x.at).class in
      let long = ap (λ (l : layouts.Layout). length l.slots) same ∙ length-map s.classes (λ k. k.slots) in
      omega (arith, lt, long, x.class)

  listed : (n own slot : ℕ) (kind : SlotKind) → class_of u n ≡ Some own → HasSlot s own slot kind → list_any (λ d. d == slot) (slots_of s own) ≡ true
  unfolding is_among
  listed n own slot kind is h = sf.owned own slot h.entry (class_there n own is) h.there ∙ h.under

  unit_has : (n slot : ℕ) (x : OneUnit) (v : SlotValue) → fin.get u.units n ≡ Some x → list_any (λ d. d == slot) (slots_of s x.class) ≡ true → default_of s slot ≡ Some v → has_slot u n slot ≡ true
  unit_has n slot x v at among default = rw (at, same, slots_kept s x.class, among, default_kept s slot, default) refl

  value_fits_default : (n own slot : ℕ) (v value : SlotValue) → class_of u n ≡ Some own → value_of u n slot ≡ Some value → default_of s slot ≡ Some v → value_fits (label_counts s.label_sets) (kind_of_value v) value ≡ true
  value_fits_default n own slot v value is has default =
      let x = unit_there u n own is in
      let at : value_at x.unit.values slot ≡ Some value = sym (ap (option_and_then (λ (y : OneUnit). value_at y.values slot)) x.at) ∙ has in
      let known : layouts.default_at (layouts.layout_of s).defaults slot ≡ Some v = default_kept s slot ∙ default in
      let holds : layouts.can_hold (layouts.layout_of s) slot value ≡ true = ap (λ (l : layouts.Layout). layouts.can_hold l slot value) (sym same) ∙ (uf.units n x.unit x.at).values slot value at in
      sym (ap (λ o. option_map_or (λ default. value_fits (label_counts s.label_sets) (kind_of_value default) value) o false) known) ∙ holds

  value_by : (n own slot : ℕ) (v : SlotValue) (o : Option SlotValue) → class_of u n ≡ Some own → default_of s slot ≡ Some v → value_of u n slot ≡ o → is_some o ≡ true → HoldsValue s u n slot (kind_of_value v)
  value_by n own slot v None is default at some = absurd cc
  value_by n own slot v (Some value) is default at some = record { value = value; is = at; fits = value_fits_default n own slot v value is at default }

  -- a live unit has a value in each ordinary slot of its class
  pub holds_value : (n own slot : ℕ) (v : SlotValue) → class_of u n ≡ Some own → (h : HasSlot s own slot (kind_of_value v)) → h.entry.content ≡ contents.Default v → HoldsValue s u n slot (kind_of_value v)
  holds_value n own slot v is h content =
      let default : default_of s slot ≡ Some v = ap (option_and_then (λ (t : Slot). default_in t.content)) h.there ∙ ap default_in content in
      let x = unit_there u n own is in
      let among : list_any (λ d. d == slot) (slots_of s x.unit.class) ≡ true = ap (λ c. list_any (λ d. d == slot) (slots_of s c)) x.class ∙ listed n own slot (kind_of_value v) is h in
      value_by n own slot v (value_of u n slot) is default refl (has_its_slots u n slot uf ∙ unit_has n slot x.unit v x.at among default)
