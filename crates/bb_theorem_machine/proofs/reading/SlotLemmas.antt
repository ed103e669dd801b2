-- The slots that the verifier lets an op read: a live unit of the class, or of one below it, has them.
use Rattle.std.proofs.Common.{◌≡◌, ℕ, true, false, Option, Some, None, option_map, Ok, refl, sym, ap, subst, ◌∙◌}
use Rattle.std.specs.Prelude.{◌==◌, not, slice_get, is_some, option_and_then}
use Rattle.std.specs.Option.{option_map_or}
use Rattle.std.proofs.lemmas.Bool.{and_parts, and_from, eqb-true}
use Rattle.bb_schema_classes.specs.declared.kind.Kind.{Kind as SlotKind}
use Rattle.bb_schema_classes.specs.declared.kind.Kind.TheVariants as slots
use Rattle.bb_schema_classes.specs.declared.kind.Link.{Link}
use Rattle.bb_schema_classes.specs.declared.value.Value.{Value as SlotValue}
use Rattle.bb_schema_classes.specs.declared.value.Value.TheVariants as held
use Rattle.bb_schema_classes.specs.Kinds.{kind_of_value}
use Rattle.bb_schema_classes.specs.Values.{label_counts, is_label, value_fits}
use Rattle.bb_schema.specs.declared.slot.Content.{Content}
use Rattle.bb_schema.specs.declared.slot.Content.TheVariants as contents
use Rattle.bb_schema.specs.declared.slot.Slot.{Slot}
use Rattle.bb_schema.specs.Fits as schemas
use Rattle.bb_schema.specs.Kinds.{kind_of}
use Rattle.bb_schema.specs.Schema.{Schema, descends}
use Rattle.bb_schema.specs.Slots.{link_in, link_of}
use Rattle.bb_units.specs.Units.{value_of}
use Rattle.bb_board.specs.Fits.{Fits}
use Rattle.bb_board.specs.May.{class_has, has_link}
use Rattle.bb_board.specs.State.{World}
use Rattle.bb_code.specs.declared.frame.Kind.{Kind}
use Rattle.bb_code.specs.declared.frame.Kind.TheVariants.{Int, Text, Bool as Truth, Label, Interval}
use Rattle.bb_verify.specs.Due as dues
use Rattle.bb_verify.proofs.Laws.{plain_slot_ok, link_slot_ok}
use Rattle.bb_machine.specs.declared.value.Value.{Value}
use Rattle.bb_machine.specs.declared.value.Value.TheVariants as values
use Rattle.bb_machine.specs.Reading.{is_singular}
use Rattle.bb_machine.specs.Value.{value_from}
use Rattle.bb_theorem_machine.specs.Kinds.{IsOf, HasKind}
use Rattle.bb_theorem_machine.proofs.HeldLemmas.{HasSlot, slot_by, name_there, holds_value}
use Rattle.bb_theorem_machine.proofs.KindLemmas.{descends_on}

slot_there : (s : Schema) (class slot : ℕ) (kind : SlotKind) → dues.held_in s class slot ≡ Some kind → HasSlot s class slot kind
unfolding dues.held_in
slot_there s class slot kind is = slot_by s class slot kind (slice_get s.slots slot) refl is

-- a class below has it too
slot_below : (s : Schema) (own class slot : ℕ) (kind : SlotKind) → schemas.Fits s → descends s own class ≡ true → HasSlot s class slot kind → HasSlot s own slot kind
slot_below s own class slot kind sf up h = record { entry = h.entry; there = h.there; under = descends_on s own class h.entry.owner sf up h.under; holds = h.holds }

-- ---- ordinary slots

pub plain_there : (s : Schema) (class slot : ℕ) (k : Kind) → dues.plain_slot s class slot ≡ Ok k → (kind : SlotKind) × HasSlot s class slot kind × (dues.plain_kind kind ≡ Some k)
plain_there s class slot k h = let held = plain_slot_ok s class slot k h in (held.0, slot_there s class slot held.0 held.1, held.2)

pub default_by : (content : Content) (kind : SlotKind) (k : Kind) → kind_of content ≡ kind → dues.plain_kind kind ≡ Some k → (v : SlotValue) × (content ≡ contents.Default v) × (kind_of_value v ≡ kind)
default_by (contents.Default v) kind k is plain = (v, refl, is)
default_by (contents.Link l) kind k is plain = absurd (let e : dues.plain_kind (slots.Link l) ≡ Some k = ap dues.plain_kind is ∙ plain in cc)

as_kind : (s : Schema) (w : World) (j k : Kind) (v : Value) → Some j ≡ Some k → HasKind s w j v → HasKind s w k v
as_kind s w j k v is has = subst (λ (i : Kind). HasKind s w i v) (let e : j ≡ k = cc in e) has

-- what fits the kind of a slot has the kind that the verifier gives it
kind_has : (s : Schema) (w : World) (kind : SlotKind) (k : Kind) (v : SlotValue) → dues.plain_kind kind ≡ Some k → value_fits (label_counts s.label_sets) kind v ≡ true → HasKind s w k (value_from v)
unfolding value_fits
kind_has s w slots.Int k (held.Int n) is fit = as_kind s w Int k (values.Int n) is (n, refl, fit)
kind_has s w slots.Text k (held.Text t) is fit = as_kind s w Text k (values.Text t) is (t, refl, fit)
kind_has s w slots.Bool k (held.Bool b) is fit = as_kind s w Truth k (values.Bool b) is (b, refl)
kind_has s w (slots.Label set) k (held.Label of label) is fit =
    let both = and_parts (of == set) (is_label (label_counts s.label_sets) set label) fit in
    as_kind s w (Label set) k (values.Label of label) is (label, ap (λ (t : ℕ). values.Label t label) (eqb-true of set both.0), name_there s.label_sets set label both.1)
kind_has s w slots.Interval k (held.Interval low high) is fit = as_kind s w Interval k (values.Interval low high) is (low, high, refl, fit)
kind_has s w _ k _ is fit = absurd cc

-- a live unit has a value of the kind in the slot
pub reads : (s : Schema) (w : World) → schemas.Fits s → Fits s w → (class n slot : ℕ) (k : Kind) → dues.plain_slot s class slot ≡ Ok k → IsOf s w class n
    → (v : SlotValue) × (value_of w.units n slot ≡ Some v) × HasKind s w k (value_from v)
reads s w sf fits class n slot k h of =
    let p = plain_there s class slot k h in
    let own = slot_below s of.own class slot p.0 sf of.under p.1 in
    let d = default_by own.entry.content p.0 k own.holds p.2 in
    let v = holds_value s sf w.units fits.units fits.layout n of.own slot d.0 of.is (record { entry = own.entry; there = own.there; under = own.under; holds = own.holds ∙ sym d.2 }) d.1 in
    (v.value, v.is, kind_has s w p.0 k v.value p.2 (ap (λ (j : SlotKind). value_fits (label_counts s.label_sets) j v.value) (sym d.2) ∙ v.fits))

-- ---- link slots

link_there : (s : Schema) (class slot : ℕ) (l : Link) → dues.link_slot s class slot ≡ Ok l → (kind : SlotKind) × HasSlot s class slot kind × (dues.link_kind kind ≡ Some l)
link_there s class slot l h = let held = link_slot_ok s class slot l h in (held.0, slot_there s class slot held.0 held.1, held.2)

no_link : (v : SlotValue) → dues.link_kind (kind_of_value v) ≡ None
no_link (held.Int n) = refl
no_link (held.Text t) = refl
no_link (held.Bool b) = refl
no_link (held.Label set label) = refl
no_link (held.Interval low high) = refl

link_by : (content : Content) (kind : SlotKind) (l : Link) → kind_of content ≡ kind → dues.link_kind kind ≡ Some l → link_in content ≡ Some l
link_by (contents.Default v) kind l is link = absurd (let e : None ≡ Some l = sym (no_link v) ∙ (ap dues.link_kind is ∙ link) in cc)
link_by (contents.Link m) kind l is link = ap dues.link_kind is ∙ link

-- the slot is a link slot that each class below has
pub links_there : (s : Schema) (own class slot : ℕ) (l : Link) → schemas.Fits s → descends s own class ≡ true → dues.link_slot s class slot ≡ Ok l → (link_of s.slots slot ≡ Some l) × (has_link s own slot ≡ true)
links_there s own class slot l sf up h =
    let p = link_there s class slot l h in
    let mine = slot_below s own class slot p.0 sf up p.1 in
    let is : link_of s.slots slot ≡ Some l = ap (option_and_then (λ (t : Slot). link_in t.content)) mine.there ∙ link_by mine.entry.content p.0 l mine.holds p.2 in
    let has : class_has s own slot ≡ true = ap (λ (o : Option Slot). option_map_or (λ owner. descends s own owner) (option_map (λ (t : Slot). t.owner) o) false) mine.there ∙ mine.under in
    (is, and_from (is_some (link_of s.slots slot)) (class_has s own slot) (ap is_some is) has)

-- a singular one
pub is_single : (s : Schema) (slot : ℕ) (l : Link) → link_of s.slots slot ≡ Some l → l.many ≡ false → is_singular s slot ≡ true
is_single s slot l is one = ap (λ (o : Option Link). option_map_or (λ (x : Link). not x.many) o false) is ∙ ap not one
