-- The numbers by which a schema names its parts are within the limits of codes.
use Rattle.std.proofs.Common.{◌≡◌, ℕ, ◌<◌, ◌≤◌, Bool, true, false, cond, List, [], length, map, Option, Some, None, Result, Ok, Err, refl, arith}
use Rattle.std.specs.Prelude.{slice_get, position, option_map, option_and_then, nat_lt, IfSome}
use Rattle.std.specs.Option.{option_map_or}
use Rattle.std.specs.Str.{bytes_eq}
use Rattle.std.proofs.lemmas.List.{length-map}
use Rattle.std.proofs.lemmas.Option.{slice_get_within}
use Rattle.bb_basis.specs.Results.{◌>>=◌, ok_or}
use Rattle.bb_basis.proofs.PositionLemmas.{position_within}
use Rattle.bb_schema_classes.specs.declared.kind.Kind.{Kind as SlotKind}
use Rattle.bb_schema_classes.specs.declared.kind.Kind.TheVariants as held
use Rattle.bb_schema_classes.specs.declared.kind.Link.{Link}
use Rattle.bb_schema_classes.specs.declared.label_set.LabelSet.{LabelSet}
use Rattle.bb_schema_classes.specs.declared.value.Value.TheVariants as values
use Rattle.bb_schema_classes.specs.Naming.{AreNames}
use Rattle.bb_schema_classes.proofs.Laws.{All-at}
use Rattle.bb_schema.specs.declared.slot.Slot.{Slot}
use Rattle.bb_schema.specs.Kinds.{kind_of}
use Rattle.bb_schema.specs.Fits.{Fits, IsSpace}
use Rattle.bb_schema.specs.Schema.{Schema, class_named, space_named, label_set_named, label_named, slot_named, kind_of_slot, dims_of}
use Rattle.bb_schema.specs.declared.space.Dim.{Dim}
use Rattle.bb_schema.specs.declared.space.Space.{Space}
use Rattle.bb_code.specs.declared.frame.Kind.{Kind}
use Rattle.bb_code.specs.declared.frame.Kind.TheVariants as kinds
use Rattle.bb_lang.specs.Relation.{Relation}
use Rattle.bb_lang.specs.Relation.TheVariants as relations
use Rattle.bb_compile_scope.specs.Slots.{with_kind, slot_of, value_in, link_in, partner_in, value_slot, link_slot, partner_slot, index_of, in_byte, operand_due, dimension_at, dimension}
use Rattle.bb_compile_scope.specs.declared.fault.TextFlaw.{TextFlaw}
use Rattle.bb_compile_scope.specs.declared.fault.TextFlaw.TheVariants.{Unknown, Kind as WrongKind}
use Rattle.bb_compile_scope.proofs.Laws.{set_of_slot, class_of_link}
use Rattle.bb_compile_buffer.specs.Within.{byte, two_bytes, kind_within}
use Rattle.bb_theorem_grammar.proofs.judged_lemmas.within.WithinLists.{byte_within, bytes_within}

-- ---- what is known of an answer, if there is one

abbrev pub InByte : Option ℕ → Type 0
InByte None = Unit {0}
InByte (Some n) = byte n ≡ true

abbrev pub InTwoBytes : Option ℕ → Type 0
InTwoBytes None = Unit {0}
InTwoBytes (Some n) = two_bytes n ≡ true

abbrev pub IsValueSlot : Result (ℕ × Kind) TextFlaw → Type 0
IsValueSlot (Err flaw) = Unit {0}
IsValueSlot (Ok p) = (two_bytes p.0 ≡ true) × (kind_within p.1 ≡ true)

abbrev pub IsLinkSlot : Result (ℕ × Link) TextFlaw → Type 0
IsLinkSlot (Err flaw) = Unit {0}
IsLinkSlot (Ok p) = (two_bytes p.0 ≡ true) × (two_bytes p.1.to ≡ true)

abbrev pub IsPartnerSlot : Result (ℕ × ℕ) TextFlaw → Type 0
IsPartnerSlot (Err flaw) = Unit {0}
IsPartnerSlot (Ok p) = (two_bytes p.0 ≡ true) × (two_bytes p.1 ≡ true)

abbrev pub IsDimension : Option (ℕ × Kind) → Type 0
IsDimension None = Unit {0}
IsDimension (Some p) = (byte p.0 ≡ true) × (kind_within p.1 ≡ true)

-- ---- names in a list

in_two : {X : Type 0} (f : X → Bool) (xs : List X) (limit : ℕ) → length xs ≤ limit → limit ≤ 65536 → (o : Option ℕ) → position f xs ≡ o → InTwoBytes o
in_two f xs limit few small None at = tt
in_two f xs limit few small (Some i) at = let lt = position_within f xs i at in bytes_within i limit (omega (arith, lt, few)) small

in_one : {X : Type 0} (f : X → Bool) (xs : List X) → length xs ≤ 256 → (o : Option ℕ) → position f xs ≡ o → InByte o
in_one f xs few None at = tt
in_one f xs few (Some i) at = let lt = position_within f xs i at in byte_within i 256 (omega (arith, lt, few)) (omega arith)

module _ (s : Schema) (sf : Fits s) where
  pub class_in : (name : List ℕ) → InTwoBytes (class_named s name)
  class_in name = in_two (bytes_eq name) (map (λ k. k.name) s.classes) 256 sf.class_names.few (omega arith) (class_named s name) refl

  pub space_in : (name : List ℕ) → InTwoBytes (space_named s name)
  space_in name = in_two (bytes_eq name) (map (λ p. p.name) s.spaces) 256 sf.spaces.named.few (omega arith) (space_named s name) refl

  pub set_in : (name : List ℕ) → InTwoBytes (label_set_named s name)
  set_in name = in_two (bytes_eq name) (map (λ l. l.name) s.label_sets) 256 sf.label_sets.named.few (omega arith) (label_set_named s name) refl

  pub label_in : (set : ℕ) (name : List ℕ) → InByte (label_named s set name)
  label_in set name = by_set (slice_get s.label_sets set) refl
    where
      by_set : (o : Option LabelSet) → slice_get s.label_sets set ≡ o → InByte (option_and_then (λ (l : LabelSet). position (bytes_eq name) l.values) o)
      by_set None at = tt
      by_set (Some l) at = in_one (bytes_eq name) l.values (All-at (λ (k : LabelSet). AreNames 256 k.values) s.label_sets set l at sf.label_sets.labels).few (position (bytes_eq name) l.values) refl

  -- ---- numbers of the schema

  class_there : (class : ℕ) → class < length s.classes → two_bytes class ≡ true
  class_there class lt = bytes_within class 256 (let few = sf.few_classes in omega (arith, lt, few)) (omega arith)

  set_there : (set : ℕ) → set < length s.label_sets → two_bytes set ≡ true
  set_there set lt =
      let few = sf.label_sets.named.few in
      let count : length (map (λ (l : LabelSet). l.name) s.label_sets) ≡ length s.label_sets = length-map s.label_sets (λ (l : LabelSet). l.name) in
      bytes_within set 256 (omega (arith, lt, few, count)) (omega arith)

  slot_there : (slot : ℕ) (k : SlotKind) → kind_of_slot s slot ≡ Some k → two_bytes slot ≡ true
  slot_there slot k h = by_slot (slice_get s.slots slot) refl h
    where
      by_slot : (o : Option Slot) → slice_get s.slots slot ≡ o → option_map (λ (t : Slot). kind_of t.content) o ≡ Some k → two_bytes slot ≡ true
      by_slot None at h = absurd cc
      by_slot (Some t) at h =
          let lt = slice_get_within s.slots slot t at in
          let few = sf.few_slots in
          bytes_within slot 65536 (omega (arith, lt, few)) (omega arith)

  -- ---- slots of a class

  abbrev IsHere : Result (ℕ × SlotKind) TextFlaw → Type 0
  IsHere (Err flaw) = Unit {0}
  IsHere (Ok p) = kind_of_slot s p.0 ≡ Some p.1

  slot_here : (class : ℕ) (name : List ℕ) → IsHere (slot_of s class name)
  unfolding slot_of
  slot_here class name = by_name (slot_named s class name)
    where
      by_kind : (slot : ℕ) (o : Option SlotKind) → kind_of_slot s slot ≡ o → IsHere (ok_or (option_map (λ kind. (slot, kind)) o) Unknown)
      by_kind slot None at = tt
      by_kind slot (Some k) at = at

      by_name : (o : Option ℕ) → IsHere (ok_or o Unknown >>= λ slot. ok_or (with_kind s slot) Unknown)
      by_name None = tt
      by_name (Some slot) = by_kind slot (kind_of_slot s slot) refl

  pub value_here : (class : ℕ) (name : List ℕ) → IsValueSlot (value_slot s class name)
  unfolding value_slot
  value_here class name = by_slot (slot_of s class name) (slot_here class name)
    where
      by_kind : (slot : ℕ) (k : SlotKind) → kind_of_slot s slot ≡ Some k → IsValueSlot (value_in slot k)
      by_kind slot held.Int at = (slot_there slot held.Int at, refl)
      by_kind slot held.Text at = (slot_there slot held.Text at, refl)
      by_kind slot held.Bool at = (slot_there slot held.Bool at, refl)
      by_kind slot (held.Label set) at = (slot_there slot (held.Label set) at, set_there set (set_of_slot s sf slot set at))
      by_kind slot held.Interval at = (slot_there slot held.Interval at, refl)
      by_kind slot (held.Link link) at = tt

      by_slot : (r : Result (ℕ × SlotKind) TextFlaw) → IsHere r → IsValueSlot (r >>= λ p. value_in p.0 p.1)
      by_slot (Err flaw) at = tt
      by_slot (Ok p) at = by_kind p.0 p.1 at

  -- a link slot, which is there
  abbrev IsLink : Result (ℕ × Link) TextFlaw → Type 0
  IsLink (Err flaw) = Unit {0}
  IsLink (Ok p) = kind_of_slot s p.0 ≡ Some (held.Link p.1)

  is_link : (class : ℕ) (name : List ℕ) → IsLink (link_slot s class name)
  unfolding link_slot
  is_link class name = by_slot (slot_of s class name) (slot_here class name)
    where
      by_kind : (slot : ℕ) (k : SlotKind) → kind_of_slot s slot ≡ Some k → IsLink (link_in slot k)
      by_kind slot held.Int at = tt
      by_kind slot held.Text at = tt
      by_kind slot held.Bool at = tt
      by_kind slot (held.Label set) at = tt
      by_kind slot held.Interval at = tt
      by_kind slot (held.Link link) at = at

      by_slot : (r : Result (ℕ × SlotKind) TextFlaw) → IsHere r → IsLink (r >>= λ p. link_in p.0 p.1)
      by_slot (Err flaw) at = tt
      by_slot (Ok p) at = by_kind p.0 p.1 at

  leads_there : (slot : ℕ) (link : Link) → kind_of_slot s slot ≡ Some (held.Link link) → two_bytes link.to ≡ true
  leads_there slot link at = class_there link.to (class_of_link s sf slot link at)

  pub link_in_two : (class : ℕ) (name : List ℕ) → IsLinkSlot (link_slot s class name)
  link_in_two class name = by_link (link_slot s class name) (is_link class name)
    where
      by_link : (r : Result (ℕ × Link) TextFlaw) → IsLink r → IsLinkSlot r
      by_link (Err flaw) at = tt
      by_link (Ok p) at = (slot_there p.0 (held.Link p.1) at, leads_there p.0 p.1 at)

  pub partner_in_two : (class : ℕ) (name : List ℕ) → IsPartnerSlot (partner_slot s class name)
  unfolding partner_slot
  partner_in_two class name = by_link (link_slot s class name) (is_link class name)
    where
      by_many : (slot : ℕ) (link : Link) (many : Bool) → kind_of_slot s slot ≡ Some (held.Link link) → IsPartnerSlot (cond many (Err WrongKind) (Ok (slot, link.to)))
      by_many slot link true at = tt
      by_many slot link false at = (slot_there slot (held.Link link) at, leads_there slot link at)

      by_link : (r : Result (ℕ × Link) TextFlaw) → IsLink r → IsPartnerSlot (r >>= λ p. partner_in p.0 p.1)
      by_link (Err flaw) at = tt
      by_link (Ok p) at = by_many p.0 p.1 p.1.many at

  -- ---- dimensions of a space

  due_there : (relation : Relation) (set : Option ℕ) → IfSome set (λ n. n < length s.label_sets) → (n : ℕ) → IsDimension (option_and_then (λ due. option_map (λ m. (m, due)) (in_byte n)) (operand_due relation set))
  due_there relation set there n = by_byte (nat_lt n 256) refl relation set there
    where
      by_due : (kind : Kind) → kind_within kind ≡ true → (b : Bool) → nat_lt n 256 ≡ b → IsDimension (option_map (λ m. (m, kind)) (cond b (Some n) None))
      by_due kind small true lt = (lt, small)
      by_due kind small false lt = tt

      by_byte : (b : Bool) → nat_lt n 256 ≡ b → (relation : Relation) (set : Option ℕ) → IfSome set (λ m. m < length s.label_sets) → IsDimension (option_and_then (λ due. option_map (λ m. (m, due)) (in_byte n)) (operand_due relation set))
      by_byte b lt relations.Is (Some set) there = by_due (kinds.Label set) (set_there set there) (nat_lt n 256) refl
      by_byte b lt relations.Is None there = tt
      by_byte b lt relations.Within (Some set) there = tt
      by_byte b lt relations.Within None there = by_due kinds.Interval refl (nat_lt n 256) refl
      by_byte b lt relations.Covers (Some set) there = tt
      by_byte b lt relations.Covers None there = by_due kinds.Interval refl (nat_lt n 256) refl
      by_byte b lt relations.Overlaps (Some set) there = tt
      by_byte b lt relations.Overlaps None there = by_due kinds.Interval refl (nat_lt n 256) refl
      by_byte b lt relations.Less (Some set) there = tt
      by_byte b lt relations.Less None there = by_due kinds.Interval refl (nat_lt n 256) refl
      by_byte b lt relations.More (Some set) there = tt
      by_byte b lt relations.More None there = by_due kinds.Interval refl (nat_lt n 256) refl

  dims_there : (space n : ℕ) (d : Dim) → slice_get (dims_of s space) n ≡ Some d → IfSome d.set (λ m. m < length s.label_sets)
  dims_there space n d h = by_space (slice_get s.spaces space) refl h
    where
      by_space : (o : Option Space) → slice_get s.spaces space ≡ o → slice_get (option_map_or (λ (p : Space). p.dims) o []) n ≡ Some d → IfSome d.set (λ m. m < length s.label_sets)
      by_space None at h = absurd cc
      by_space (Some p) at h = All-at (λ (d : Dim). IfSome d.set (λ m. m < length s.label_sets)) p.dims n d h (All-at (IsSpace s) s.spaces space p at sf.spaces.each).sets

  pub dimension_in : (space : ℕ) (name : List ℕ) (relation : Relation) → IsDimension (dimension s space name relation)
  unfolding dimension
  dimension_in space name relation = by_index (index_of (dims_of s space) name)
    where
      by_dim : (n : ℕ) (o : Option Dim) → slice_get (dims_of s space) n ≡ o → IsDimension (option_and_then (λ (d : Dim). option_and_then (λ due. option_map (λ m. (m, due)) (in_byte n)) (operand_due relation d.set)) o)
      by_dim n None at = tt
      by_dim n (Some d) at = due_there relation d.set (dims_there space n d at) n

      by_index : (o : Option ℕ) → IsDimension (option_and_then (dimension_at (dims_of s space) relation) o)
      by_index None = tt
      by_index (Some n) = by_dim n (slice_get (dims_of s space) n) refl
