-- A slot that a name means in a class is one of each class below, and holds the same there.
use Rattle.std.proofs.Common.{◌≡◌, ℕ, Bool, true, false, ◌||◌, ◌<◌, cond, List, [], ◌∷◌, length, Option, Some, None, Result, Ok, Err, refl, subst, sym, ap, ◌∙◌}
use Rattle.std.specs.Prelude.{slice_get, find, option_map, ◌==◌}
use Rattle.std.specs.List.{list_any}
use Rattle.std.specs.Option.{option_map_or}
use Rattle.std.specs.Str.{bytes_eq}
use Rattle.std.proofs.lemmas.Bool.{eq-eqb}
use Rattle.std.proofs.lemmas.Option.{slice_get_within}
use Rattle.std.proofs.lemmas.Slice.Eq.{bytes_eq-Decides}
use Rattle.bb_basis.specs.Results.{◌>>=◌, ok_or}
use Rattle.bb_basis.proofs.ResultLemmas.{bind_ok, same_ok, ok_or_ok}
use Rattle.bb_schema_classes.specs.declared.class.Class.{Class}
use Rattle.bb_schema_classes.specs.declared.kind.Kind.{Kind as SlotKind}
use Rattle.bb_schema_classes.specs.declared.kind.Kind.TheVariants as held
use Rattle.bb_schema_classes.specs.declared.kind.Link.{Link}
use Rattle.bb_schema_classes.specs.Inheritance.{is_among}
use Rattle.bb_schema.specs.declared.slot.Slot.{Slot}
use Rattle.bb_schema.specs.Schema.{Schema, slot_named, slots_of, kind_of_slot, owner_of, descends}
use Rattle.bb_schema.specs.Slots.{has_name}
use Rattle.bb_schema.specs.Fits as schemas
use Rattle.bb_code.specs.declared.flaw.Flaw.{Flaw as CodeFlaw}
use Rattle.bb_code.specs.declared.flaw.Flaw.TheVariants as flaws
use Rattle.bb_code.specs.declared.frame.Kind.{Kind}
use Rattle.bb_code.specs.declared.frame.Kind.TheVariants as kinds
use Rattle.bb_compile_scope.specs.declared.fault.TextFlaw.{TextFlaw}
use Rattle.bb_compile_scope.specs.declared.fault.TextFlaw.TheVariants.{Unknown, Kind as WrongKind}
use Rattle.bb_compile_scope.specs.Slots.{with_kind, slot_of, value_in, link_in, partner_in, value_slot, link_slot, partner_slot}
use Rattle.bb_verify_effect.specs.Due as due
use Rattle.bb_theorem_accepted.proofs.kinds.UnderLemmas.{IsUnder, descends_on}

module _ (p : ℕ → Bool) where
  sound_by : (x : ℕ) (xs : List ℕ) (n : ℕ) (b : Bool) → p x ≡ b → (find p xs ≡ Some n → (p n ≡ true) × (is_among xs n ≡ true)) → cond b (Some x) (find p xs) ≡ Some n → (p n ≡ true) × (is_among (x ∷ xs) n ≡ true)
  unfolding is_among
  sound_by x xs n true passes rest h = let e : x ≡ n = cc in (ap p (sym e) ∙ passes, ap (λ b. b || list_any (λ d. d == n) xs) (eq-eqb x n e))
  sound_by x xs n false passes rest h = let r = rest h in (r.0, by_tail (x == n) r.1)
    where
      by_tail : (b : Bool) → list_any (λ d. d == n) xs ≡ true → (b || list_any (λ d. d == n) xs) ≡ true
      by_tail true h = refl
      by_tail false h = h

  -- what is found passes, and is one of them
  pub find_sound : (xs : List ℕ) (n : ℕ) → find p xs ≡ Some n → (p n ≡ true) × (is_among xs n ≡ true)
  find_sound [] n h = absurd cc
  find_sound (x ∷ xs) n h = sound_by x xs n (p x) refl (find_sound xs n) h

-- the slot of a number that has a name
pub named_slot : (slots : List Slot) (name : List ℕ) (n : ℕ) → has_name slots name n ≡ true → (t : Slot) × (slice_get slots n ≡ Some t) × (name ≡ t.name)
unfolding has_name
named_slot slots name n h = by_slot (slice_get slots n) refl h
  where
    by_slot : (o : Option Slot) → slice_get slots n ≡ o → option_map_or (λ t. bytes_eq name t.name) o false ≡ true → (t : Slot) × (slice_get slots n ≡ Some t) × (name ≡ t.name)
    by_slot None at h = absurd cc
    by_slot (Some t) at h = (t, at, (bytes_eq-Decides name t.name).0 h)

-- a class with a slot is there
class_within : (s : Schema) (c slot : ℕ) → is_among (slots_of s c) slot ≡ true → c < length s.classes
unfolding is_among
class_within s c slot h = by_class (slice_get s.classes c) refl h
  where
    by_class : (o : Option Class) → slice_get s.classes c ≡ o → list_any (λ d. d == slot) (option_map_or (λ (k : Class). k.slots) o []) ≡ true → c < length s.classes
    by_class None at h = absurd cc
    by_class (Some k) at h = slice_get_within s.classes c k at

-- ---- what slots hold

module _ (s : Schema) (sf : schemas.Fits s) (c : ℕ) (name : List ℕ) where
  pub named_kind : (p : ℕ × SlotKind) → slot_of s c name ≡ Ok p → (slot_named s c name ≡ Some p.0) × (kind_of_slot s p.0 ≡ Some p.1)
  unfolding slot_of
  named_kind p h =
      let one = bind_ok (ok_or (slot_named s c name) Unknown) (λ slot. ok_or (with_kind s slot) Unknown) p h in
      let named = ok_or_ok Unknown (slot_named s c name) one.0 one.1 in
      by_kind one.0 (kind_of_slot s one.0) named refl (ok_or_ok Unknown (with_kind s one.0) p one.2)
    where
      by_kind : (slot : ℕ) (o : Option SlotKind) → slot_named s c name ≡ Some slot → kind_of_slot s slot ≡ o → option_map (λ kind. (slot, kind)) o ≡ Some p → (slot_named s c name ≡ Some p.0) × (kind_of_slot s p.0 ≡ Some p.1)
      by_kind slot None named at h = absurd cc
      by_kind slot (Some k) named at h =
          let e : (slot, k) ≡ p = cc in
          subst (λ (q : ℕ × SlotKind). (slot_named s c name ≡ Some q.0) × (kind_of_slot s q.0 ≡ Some q.1)) e (named, at)

  module _ (b : ℕ) (below : descends s b c ≡ true) where
    held_below : (p : ℕ × SlotKind) → slot_of s c name ≡ Ok p → due.held_in s b p.0 ≡ Some p.1
    unfolding due.held_in
    held_below p h =
        let is = named_kind p h in
        let found = find_sound (has_name s.slots name) (slots_of s c) p.0 is.0 in
        let t = named_slot s.slots name p.0 found.0 in
        let owned : descends s c t.0.owner ≡ true = sym (sf.owned c p.0 t.0 (class_within s c p.0 found.1) t.1) ∙ found.1 in
        let owner : owner_of s p.0 ≡ Some t.0.owner = ap (option_map (λ (x : Slot). x.owner)) t.1 in
        let there : option_map_or (descends s b) (owner_of s p.0) false ≡ true = ap (λ o. option_map_or (descends s b) o false) owner ∙ descends_on s sf b c t.0.owner below owned in
        rw there is.1

    -- an ordinary slot
    pub value_below : (p : ℕ × Kind) → value_slot s c name ≡ Ok p → due.plain_slot s b p.0 ≡ Ok p.1
    unfolding value_slot due.plain_slot
    value_below p h =
        let one = bind_ok (slot_of s c name) (λ q. value_in q.0 q.1) p h in
        let plain = by_kind one.0.0 one.0.1 one.2 in
        let there : due.held_in s b p.0 ≡ Some one.0.1 = ap (due.held_in s b) (sym plain.0) ∙ held_below one.0 one.1 in
        rw (there, plain.1) refl
      where
        by_pair : (slot : ℕ) (k : Kind) → (let r : Result (ℕ × Kind) TextFlaw = Ok (slot, k) in r) ≡ Ok p → (slot ≡ p.0) × (k ≡ p.1)
        by_pair slot k h = let e = same_ok (slot, k) p h in (ap (λ (q : ℕ × Kind). q.0) e, ap (λ (q : ℕ × Kind). q.1) e)

        plain_of : (slot : ℕ) (k : Kind) → (let r : Result (ℕ × Kind) TextFlaw = Ok (slot, k) in r) ≡ Ok p → (slot ≡ p.0) × (Some k ≡ Some p.1)
        plain_of slot k h = let e = by_pair slot k h in (e.0, ap (λ x. Some x) e.1)

        by_kind : (slot : ℕ) (k : SlotKind) → value_in slot k ≡ Ok p → (slot ≡ p.0) × (due.plain_kind k ≡ Some p.1)
        by_kind slot held.Int h = plain_of slot kinds.Int h
        by_kind slot held.Text h = plain_of slot kinds.Text h
        by_kind slot held.Bool h = plain_of slot kinds.Bool h
        by_kind slot (held.Label set) h = plain_of slot (kinds.Label set) h
        by_kind slot held.Interval h = plain_of slot kinds.Interval h
        by_kind slot (held.Link link) h = absurd cc

    -- a link slot
    pub link_below : (p : ℕ × Link) → link_slot s c name ≡ Ok p → due.link_slot s b p.0 ≡ Ok p.1
    unfolding link_slot due.link_slot
    link_below p h =
        let one = bind_ok (slot_of s c name) (λ q. link_in q.0 q.1) p h in
        let link = by_kind one.0.0 one.0.1 one.2 in
        let there : due.held_in s b p.0 ≡ Some one.0.1 = ap (due.held_in s b) (sym link.0) ∙ held_below one.0 one.1 in
        rw (there, link.1) refl
      where
        by_kind : (slot : ℕ) (k : SlotKind) → link_in slot k ≡ Ok p → (slot ≡ p.0) × (due.link_kind k ≡ Some p.1)
        by_kind slot (held.Link link) h = let e = same_ok (slot, link) p h in (ap (λ (q : ℕ × Link). q.0) e, ap (λ (q : ℕ × Link). Some q.1) e)
        by_kind slot held.Int h = absurd cc
        by_kind slot held.Text h = absurd cc
        by_kind slot held.Bool h = absurd cc
        by_kind slot (held.Label set) h = absurd cc
        by_kind slot held.Interval h = absurd cc

    -- a link slot that holds one unit at most
    pub single_below : (q : ℕ × ℕ) → partner_slot s c name ≡ Ok q → (link : Link) × (due.single_slot s b q.0 ≡ Ok link) × (link.to ≡ q.1)
    unfolding partner_slot due.single_slot
    single_below q h =
        let one = bind_ok (link_slot s c name) (λ p. partner_in p.0 p.1) q h in
        by_many one.0.0 one.0.1 one.0.1.many refl (link_below one.0 one.1) one.2
      where
        by_many : (slot : ℕ) (link : Link) (m : Bool) → link.many ≡ m → due.link_slot s b slot ≡ Ok link → (let r : Result (ℕ × ℕ) TextFlaw = cond m (Err WrongKind) (Ok (slot, link.to)) in r) ≡ Ok q → (link : Link) × (due.single_slot s b q.0 ≡ Ok link) × (link.to ≡ q.1)
        by_many slot link true is there h = absurd cc
        by_many slot link false is there h =
            let e = same_ok (slot, link.to) q h in (
              link,
              ap (λ (p : ℕ × ℕ). due.single_slot s b p.0) (sym e)
                  ∙ (ap (λ (r : Result Link CodeFlaw). r >>= λ l. cond l.many (Err flaws.Slot) (Ok l)) there ∙ ap (λ m. (let r : Result Link CodeFlaw = cond m (Err flaws.Slot) (Ok link) in r)) is),
              ap (λ (p : ℕ × ℕ). p.1) e,
            )

  -- the kind of what an ordinary slot holds is that of a value
  pub value_known : (p : ℕ × Kind) → value_slot s c name ≡ Ok p → IsUnder s sf p.1 p.1
  unfolding value_slot
  value_known p h =
      let one = bind_ok (slot_of s c name) (λ q. value_in q.0 q.1) p h in
      by_kind one.0.0 one.0.1 one.2
    where
      by_pair : (slot : ℕ) (k : Kind) → IsUnder s sf k k → (let r : Result (ℕ × Kind) TextFlaw = Ok (slot, k) in r) ≡ Ok p → IsUnder s sf p.1 p.1
      by_pair slot k known h = subst (λ (q : ℕ × Kind). IsUnder s sf q.1 q.1) (same_ok (slot, k) p h) known

      by_kind : (slot : ℕ) (k : SlotKind) → value_in slot k ≡ Ok p → IsUnder s sf p.1 p.1
      by_kind slot held.Int h = by_pair slot kinds.Int refl h
      by_kind slot held.Text h = by_pair slot kinds.Text refl h
      by_kind slot held.Bool h = by_pair slot kinds.Bool refl h
      by_kind slot (held.Label set) h = by_pair slot (kinds.Label set) refl h
      by_kind slot held.Interval h = by_pair slot kinds.Interval refl h
      by_kind slot (held.Link link) h = absurd cc
