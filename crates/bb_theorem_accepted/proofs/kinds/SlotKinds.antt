-- The label set of what an ordinary slot holds is one of the schema, and so is the class that a link slot leads to.
use Rattle.std.proofs.Common.{◌≡◌, ℕ, ◌<◌, Bool, true, false, cond, List, length, Option, Some, None, Result, Ok, Err, refl, subst, sym}
use Rattle.std.specs.Prelude.{option_map}
use Rattle.std.proofs.lemmas.Bool.{lt-ltb}
use Rattle.bb_basis.specs.Results.{ok_or}
use Rattle.bb_basis.proofs.ResultLemmas.{bind_ok, same_ok, ok_or_ok}
use Rattle.bb_schema_classes.specs.declared.kind.Kind.{Kind as SlotKind}
use Rattle.bb_schema_classes.specs.declared.kind.Kind.TheVariants as held
use Rattle.bb_schema_classes.specs.declared.kind.Link.{Link}
use Rattle.bb_schema.specs.Schema.{Schema, slot_named, kind_of_slot}
use Rattle.bb_schema.specs.Fits as schemas
use Rattle.bb_code.specs.declared.frame.Kind.{Kind}
use Rattle.bb_code.specs.declared.frame.Kind.TheVariants as kinds
use Rattle.bb_compile_scope.specs.declared.fault.TextFlaw.{TextFlaw}
use Rattle.bb_compile_scope.specs.declared.fault.TextFlaw.TheVariants.{Unknown, Kind as WrongKind}
use Rattle.bb_compile_scope.specs.Slots.{with_kind, slot_of, value_in, partner_in, value_slot, link_slot, partner_slot}
use Rattle.bb_compile_scope.specs.Slots as Slots
use Rattle.bb_compile_scope.proofs.Laws.{set_of_slot, class_of_link}
use Rattle.bb_verify.specs.Tables.{known_kind}
use Rattle.bb_theorem_accepted.proofs.kinds.HeldLemmas.{named_kind}

module _ (s : Schema) (sf : schemas.Fits s) where
  pub slot_kind : (c : ℕ) (name : List ℕ) (p : ℕ × Kind) → value_slot s c name ≡ Ok p → known_kind s p.1 ≡ Ok tt
  unfolding value_slot slot_of
  slot_kind c name p h =
      let one = bind_ok (slot_of s c name) (λ q. value_in q.0 q.1) p h in
      let two = bind_ok (ok_or (slot_named s c name) Unknown) (λ slot. ok_or (with_kind s slot) Unknown) one.0 one.1 in
      by_kind two.0 (kind_of_slot s two.0) refl (ok_or_ok Unknown (with_kind s two.0) one.0 two.2) one.2
    where
      by_pair : (slot : ℕ) (k : Kind) → known_kind s k ≡ Ok tt → (let r : Result (ℕ × Kind) TextFlaw = Ok (slot, k) in r) ≡ Ok p → known_kind s p.1 ≡ Ok tt
      by_pair slot k known h = subst (λ (q : ℕ × Kind). known_kind s q.1 ≡ Ok tt) (same_ok (slot, k) p h) known

      by_held : (slot : ℕ) (k : SlotKind) → kind_of_slot s slot ≡ Some k → value_in slot k ≡ Ok p → known_kind s p.1 ≡ Ok tt
      by_held slot held.Int at h = by_pair slot kinds.Int refl h
      by_held slot held.Text at h = by_pair slot kinds.Text refl h
      by_held slot held.Bool at h = by_pair slot kinds.Bool refl h
      by_held slot (held.Label set) at h = by_pair slot (kinds.Label set) (rw (lt-ltb set (length s.label_sets) (set_of_slot s sf slot set at)) refl) h
      by_held slot held.Interval at h = by_pair slot kinds.Interval refl h
      by_held slot (held.Link link) at h = absurd cc

      by_kind : (slot : ℕ) (o : Option SlotKind) → kind_of_slot s slot ≡ o → {q : ℕ × SlotKind} → option_map (λ kind. (slot, kind)) o ≡ Some q → value_in q.0 q.1 ≡ Ok p → known_kind s p.1 ≡ Ok tt
      by_kind slot None at is h = absurd cc
      by_kind slot (Some k) at is h = by_held slot k at (let e : (slot, k) ≡ _ = cc in subst (λ (q : ℕ × SlotKind). value_in q.0 q.1 ≡ Ok p) (sym e) h)

  -- ---- where a link slot leads

  pub link_class : (c : ℕ) (name : List ℕ) (q : ℕ × Link) → link_slot s c name ≡ Ok q → q.1.to < length s.classes
  unfolding link_slot
  link_class c name q h =
      let two = bind_ok (slot_of s c name) (λ p. Slots.link_in p.0 p.1) q h in
      by_kind two.0.0 two.0.1 (named_kind s sf c name two.0 two.1).1 two.2
    where
      by_kind : (slot : ℕ) (k : SlotKind) → kind_of_slot s slot ≡ Some k → Slots.link_in slot k ≡ Ok q → q.1.to < length s.classes
      by_kind slot (held.Link link) at is =
          subst (λ (p : ℕ × Link). p.1.to < length s.classes) (same_ok (slot, link) q is) (class_of_link s sf slot link at)
      by_kind slot held.Int at is = absurd cc
      by_kind slot held.Text at is = absurd cc
      by_kind slot held.Bool at is = absurd cc
      by_kind slot (held.Label set) at is = absurd cc
      by_kind slot held.Interval at is = absurd cc

  pub partner_class : (c : ℕ) (name : List ℕ) (q : ℕ × ℕ) → partner_slot s c name ≡ Ok q → q.1 < length s.classes
  unfolding partner_slot link_slot
  partner_class c name q h =
      let one = bind_ok (link_slot s c name) (λ p. partner_in p.0 p.1) q h in
      let two = bind_ok (slot_of s c name) (λ p. Slots.link_in p.0 p.1) one.0 one.1 in
      by_kind two.0.0 two.0.1 (named_kind s sf c name two.0 two.1).1 two.2 one.2
    where
      by_many : (slot : ℕ) (link : Link) (m : Bool) → kind_of_slot s slot ≡ Some (held.Link link) → (let r : Result (ℕ × ℕ) TextFlaw = cond m (Err WrongKind) (Ok (slot, link.to)) in r) ≡ Ok q → q.1 < length s.classes
      by_many slot link true at h = absurd cc
      by_many slot link false at h =
          let e = same_ok (slot, link.to) q h in
          subst (λ (p : ℕ × ℕ). p.1 < length s.classes) e (class_of_link s sf slot link at)

      by_kind : (slot : ℕ) (k : SlotKind) → kind_of_slot s slot ≡ Some k → {p : ℕ × Link} → Slots.link_in slot k ≡ Ok p → partner_in p.0 p.1 ≡ Ok q → q.1 < length s.classes
      by_kind slot (held.Link link) at is h = let e = same_ok (slot, link) _ is in by_many slot link link.many at (subst (λ (p : ℕ × Link). partner_in p.0 p.1 ≡ Ok q) (sym e) h)
      by_kind slot held.Int at is h = absurd cc
      by_kind slot held.Text at is h = absurd cc
      by_kind slot held.Bool at is h = absurd cc
      by_kind slot (held.Label set) at is h = absurd cc
      by_kind slot held.Interval at is h = absurd cc
