-- The two slots of a couple.
use Rattle.std.proofs.Common.{◌≡◌, ℕ, ◌<◌, ◌≤◌, min, ◌⊎◌, inl, inr, Bool, true, false, Option, Some, None, option_map, refl, sym, ap, ◌∙◌, arith, nat_lt, length}
use Rattle.std.specs.Prelude.{slice_get, option_and_then}
use Rattle.std.proofs.lemmas.Bool.Decides.{nat_tests}
use Rattle.std.proofs.lemmas.Option.{slice_get_within}
use Rattle.std.proofs.lemmas.Bool.{lt-ltb, ltb-true, ltb-false}
use Rattle.bb_schema_classes.specs.declared.kind.Link.{Link}
use Rattle.bb_schema.specs.declared.couple.Side.{Side}
use Rattle.bb_schema.specs.declared.slot.Slot.{Slot}
use Rattle.bb_schema.specs.Schema.{Schema}
use Rattle.bb_schema.specs.Slots.{link_in, link_of}
use Rattle.bb_schema.specs.Couples.{firsts, couple_end, couple_of}
use Rattle.bb_schema.specs.Fits.{IsCoupled}
use Rattle.bb_schema.proofs.Laws.{couple_listed}
use Rattle.bb_links.specs.proving.Partners.{opposite}

there_by : (found : Option Slot) (l : Link) → option_and_then (λ t. link_in t.content) found ≡ Some l → (t : Slot) × (found ≡ Some t)
there_by None l is = absurd cc
there_by (Some t) l is = (t, refl)

module _ (s : Schema) (coupled : (n : ℕ) (l : Link) → link_of s.slots n ≡ Some l → IsCoupled s.slots n l) where
  link_by : (n : ℕ) (e : ℕ × Side) (found : Option Link) → link_of s.slots n ≡ found → option_map (couple_end s.slots n) found ≡ Some e → (l : Link) × (link_of s.slots n ≡ Some l) × (couple_end s.slots n l ≡ e)
  link_by n e None found is = absurd cc
  link_by n e (Some l) found is = (l, found, let same : couple_end s.slots n l ≡ e = cc in same)

  -- a slot of a couple is a link slot
  pub link_at : (n : ℕ) (e : ℕ × Side) → couple_of s n ≡ Some e → (l : Link) × (link_of s.slots n ≡ Some l) × (couple_end s.slots n l ≡ e)
  link_at n e is = link_by n e (link_of s.slots n) refl is

  inverse_by : (n : ℕ) (l back : Link) (b : Bool) → nat_lt n l.inverse ≡ b → (l.inverse ≡ n → ⊥) → back.inverse ≡ n
      → couple_end s.slots l.inverse back ≡ (let e : ℕ × Side = ((couple_end s.slots n l).0, opposite (couple_end s.slots n l).1) in e)
  inverse_by n l back true test other returns =
      let lt : n < l.inverse = ltb-true n l.inverse test in
      let not : nat_lt l.inverse n ≡ false = grind (arith, nat_tests) in
      rw (returns, test, not) refl
  inverse_by n l back false test other returns =
      let le : l.inverse ≤ n = ltb-false n l.inverse test in
      let lt : l.inverse < n = omega (arith, le, other) in
      rw (returns, test, lt-ltb l.inverse n lt) refl

  -- the inverse of a link slot is at the other side
  pub inverse_end : (n : ℕ) (l : Link) → link_of s.slots n ≡ Some l
      → couple_of s l.inverse ≡ Some (let e : ℕ × Side = ((couple_end s.slots n l).0, opposite (couple_end s.slots n l).1) in e)
  inverse_end n l is =
      let c = coupled n l is in
      ap (option_map (couple_end s.slots l.inverse)) c.is ∙ ap (λ e. Some e) (inverse_by n l c.back (nat_lt n l.inverse) refl c.other c.returns)

  -- another slot of its couple is the slot itself, at the same side, or its inverse, at the other side
  abbrev pub IsEither : (n k : ℕ) (l m : Link) → Type 0
  IsEither n k l m =
      (((couple_end s.slots k m).1 ≡ (couple_end s.slots n l).1) × (k ≡ n))
      ⊎ (((couple_end s.slots k m).1 ≡ opposite (couple_end s.slots n l).1) × (k ≡ l.inverse))

  either_by : (n k : ℕ) (l m : Link) (b c : Bool) → nat_lt n l.inverse ≡ b → nat_lt k m.inverse ≡ c → link_of s.slots n ≡ Some l → link_of s.slots k ≡ Some m
      → min n l.inverse ≡ min k m.inverse → IsEither n k l m
  either_by n k l m true true test test2 is is2 low =
      let lt : n < l.inverse = ltb-true n l.inverse test in
      let lt2 : k < m.inverse = ltb-true k m.inverse test2 in
      inl (rw (test, test2) refl, omega (arith, lt, lt2, low))
  either_by n k l m true false test test2 is is2 low =
      let lt : n < l.inverse = ltb-true n l.inverse test in
      let le2 : m.inverse ≤ k = ltb-false k m.inverse test2 in
      let e : m.inverse ≡ n = omega (arith, lt, le2, low) in
      let c = coupled k m is2 in
      let same : c.back ≡ l = let both : Some c.back ≡ Some l = sym c.is ∙ (ap (link_of s.slots) e ∙ is) in cc in
      inr (rw (test, test2) refl, sym c.returns ∙ ap (λ (x : Link). x.inverse) same)
  either_by n k l m false true test test2 is is2 low =
      let le : l.inverse ≤ n = ltb-false n l.inverse test in
      let lt2 : k < m.inverse = ltb-true k m.inverse test2 in
      inr (rw (test, test2) refl, omega (arith, le, lt2, low))
  either_by n k l m false false test test2 is is2 low =
      let le : l.inverse ≤ n = ltb-false n l.inverse test in
      let le2 : m.inverse ≤ k = ltb-false k m.inverse test2 in
      let e : m.inverse ≡ l.inverse = omega (arith, le, le2, low) in
      let c = coupled n l is in
      let c2 = coupled k m is2 in
      let same : c2.back ≡ c.back = let both : Some c2.back ≡ Some c.back = sym c2.is ∙ (ap (link_of s.slots) e ∙ c.is) in cc in
      inl (rw (test, test2) refl, sym c2.returns ∙ (ap (λ (x : Link). x.inverse) same ∙ c.returns))

  pub is_either : (n k : ℕ) (l m : Link) → link_of s.slots n ≡ Some l → link_of s.slots k ≡ Some m → (couple_end s.slots k m).0 ≡ (couple_end s.slots n l).0 → IsEither n k l m
  is_either n k l m is is2 same =
      let both : Some (min n l.inverse) ≡ Some (min k m.inverse) = sym (couple_listed s.slots n l is (coupled n l is)) ∙ (ap (slice_get (firsts 0 s.slots)) (sym same) ∙ couple_listed s.slots k m is2 (coupled k m is2)) in
      either_by n k l m (nat_lt n l.inverse) (nat_lt k m.inverse) refl refl is is2 (let e : min n l.inverse ≡ min k m.inverse = cc in e)

  -- a link slot is there
  pub link_within : (n : ℕ) (l : Link) → link_of s.slots n ≡ Some l → nat_lt n (length s.slots) ≡ true
  link_within n l is = let t = there_by (slice_get s.slots n) l is in lt-ltb n (length s.slots) (slice_get_within s.slots n t.0 t.1)
