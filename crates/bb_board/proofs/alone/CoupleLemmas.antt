-- Each couple has a slot at each side.
use Rattle.std.proofs.Common.{◌≡◌, ℕ, zero, suc, ◌+◌, Bool, true, false, List, [], ◌∷◌, length, take, Option, Some, None, refl, ap, subst, ◌∙◌, arith, nat_lt}
use Rattle.std.specs.Prelude.{slice_get, option_and_then, option_map, if◌then◌else◌}
use Rattle.std.specs.Option.{option_map_or}
use Rattle.bb_schema.specs.declared.slot.Slot.{Slot}
use Rattle.bb_schema.specs.declared.couple.Side.TheVariants.{A, B}
use Rattle.bb_schema_classes.specs.declared.kind.Link.{Link}
use Rattle.bb_schema.specs.Schema.{Schema}
use Rattle.bb_schema.specs.Slots.{link_in, link_of}
use Rattle.bb_schema.specs.Couples.{comes_first, firsts, couple_end, couple_of, couple_number}
use Rattle.bb_schema.specs.Fits as schemas
use Rattle.bb_board.proofs.SideLemmas.{inverse_end}

-- the slot of a couple's number in the list of first slots numbered from n, with how many come before it
record IsFirst (n : ℕ) (slots : List Slot) (j a : ℕ) : Type 0 where
  at : ℕ
  slot : Slot
  there : slice_get slots at ≡ Some slot
  number : a ≡ n + at
  first : comes_first a slot ≡ true
  before : length (firsts n (take at slots)) ≡ j

first_by : (n : ℕ) (t : Slot) (slots : List Slot) (b : Bool) (j a : ℕ) → comes_first n t ≡ b
    → slice_get (if b then n ∷ firsts (suc n) slots else firsts (suc n) slots) j ≡ Some a
    → ((k : ℕ) → slice_get (firsts (suc n) slots) k ≡ Some a → IsFirst (suc n) slots k a) → IsFirst n (t ∷ slots) j a
unfolding firsts
first_by n t slots true zero a first at rest =
    let same : n ≡ a = cc in
    record { at = 0; slot = t; there = refl; number = omega (arith, same); first = subst (λ m. comes_first m t ≡ true) same first; before = refl }
first_by n t slots true (suc j) a first at rest =
    let r = rest j at in
    record { at = suc r.at; slot = r.slot; there = r.there; number = omega (arith, r.number); first = r.first; before = rw first (ap suc r.before) }
first_by n t slots false j a first at rest =
    let r = rest j at in
    record { at = suc r.at; slot = r.slot; there = r.there; number = omega (arith, r.number); first = r.first; before = rw first r.before }

first_at : (n : ℕ) (slots : List Slot) (j a : ℕ) → slice_get (firsts n slots) j ≡ Some a → IsFirst n slots j a
unfolding firsts
first_at n [] j a at = absurd cc
first_at n (t ∷ slots) j a at = first_by n t slots (comes_first n t) j a refl at (λ k there. first_at (suc n) slots k a there)

link_by : (a : ℕ) (o : Option Link) → option_map_or (λ l. nat_lt a l.inverse) o false ≡ true → (l : Link) × (o ≡ Some l) × (nat_lt a l.inverse ≡ true)
link_by a None first = absurd cc
link_by a (Some l) first = (l, refl, first)

module _ (s : Schema) (sf : schemas.Fits s) where
  -- the first slot of a couple is at side A
  pub couple_first : (j a : ℕ) → slice_get (firsts 0 s.slots) j ≡ Some a → couple_of s a ≡ Some (j, A)
  couple_first j a at =
      let f = first_at 0 s.slots j a at in
      let l = link_by a (link_in f.slot.content) f.first in
      let same : a ≡ f.at = omega (arith, f.number) in
      let link : link_of s.slots a ≡ Some l.0 = ap (link_of s.slots) same ∙ (ap (option_and_then (λ (t : Slot). link_in t.content)) f.there ∙ l.1) in
      let number : couple_number s.slots a ≡ j = ap (couple_number s.slots) same ∙ f.before in
      ap (option_map (couple_end s.slots a)) link ∙ rw (l.2, number) refl

  -- and its inverse at side B
  pub couple_second : (j a : ℕ) → slice_get (firsts 0 s.slots) j ≡ Some a → (b : ℕ) × (couple_of s b ≡ Some (j, B))
  couple_second j a at =
      let f = first_at 0 s.slots j a at in
      let l = link_by a (link_in f.slot.content) f.first in
      let same : a ≡ f.at = omega (arith, f.number) in
      let link : link_of s.slots a ≡ Some l.0 = ap (link_of s.slots) same ∙ (ap (option_and_then (λ (t : Slot). link_in t.content)) f.there ∙ l.1) in
      let number : couple_number s.slots a ≡ j = ap (couple_number s.slots) same ∙ f.before in
      (l.0.inverse, inverse_end s sf.coupled a l.0 link ∙ rw (l.2, number) refl)
