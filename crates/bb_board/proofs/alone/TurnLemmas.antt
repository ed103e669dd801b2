-- Which pairs of a unit are there when it is the turn of a slot, where the slots of its class go by rising number.
use Rattle.std.proofs.Common.{◌≡◌, ℕ, ◌<◌, ◌&&◌, ◌||◌, ◌⊎◌, inl, inr, not, Bool, true, false, List, [], ◌∷◌, length, Option, Some, None, refl, sym, ap, subst, ◌∙◌, arith, nat_lt}
use Rattle.std.specs.Prelude.{◌==◌, slice_get, option_map}
use Rattle.std.specs.List.{AllByRecursion, list_all, list_any}
use Rattle.std.specs.List.Sorted.{IsStrictlySortedBy}
use Rattle.std.specs.Option.{option_map_or}
use Rattle.std.specs.Ordering.{nat_cmp}
use Rattle.std.specs.Cmp.{nat_cmp_is}
use Rattle.std.specs.declared.cmp.Ordering.TheVariants.{Less, Equal, Greater}
use Rattle.std.proofs.lemmas.Bool.{eqb-true, eqb-false, eq-eqb, ltb-true, ltb-false}
use Rattle.bb_basis.proofs.BoolLemmas.{or_true}
use Rattle.bb_schema_classes.specs.declared.class.Class.{Class}
use Rattle.bb_schema_classes.specs.declared.kind.Link.{Link}
use Rattle.bb_schema_classes.specs.Inheritance.{is_among}
use Rattle.bb_schema_classes.specs.Fits.{IsClass}
use Rattle.bb_schema_classes.proofs.Laws.{All-at}
use Rattle.bb_schema.specs.declared.couple.Side.{Side}
use Rattle.bb_schema.specs.declared.couple.Side.TheVariants.{A, B}
use Rattle.bb_schema.specs.declared.slot.Slot.{Slot}
use Rattle.bb_schema.specs.Schema.{Schema, slots_of, descends}
use Rattle.bb_schema.specs.Slots.{link_of}
use Rattle.bb_schema.specs.Couples.{couple_of, couple_end}
use Rattle.bb_schema.specs.Fits as schemas
use Rattle.bb_units.specs.Units.{is_live, class_of}
use Rattle.bb_links.specs.Pairs.{near, far}
use Rattle.bb_links.specs.Couples.{pairs_of}
use Rattle.bb_links.specs.proving.Partners.{opposite}
use Rattle.bb_board.specs.State.{World}
use Rattle.bb_board.specs.World.{class_at}
use Rattle.bb_board.specs.May.{class_has}
use Rattle.bb_board.specs.Fits.{is_of_owner, Fits}
use Rattle.bb_board.specs.proving.Deleted.{is_turn}
use Rattle.bb_board.proofs.KeepLemmas.{class_there}
use Rattle.bb_board.proofs.SideLemmas.{is_either, link_at, inverse_end}
use Rattle.bb_board.proofs.alone.KeptLemmas.{Test}
use Rattle.bb_board.proofs.alone.PartnerLemmas.{is_in}

-- ---- numbers that rise

less : (x y : ℕ) → nat_cmp x y ≡ Less → x < y
less x y is = by (nat_lt x y) (x == y) refl refl
  where
    by : (b c : Bool) → nat_lt x y ≡ b → (x == y) ≡ c → x < y
    by true c test other = ltb-true x y test
    by false true test same = absurd (let e : Equal ≡ Less = nat_cmp_is x y Equal (eqb-true x y same) ∙ is in cc)
    by false false test apart = absurd (let le = ltb-false x y test in let ne = eqb-false x y apart in let e : Greater ≡ Less = nat_cmp_is x y Greater (omega (arith, le, ne)) ∙ is in cc)

above_all : (x : ℕ) (ys : List ℕ) → AllByRecursion (λ y. nat_cmp x y ≡ Less) ys → (y : ℕ) → is_in ys y ≡ true → x < y
above_all x [] all y there = absurd cc
above_all x (z ∷ zs) all y there = by (z == y) refl (above_all x zs all.1 y)
  where
    by : (b : Bool) → (z == y) ≡ b → (is_in zs y ≡ true → x < y) → x < y
    by true same rest = let lt = less x z all.0 in let e = eqb-true z y same in omega (arith, lt, e)
    by false other rest = rest (let e : (z == y || is_in zs y) ≡ true = there in sym (ap (λ b. b || is_in zs y) other) ∙ e)

pub first_is_least : (x : ℕ) (ys : List ℕ) → IsStrictlySortedBy nat_cmp (x ∷ ys) → (y : ℕ) → is_in ys y ≡ true → x < y
unfolding IsStrictlySortedBy
first_is_least x ys rising = above_all x ys rising.0

pub rest_rises : (x : ℕ) (ys : List ℕ) → IsStrictlySortedBy nat_cmp (x ∷ ys) → IsStrictlySortedBy nat_cmp ys
unfolding IsStrictlySortedBy
rest_rises x ys rising = rising.1

-- ---- tests of all of a list

pub none_passes : (t : ℕ → Bool) (xs : List ℕ) → ((x : ℕ) → is_in xs x ≡ true → t x ≡ false) → list_any t xs ≡ false
none_passes t [] from = refl
none_passes t (x ∷ xs) from =
    ap (λ b. b || list_any t xs) (from x (ap (λ b. b || is_in xs x) (eq-eqb x x refl)))
    ∙ none_passes t xs (λ y there. from y (ap (λ b. x == y || b) there ∙ or_true (x == y)))

pub one_passes : (t : ℕ → Bool) (xs : List ℕ) (x : ℕ) → is_in xs x ≡ true → t x ≡ true → list_any t xs ≡ true
one_passes t [] x there passes = absurd cc
one_passes t (y ∷ ys) x there passes = by (y == x) refl (one_passes t ys x)
  where
    by : (b : Bool) → (y == x) ≡ b → (is_in ys x ≡ true → t x ≡ true → list_any t ys ≡ true) → (t y || list_any t ys) ≡ true
    by true same rest = ap (λ b. b || list_any t ys) (ap t (eqb-true y x same) ∙ passes)
    by false other rest = ap (λ b. t y || b) (rest (sym (ap (λ b. b || is_in ys x) other) ∙ there) passes) ∙ or_true (t y)

-- ---- the pairs that the slots of a list take from a unit

module _ (s : Schema) (n : ℕ) where
  abbrev pub removes : (slot : ℕ) → Test
  removes slot j p = option_map_or (λ e. j == e.0 && near e.1 p == n) (couple_of s slot) false

  abbrev pub spared : List ℕ → Test
  spared done j p = not (list_any (λ slot. removes slot j p) done)

-- ---- the slots of a unit's class

module _ (s : Schema) (w : World) (sf : schemas.Fits s) (fits : Fits s w) (n : ℕ) (live : is_live w.units n ≡ true) where
  abbrev slots : List ℕ
  slots = slots_of s (class_at w n)

  class_is : (class_of w.units n ≡ Some (class_at w n)) × (class_at w n < length s.classes)
  class_is = class_there s w n fits live

  rises_by : (o : Option Class) → slice_get s.classes (class_at w n) ≡ o → IsStrictlySortedBy nat_cmp (option_map_or (λ k. k.slots) o [])
  unfolding IsStrictlySortedBy
  rises_by None is = tt
  rises_by (Some k) is = (All-at (IsClass (length s.slots)) s.classes (class_at w n) k is sf.classes).rising

  pub slots_rise : IsStrictlySortedBy nat_cmp slots
  slots_rise = rises_by (slice_get s.classes (class_at w n)) refl

  has_by : (slot : ℕ) (o : Option Slot) → slice_get s.slots slot ≡ o → option_map_or (λ owner. descends s (class_at w n) owner) (option_map (λ t. t.owner) o) false ≡ true → is_in slots slot ≡ true
  unfolding is_among
  has_by slot None is has = absurd cc
  has_by slot (Some t) is has = sf.owned (class_at w n) slot t class_is.1 is ∙ has

  -- a slot that the unit has is among those of its class
  pub owned_slot : (slot : ℕ) → is_of_owner s w.units n slot ≡ true → is_in slots slot ≡ true
  owned_slot slot owns = has_by slot (slice_get s.slots slot) refl (sym (ap (λ o. option_map_or (λ class. class_has s class slot) o false) class_is.0) ∙ owns)

  far_by : (side : Side) (i : ℕ) (xs : List (ℕ × ℕ)) → list_all (λ p. is_of_owner s w.units (near (opposite side) p) i) xs ≡ true → list_all (λ p. is_of_owner s w.units (far side p) i) xs ≡ true
  far_by A i xs all = all
  far_by B i xs all = all

  -- ---- the turn of a slot, after others

  module _ (done rest : List ℕ) (slot : ℕ) (e : ℕ × Side) (is : couple_of s slot ≡ Some e)
      (before : (x : ℕ) → is_in done x ≡ true → (y : ℕ) → is_in (slot ∷ rest) y ≡ true → x < y)
      (each : (x : ℕ) → is_in slots x ≡ true → (is_in done x ≡ true) ⊎ (is_in (slot ∷ rest) x ≡ true))
      (rising : IsStrictlySortedBy nat_cmp (slot ∷ rest)) where
    pub link_of_end : (l : Link) × (link_of s.slots slot ≡ Some l) × (couple_end s.slots slot l ≡ e)
    link_of_end = link_at s sf.coupled slot e is

    abbrev inverse : ℕ
    inverse = link_of_end.0.inverse

    inverse_at : couple_of s inverse ≡ Some (let f : ℕ × Side = (e.0, opposite e.1) in f)
    inverse_at = inverse_end s sf.coupled slot link_of_end.0 link_of_end.1 ∙ ap (λ (f : ℕ × Side). Some (let g : ℕ × Side = (f.0, opposite f.1) in g)) link_of_end.2

    -- each partner has the inverse of the slot
    pub partners_own : list_all (λ p. is_of_owner s w.units (far e.1 p) inverse) (pairs_of w.links e.0) ≡ true
    partners_own = far_by e.1 inverse (pairs_of w.links e.0) (fits.pairs inverse (let f : ℕ × Side = (e.0, opposite e.1) in f) inverse_at)

    side_by : (b : Bool) → nat_lt slot inverse ≡ b → ((e.1 ≡ A) × (slot < inverse)) ⊎ ((e.1 ≡ B) × (inverse < slot))
    side_by true test = inl (ap (λ (f : ℕ × Side). f.1) (sym link_of_end.2) ∙ rw test refl, ltb-true slot inverse test)
    side_by false test =
        let le = ltb-false slot inverse test in
        let apart = (sf.coupled slot link_of_end.0 link_of_end.1).other in
        inr (ap (λ (f : ℕ × Side). f.1) (sym link_of_end.2) ∙ rw test refl, omega (arith, le, apart))

    side : ((e.1 ≡ A) × (slot < inverse)) ⊎ ((e.1 ≡ B) × (inverse < slot))
    side = side_by (nat_lt slot inverse) refl

    not_itself : (x : ℕ) → is_in done x ≡ true → x ≡ slot → ⊥
    not_itself x there same = let lt = before x there slot (ap (λ b. b || is_in rest slot) (eq-eqb slot slot refl)) in omega (arith, lt, same)

    module _ (p : ℕ × ℕ) where
      -- a slot before it takes the pair only if it is the inverse, and then from the other side
      abbrev value : Option (ℕ × Side) → Bool
      value o = option_map_or (λ f. e.0 == f.0 && near f.1 p == n) o false

      by_inverse : (x : ℕ) → is_in done x ≡ true → (o : Option (ℕ × Side)) → couple_of s x ≡ o → (value o ≡ false) ⊎ ((x ≡ inverse) × (value o ≡ (far e.1 p == n)))
      by_inverse x there None found_end = inl refl
      by_inverse x there (Some f) found_end = by (e.0 == f.0) refl
        where
          far_is : (d g : Side) → g ≡ opposite d → (near g p == n) ≡ (far d p == n)
          far_is A g same = ap (λ h. near h p == n) same
          far_is B g same = ap (λ h. near h p == n) same

          link : (m : Link) × (link_of s.slots x ≡ Some m) × (couple_end s.slots x m ≡ f)
          link = link_at s sf.coupled x f found_end

          by : (b : Bool) → (e.0 == f.0) ≡ b → ((b && near f.1 p == n) ≡ false) ⊎ ((x ≡ inverse) × ((b && near f.1 p == n) ≡ (far e.1 p == n)))
          by false other = inl refl
          by true same =
              elim (is_either s sf.coupled slot x link_of_end.0 link.0 link_of_end.1 link.1 (ap (λ (g : ℕ × Side). g.0) link.2 ∙ (sym (eqb-true e.0 f.0 same) ∙ ap (λ (g : ℕ × Side). g.0) (sym link_of_end.2)))) [
                | inl itself ↦ absurd (not_itself x there itself.1)
                | inr other ↦ inr (other.1, far_is e.1 f.1 (ap (λ (g : ℕ × Side). g.1) (sym link.2) ∙ (other.0 ∙ ap (λ (g : ℕ × Side). opposite g.1) link_of_end.2)))
              ]

      -- at side A no slot before it is the inverse
      all_spared : slot < inverse → spared s n done e.0 p ≡ true
      all_spared lt = ap not (none_passes (λ x. removes s n x e.0 p) done (λ x there. at x there (by_inverse x there (couple_of s x) refl)))
        where
          at : (x : ℕ) → is_in done x ≡ true → (removes s n x e.0 p ≡ false) ⊎ ((x ≡ inverse) × (removes s n x e.0 p ≡ (far e.1 p == n))) → removes s n x e.0 p ≡ false
          at x there (inl not_it) = not_it
          at x there (inr it_is) = absurd (let low = before x there slot (ap (λ b. b || is_in rest slot) (eq-eqb slot slot refl)) in let same = it_is.0 in omega (arith, low, lt, same))

      -- at side B the inverse came before it, if the unit has it
      inverse_done : inverse < slot → is_of_owner s w.units n inverse ≡ true → is_in done inverse ≡ true
      inverse_done lt owns =
          elim (each inverse (owned_slot inverse owns)) [
            | inl there ↦ there
            | inr later ↦ absurd (too_late (slot == inverse) refl later)
          ]
        where
          too_late : (b : Bool) → (slot == inverse) ≡ b → is_in (slot ∷ rest) inverse ≡ true → ⊥
          too_late true same later = let e2 = eqb-true slot inverse same in omega (arith, e2, lt)
          too_late false other later = let high = first_is_least slot rest rising inverse (sym (ap (λ b. b || is_in rest inverse) other) ∙ later) in omega (arith, high, lt)

      spared_by : (b : Bool) → (far e.1 p == n) ≡ b → inverse < slot → is_of_owner s w.units (far e.1 p) inverse ≡ true → spared s n done e.0 p ≡ not b
      spared_by false other lt owns = ap not (none_passes (λ x. removes s n x e.0 p) done (λ x there. at x (by_inverse x there (couple_of s x) refl)))
        where
          at : (x : ℕ) → (removes s n x e.0 p ≡ false) ⊎ ((x ≡ inverse) × (removes s n x e.0 p ≡ (far e.1 p == n))) → removes s n x e.0 p ≡ false
          at x (inl not_it) = not_it
          at x (inr it_is) = it_is.1 ∙ other
      spared_by true same lt owns =
          let it = eqb-true (far e.1 p) n same in
          ap not (one_passes (λ x. removes s n x e.0 p) done inverse (inverse_done lt (subst (λ k. is_of_owner s w.units k inverse ≡ true) it owns))
          (ap (λ o. option_map_or (λ (f : ℕ × Side). e.0 == f.0 && near f.1 p == n) o false) inverse_at ∙ (ap (λ b. b && near (opposite e.1) p == n) (eq-eqb e.0 e.0 refl) ∙ (near_is e.1 ∙ same))))
        where
          near_is : (d : Side) → (near (opposite d) p == n) ≡ (far d p == n)
          near_is A = refl
          near_is B = refl

      turn_by : (d : Side) → e.1 ≡ d → ((d ≡ A) × (slot < inverse)) ⊎ ((d ≡ B) × (inverse < slot)) → is_of_owner s w.units (far e.1 p) inverse ≡ true → spared s n done e.0 p ≡ is_turn [] d n (far e.1 p)
      turn_by A at (inl a) owns = all_spared a.1
      turn_by A at (inr b) owns = absurd (let no : A ≡ B = b.0 in cc)
      turn_by B at (inl a) owns = absurd (let no : B ≡ A = a.0 in cc)
      turn_by B at (inr b) owns = spared_by (far e.1 p == n) refl b.1 owns

      -- the pair is there at the turn of the slot where its note is due then
      pub turn : is_of_owner s w.units (far e.1 p) inverse ≡ true → spared s n done e.0 p ≡ is_turn [] e.1 n (far e.1 p)
      turn owns = turn_by e.1 refl side owns
