-- How many units pass a test, by the places where it asks.
use Rattle.std.proofs.Common.{◌≡◌, ℕ, ℤ, Bool, true, false, cond, not, ◌||◌, ◌==◌, int_le, int_lt, List, [], ◌∷◌, map, filter, length, Option, Some, None, refl, sym, ap, ap₂, subst, ◌∙◌, arith, eqb-true, slice_get, nat_le, IfSome}
use Rattle.std.specs.Option.{option_map_or}
use Rattle.std.specs.List.{AllByRecursion, IsDistinct, list_any}
use Rattle.std.specs.List.Sorted.{IsStrictlySortedBy}
use Rattle.std.specs.declared.cmp.Ordering.TheVariants as orderings
use Rattle.std.specs.Ordering.{is_eq, nat_cmp, eq_by_cmp}
use Rattle.std.specs.FinMap.{nat_cmp-IsAntisymmetric}
use Rattle.std.specs.Cmp.{nat_cmp_total, Equal-is, eq_by_cmp_equiv}
use Rattle.std.specs.BTreeMap.{is_at as meets}
use Rattle.std.specs.BTreeSet.{BTreeSet}
use Rattle.std.proofs.lemmas.Bool.{and_parts, leb-true, or_left, or_right}
use Rattle.std.proofs.lemmas.List.{length-map}
use Rattle.std.proofs.lemmas.List.Kept.{IsStrictlySortedBy-filter}
use Rattle.std.proofs.lemmas.Map.Keys.{IsDistinct-from_sorted}
use Rattle.std.proofs.lemmas.Map.Made.{length-from_same_keys}
use Rattle.bb_pattern.specs.declared.pattern.Relation.TheVariants.{Within, Covers, Overlaps, Less, More}
use Rattle.bb_pattern.specs.declared.value.DimValue.{DimValue}
use Rattle.bb_pattern.specs.declared.value.DimValue.TheVariants.{Interval, Label}
use Rattle.bb_space.specs.declared.index.leaf.Leaf.{Leaf}
use Rattle.bb_space.specs.declared.index.leaf.Leaf.TheVariants.{Ordered, Is}
use Rattle.bb_space.specs.declared.index.place.Place.{Place}
use Rattle.bb_space.specs.index.Leaf.{related, labelled, fits_leaf}
use Rattle.bb_space.specs.index.Candidates.{dim_of, may_pass, is_exact}
use Rattle.bb_space.specs.index.proving.Places.{place_cmp, is_at, next_of}
use Rattle.bb_space.specs.declared.index.stretch.Stretch.{Stretch}
use Rattle.bb_space.specs.index.proving.Stretches.{stretch_of, turned_of, places_in, asked, HasNoTurned, IsCount}
use Rattle.bb_space.proofs.index_lemmas.AmongLemmas.{same_number}
use Rattle.bb_space.proofs.index_lemmas.PlaceLemmas.{by_bool, place_itself, place_from, stands, stands_as}
use Rattle.bb_space.proofs.index_lemmas.NearLemmas.{AreOf, is_had}
use Rattle.bb_space.proofs.index_lemmas.StretchLemmas.{is_in, between, spots_of, by_value, asks_of, is_turned, low_reaches, asked_there, turned_there}

-- ---- no two numbers of which the second is less

pub no_turned : (leaf : Leaf) (places : BTreeSet Place) → turned_of leaf ≡ None → HasNoTurned leaf places
no_turned leaf places none = subst (λ o. IfSome o (λ stretch. places_in stretch places ≡ [])) (sym none) tt

pub has_none : (leaf : Leaf) (places : BTreeSet Place) (stretch : Stretch) → turned_of leaf ≡ Some stretch → nat_le (length (places_in stretch places)) 0 ≡ true → HasNoTurned leaf places
has_none leaf places stretch some few = subst (λ o. IfSome o (λ stretch. places_in stretch places ≡ [])) (sym some) (none (places_in stretch places) few)
  where
    none : (ks : List Place) → nat_le (length ks) 0 ≡ true → ks ≡ []
    none [] h = refl
    none (k ∷ ks) h = let no_more = leb-true (length (k ∷ ks)) 0 h in absurd (omega (arith, no_more))

-- ---- units and their places

abbrev unit_of : Place → ℕ
unit_of p = p.unit

module _ (had : ℕ → Option (List DimValue)) (places : BTreeSet Place) (are : AreOf had places) where
  -- what a unit has that a place is of
  told_at : (p : Place) (o : Option (List DimValue)) → had p.unit ≡ o → is_had had p ≡ true → option_map_or (λ values. is_at values p) o false ≡ true
  told_at p o is h = sym (ap (λ w. option_map_or (λ values. is_at values p) w false) is) ∙ h

  -- a unit has one place on a dimension
  one_place : (p q : Place) → is_had had p ≡ true → is_had had q ≡ true → p.dim ≡ q.dim → p.unit ≡ q.unit → p ≡ q
  one_place p q here there dims units = by_get (had p.unit) refl
    where
      by_get : (o : Option (List DimValue)) → had p.unit ≡ o → p ≡ q
      by_get None none = let never = told_at p None none here in absurd cc
      by_get (Some values) some =
          let at_p = place_from p.unit values p refl (told_at p (Some values) some here) in
          let at_q = place_from p.unit values q (sym units) (told_at q (Some values) (ap had (sym units) ∙ some) there) in
          let s = stands p.unit values p at_p in
          sym s.place ∙ stands_as p.unit p.dim values s.value q s.there at_q (sym dims)

  -- ---- places on one dimension

  module _ (dim : ℕ) where
    abbrev IsOn : Place → Type 0
    IsOn p = (is_had had p ≡ true) × (p.dim ≡ dim)

    -- two places are of two units
    two_units : (p q : Place) → IsOn p → IsOn q → place_cmp p q ≡ orderings.Less → eq_by_cmp nat_cmp p.unit q.unit ≡ false
    two_units p q on_p on_q less = by_bool (eq_by_cmp nat_cmp p.unit q.unit) _
        (λ same.
        let units : p.unit ≡ q.unit = nat_cmp-IsAntisymmetric p.unit q.unit ((Equal-is (nat_cmp p.unit q.unit)).0 same) in
        let one : p ≡ q = one_place p q on_p.0 on_q.0 (on_p.1 ∙ sym on_q.1) units in
        let itself : place_cmp p p ≡ orderings.Less = ap (place_cmp p) one ∙ less in
        let never : false ≡ true = sym (ap is_eq itself) ∙ place_itself p in
        absurd cc)
        (λ other. other)

    apart : (p : Place) (qs : List Place) → IsOn p → AllByRecursion IsOn qs → AllByRecursion (λ q. place_cmp p q ≡ orderings.Less) qs → AllByRecursion (λ n. eq_by_cmp nat_cmp p.unit n ≡ false) (map unit_of qs)
    apart p [] on all less = tt
    apart p (q ∷ qs) on all less = (two_units p q on all.0 less.0, apart p qs on all.1 less.1)

    distinct : (ks : List Place) → IsStrictlySortedBy place_cmp ks → AllByRecursion IsOn ks → IsDistinct (eq_by_cmp nat_cmp) (map unit_of ks)
    unfolding IsDistinct IsStrictlySortedBy
    distinct [] rises all = tt
    distinct (k ∷ ks) rises all = (apart k ks all.0 all.1 rises.0, distinct ks rises.1 all.1)

  -- ---- the places where a test asks

  all_had : (ks : List Place) → ((p : Place) → list_any (meets (place_cmp p)) ks ≡ true → is_had had p ≡ true) → AllByRecursion (λ k. is_had had k ≡ true) ks
  all_had [] each = tt
  all_had (k ∷ ks) each = (each k (or_left (is_eq (place_cmp k k)) (list_any (meets (place_cmp k)) ks) (place_itself k)), all_had ks (λ p there. each p (or_right (is_eq (place_cmp p k)) (list_any (meets (place_cmp p)) ks) there)))

  on_dim : (leaf : Leaf) (p : Place) → is_had had p ≡ true → is_in (stretch_of leaf) p ≡ true → p.dim ≡ dim_of leaf
  on_dim leaf p here inside = by_get (had p.unit) refl
    where
      by_get : (o : Option (List DimValue)) → had p.unit ≡ o → p.dim ≡ dim_of leaf
      by_get None none = let never = told_at p None none here in absurd cc
      by_get (Some values) some =
          let s = stands p.unit values p (place_from p.unit values p refl (told_at p (Some values) some here)) in
          let says = between (dim_of leaf) (stretch_of leaf) (spots_of leaf) p.dim p.unit s.value (next_of values p.dim) in
          eqb-true p.dim (dim_of leaf) (and_parts (p.dim == dim_of leaf) _ (sym says ∙ (ap (is_in (stretch_of leaf)) s.place ∙ inside))).0

  all_on : (leaf : Leaf) (ks : List Place) → AllByRecursion (λ k. is_had had k ≡ true) ks → AllByRecursion (IsOn (dim_of leaf)) (filter (is_in (stretch_of leaf)) ks)
  all_on leaf [] all = tt
  all_on leaf (k ∷ ks) all = by (is_in (stretch_of leaf) k) refl (all_on leaf ks all.1)
    where
      by : (b : Bool) → is_in (stretch_of leaf) k ≡ b → AllByRecursion (IsOn (dim_of leaf)) (filter (is_in (stretch_of leaf)) ks)
          → AllByRecursion (IsOn (dim_of leaf)) (cond b (k ∷ filter (is_in (stretch_of leaf)) ks) (filter (is_in (stretch_of leaf)) ks))
      by true inside rest = ((all.0, on_dim leaf k all.0 inside), rest)
      by false out rest = rest

  among_units : (n : ℕ) (ks : List Place) → list_any (eq_by_cmp nat_cmp n) (map unit_of ks) ≡ list_any (λ p. p.unit == n) ks
  among_units n [] = refl
  among_units n (k ∷ ks) = ap₂ (λ a b. a || b) (same_number n k.unit) (among_units n ks)

  -- ---- whoever stands there passes

  none_turned : (dim : ℕ) (low high : ℤ) → HasNoTurned (Ordered More dim low high) places → (n : ℕ) → by_value (Ordered More dim low high) is_turned (had n) ≡ false
  none_turned dim low high none n = sym (turned_there had places are (Ordered More dim low high) n) ∙ ap (list_any (λ p. p.unit == n)) none

  exactly : (leaf : Leaf) → is_exact leaf ≡ true → HasNoTurned leaf places → (n : ℕ) → by_value leaf (asks_of leaf) (had n) ≡ option_map_or (fits_leaf leaf) (had n) false
  unfolding fits_leaf
  exactly (Ordered More dim low high) exact none n = of_unit (had n) (none_turned dim low high none n)
    where
      of_number : (from to : ℤ) (b : Bool) → not b ≡ false → cond b (int_lt high from) false ≡ int_lt high from
      of_number from to true not_turned = refl
      of_number from to false not_turned = absurd cc

      of_value : (o : Option DimValue) → option_map_or is_turned o false ≡ false → option_map_or (low_reaches More low high) o false ≡ related More low high o
      of_value None not_turned = refl
      of_value (Some (Interval from to)) not_turned = of_number from to (int_le from to) not_turned
      of_value (Some (Label set label)) not_turned = refl

      of_unit : (o : Option (List DimValue)) → by_value (Ordered More dim low high) is_turned o ≡ false → by_value (Ordered More dim low high) (asks_of (Ordered More dim low high)) o ≡ option_map_or (fits_leaf (Ordered More dim low high)) o false
      of_unit None not_turned = refl
      of_unit (Some told) not_turned = of_value (slice_get told dim) not_turned
  exactly (Ordered Within dim low high) exact none n = absurd cc
  exactly (Ordered Covers dim low high) exact none n = absurd cc
  exactly (Ordered Overlaps dim low high) exact none n = absurd cc
  exactly (Ordered Less dim low high) exact none n = absurd cc
  exactly (Is dim set label) exact none n = of_unit (had n)
    where
      of_value : (o : Option DimValue) → option_map_or (may_pass (Is dim set label)) o false ≡ labelled set label o
      of_value None = refl
      of_value (Some (Interval from to)) = refl
      of_value (Some (Label of other)) = refl

      of_unit : (o : Option (List DimValue)) → by_value (Is dim set label) (asks_of (Is dim set label)) o ≡ option_map_or (fits_leaf (Is dim set label)) o false
      of_unit None = refl
      of_unit (Some told) = of_value (slice_get told dim)

  -- as many places as units that pass
  pub count_is : (leaf : Leaf) (n : ℕ) → IsCount leaf places n → (ns : List ℕ) → IsStrictlySortedBy nat_cmp ns → ((m : ℕ) → list_any (eq_by_cmp nat_cmp m) ns ≡ option_map_or (fits_leaf leaf) (had m) false) → n ≡ length ns
  count_is leaf n count ns rises same =
      let asks = asked leaf places in
      let ordered = IsStrictlySortedBy-filter place_cmp (is_in (stretch_of leaf)) places.keys count.ordered in
      let units = distinct (dim_of leaf) asks ordered (all_on leaf places.keys (all_had places.keys are.only)) in
      let long = length-from_same_keys (eq_by_cmp_equiv nat_cmp_total) (map unit_of asks) ns units (IsDistinct-from_sorted nat_cmp ns rises)
      (λ m. among_units m asks ∙ (asked_there had places are leaf m ∙ (exactly leaf count.exact count.not_turned m ∙ sym (same m)))) in
      count.number ∙ (sym (length-map asks unit_of) ∙ long)
