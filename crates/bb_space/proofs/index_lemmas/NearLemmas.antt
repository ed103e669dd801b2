-- Which units have a place that passes a test, by their values.
use Rattle.std.proofs.Common.{◌≡◌, ℕ, Bool, true, false, cond, ◌&&◌, ◌==◌, ◌⊎◌, inl, inr, List, [], ◌∷◌, filter, Option, Some, None, refl, sym, ap, subst, ◌∙◌, eqb-true, eq-eqb, slice_get}
use Rattle.std.specs.Option.{option_map_or}
use Rattle.std.specs.List.{list_any}
use Rattle.std.specs.Ordering.{is_eq}
use Rattle.std.specs.BTreeMap.{is_at as meets}
use Rattle.std.specs.BTreeSet.{BTreeSet}
use Rattle.std.proofs.lemmas.Bool.{and_parts, and_from, or_left, or_right, or_cases}
use Rattle.bb_basis.proofs.BoolLemmas.{same_truth}
use Rattle.bb_pattern.specs.declared.value.DimValue.{DimValue}
use Rattle.bb_space.specs.declared.index.place.Place.{Place}
use Rattle.bb_space.specs.index.proving.Places.{place_cmp, place_of, next_of, is_at, has}
use Rattle.bb_space.proofs.index_lemmas.PlaceLemmas.{place_in, place_itself, by_place, is_here, stands, at_of, place_from}

-- ---- a unit whose place passes a test

record Found (n : ℕ) (test : Place → Bool) (ks : List Place) : Type 0 where
  place : Place
  there : list_any (meets (place_cmp place)) ks ≡ true
  passes : test place ≡ true
  unit : place.unit ≡ n

module _ (n : ℕ) (test : Place → Bool) where
  abbrev among : List Place → Bool
  among ks = list_any (λ p. p.unit == n) ks

  found_later : (k : Place) (ks : List Place) → Found n test ks → Found n test (k ∷ ks)
  found_later k ks f = record { place = f.place; there = or_right (is_eq (place_cmp f.place k)) (list_any (meets (place_cmp f.place)) ks) f.there; passes = f.passes; unit = f.unit }

  -- the first, or the others
  found_first : (k : Place) (ks : List Place) → test k ≡ true → ((k.unit == n) ≡ true) ⊎ (among (filter test ks) ≡ true) → (among (filter test ks) ≡ true → Found n test ks) → Found n test (k ∷ ks)
  found_first k ks passes (inl one) others = record { place = k; there = or_left (is_eq (place_cmp k k)) (list_any (meets (place_cmp k)) ks) (place_itself k); passes = passes; unit = eqb-true k.unit n one }
  found_first k ks passes (inr rest) others = found_later k ks (others rest)

  found_by_test : (k : Place) (ks : List Place) (b : Bool) → test k ≡ b → among (cond b (k ∷ filter test ks) (filter test ks)) ≡ true → (among (filter test ks) ≡ true → Found n test ks) → Found n test (k ∷ ks)
  found_by_test k ks true passes h others = found_first k ks passes (or_cases (k.unit == n) (among (filter test ks)) h) others
  found_by_test k ks false fails h others = found_later k ks (others h)

  found_of_among : (ks : List Place) → among (filter test ks) ≡ true → Found n test ks
  found_of_among [] h = absurd cc
  found_of_among (k ∷ ks) h = found_by_test k ks (test k) refl h (found_of_among ks)

  kept_after : (k : Place) (ks : List Place) (b : Bool) → among (filter test ks) ≡ true → among (cond b (k ∷ filter test ks) (filter test ks)) ≡ true
  kept_after k ks true h = or_right (k.unit == n) (among (filter test ks)) h
  kept_after k ks false h = h

  kept_here : (k : Place) (ks : List Place) (b : Bool) → b ≡ true → (k.unit == n) ≡ true → among (cond b (k ∷ filter test ks) (filter test ks)) ≡ true
  kept_here k ks true on one = or_left (k.unit == n) (among (filter test ks)) one
  kept_here k ks false on one = absurd cc

  kept_by : (p k : Place) (ks : List Place) → test p ≡ true → p.unit ≡ n → (is_eq (place_cmp p k) ≡ true) ⊎ (list_any (meets (place_cmp p)) ks ≡ true)
      → (list_any (meets (place_cmp p)) ks ≡ true → among (filter test ks) ≡ true) → among (filter test (k ∷ ks)) ≡ true
  kept_by p k ks passes unit (inl one) others = by_place p k _
      (λ _ same. kept_here k ks (test k) (subst (λ q. test q ≡ true) same passes) (subst (λ (q : Place). (q.unit == n) ≡ true) same (eq-eqb p.unit n unit)))
      (λ other. absurd cc)
  kept_by p k ks passes unit (inr rest) others = kept_after k ks (test k) (others rest)

  pub met_is_among : (p : Place) (ks : List Place) → list_any (meets (place_cmp p)) ks ≡ true → test p ≡ true → p.unit ≡ n → among (filter test ks) ≡ true
  met_is_among p [] there passes unit = absurd cc
  met_is_among p (k ∷ ks) there passes unit = kept_by p k ks passes unit (or_cases (is_eq (place_cmp p k)) (list_any (meets (place_cmp p)) ks) there) (λ rest. met_is_among p ks rest passes unit)

-- ---- units by the values that stand there

-- a value stands at the place, of those that units have
abbrev pub is_had : (ℕ → Option (List DimValue)) → Place → Bool
is_had had p = option_map_or (λ values. is_at values p) (had p.unit) false

-- the places are those of the values that units have
pub record AreOf (had : ℕ → Option (List DimValue)) (places : BTreeSet Place) : Type 0 where
  pub full : (p : Place) → is_had had p ≡ true → has places p ≡ true
  pub only : (p : Place) → has places p ≡ true → is_had had p ≡ true

never : (b : Bool) → b ≡ true → b ≡ false → ⊥
never true h g = absurd cc
never false h g = absurd cc

-- by what a test says of a place, it says of a value of the unit
pub found_by : (had : ℕ → Option (List DimValue)) (places : BTreeSet Place) → AreOf had places → (test : Place → Bool) (dim : ℕ) (f : DimValue → Bool)
    → ((d n : ℕ) (v : DimValue) (next : Option DimValue) → test (place_of d n v next) ≡ ((d == dim) && f v)) → (n : ℕ)
    → list_any (λ p. p.unit == n) (filter test places.keys) ≡ option_map_or (λ told. option_map_or f (slice_get told dim) false) (had n) false
found_by had places are test dim f says n = same_truth _ _ (λ h. there (found_of_among n test places.keys h)) back
  where
    at_member : Option (List DimValue) → Bool
    at_member o = option_map_or (λ told. option_map_or f (slice_get told dim) false) o false

    there : Found n test places.keys → option_map_or (λ told. option_map_or f (slice_get told dim) false) (had n) false ≡ true
    there g = by_get (had g.place.unit) refl
      where
        told : is_had had g.place ≡ true
        told = are.only g.place g.there

        by_get : (o : Option (List DimValue)) → had g.place.unit ≡ o → option_map_or (λ told. option_map_or f (slice_get told dim) false) (had n) false ≡ true
        by_get None none = absurd (never (is_had had g.place) told (ap (λ o. option_map_or (λ values. is_at values g.place) o false) none))
        by_get (Some values) some =
            let at : is_at values g.place ≡ true = sym (ap (λ o. option_map_or (λ values. is_at values g.place) o false) some) ∙ told in
            let s = stands g.place.unit values g.place (place_from g.place.unit values g.place refl at) in
            let parts = and_parts (g.place.dim == dim) (f s.value) (sym (says g.place.dim g.place.unit s.value (next_of values g.place.dim)) ∙ (ap test s.place ∙ g.passes)) in
            let member : had n ≡ Some values = ap had (sym g.unit) ∙ some in
            let value : slice_get values dim ≡ Some s.value = ap (slice_get values) (sym (eqb-true g.place.dim dim parts.0)) ∙ s.there in
            ap (λ o. option_map_or (λ told. option_map_or f (slice_get told dim) false) o false) member ∙ (ap (λ o. option_map_or f o false) value ∙ parts.1)

    back : option_map_or (λ told. option_map_or f (slice_get told dim) false) (had n) false ≡ true → list_any (λ p. p.unit == n) (filter test places.keys) ≡ true
    back h = by_get (had n) refl h
      where
        by_get : (o : Option (List DimValue)) → had n ≡ o → option_map_or (λ told. option_map_or f (slice_get told dim) false) o false ≡ true → list_any (λ p. p.unit == n) (filter test places.keys) ≡ true
        by_get None none g = absurd cc
        by_get (Some values) some g = by_value (slice_get values dim) refl g
          where
            by_value : (o : Option DimValue) → slice_get values dim ≡ o → option_map_or f o false ≡ true → list_any (λ p. p.unit == n) (filter test places.keys) ≡ true
            by_value None none g2 = absurd cc
            by_value (Some v) value g2 =
                let p = place_in dim n values v in
                let at : is_at values p ≡ true = at_of n values p (is_here n dim values v value) in
                let told : is_had had p ≡ true = ap (λ o. option_map_or (λ values. is_at values p) o false) some ∙ at in
                met_is_among n test p places.keys (are.full p told) (says dim n v (next_of values dim) ∙ and_from (dim == dim) (f v) (eq-eqb dim dim refl) g2) refl
