-- All units whose values pass two tests stand where both ask, if the second is of the next dimension.
use Rattle.std.proofs.Common.{◌≡◌, ℕ, ℤ, pos, ◌+◌, ◌⊎◌, inl, inr, Bool, true, false, cond, not, ◌&&◌, ◌||◌, ◌==◌, nat_lt, nat_le, int_lt, int_le, List, [], ◌∷◌, filter, length, Option, Some, None, is_some, refl, sym, ap, ap₂, subst, ◌∙◌, arith, eqb-true, eq-eqb, ne_eqb, lt-ltb, slice_get}
use Rattle.std.specs.List.{list_any}
use Rattle.std.specs.Option.{option_map_or, option_or}
use Rattle.std.specs.declared.cmp.Ordering.{Ordering}
use Rattle.std.specs.declared.cmp.Ordering.TheVariants as orderings
use Rattle.std.specs.Ordering.{is_le, is_eq, ordering_then, nat_cmp, int_cmp, int_eq}
use Rattle.std.specs.BTreeMap.{is_at as meets}
use Rattle.std.specs.BTreeSet.{BTreeSet}
use Rattle.std.proofs.lemmas.Bool.{leb-true, and_parts, and_from, or_left, or_right, or_cases}
use Rattle.std.proofs.lemmas.Cmp.{int_cmp_total, nat_cmp_total, eq_by_cmp_equiv}
use Rattle.std.proofs.lemmas.Int.{ints}
use Rattle.std.proofs.lemmas.Map.Lookups.{exact_signed}
use Rattle.bb_pattern.specs.declared.value.DimValue.{DimValue}
use Rattle.bb_pattern.specs.declared.value.DimValue.TheVariants.{Interval, Label}
use Rattle.bb_space.specs.declared.index.leaf.Leaf.{Leaf}
use Rattle.bb_space.specs.declared.index.leaf.Leaf.TheVariants.{Ordered, Is}
use Rattle.bb_space.specs.declared.index.place.Place.{Place}
use Rattle.bb_space.specs.declared.index.stretch.Stretch.{Stretch}
use Rattle.bb_space.specs.index.Candidates.{may_pass, dim_of}
use Rattle.bb_space.specs.index.Leaf.{fits_leaf, fit_each}
use Rattle.bb_space.specs.index.proving.Places.{place_cmp, sort_of, key_of, next_of, place_of, is_place_of, is_at, has}
use Rattle.bb_space.specs.index.Among.{is_among}
use Rattle.bb_space.specs.index.proving.Stretches.{spot, stretch_of, has_one_key, turned, beside, all_beside, places_in, stands_in}
use Rattle.bb_space.specs.index.proving.Pairs.{is_near_both, AreThere, Tells, IsAsked, AreNearBoth, AreAllNear}
use Rattle.bb_space.proofs.index_lemmas.CandidateLemmas.{passing}
use Rattle.bb_space.proofs.index_lemmas.NearLemmas.{met_is_among, is_had, AreOf}
use Rattle.bb_space.proofs.index_lemmas.PlaceLemmas.{equal, place_in, place_itself, is_here, of_unit, at_of}
use Rattle.bb_space.proofs.index_lemmas.StretchLemmas.{IsEdge, AreSpots, spots_of, spots_turned, is_up_to, up_to_says, takes, is_in, not_less, between, spot_le, is_turned, low_reaches, asks_of, asked_says, turned_says, either_way}

-- ---- values beside a sort and key

number_itself : (n : ℕ) → nat_cmp n n ≡ orderings.Equal
number_itself n = equal (nat_cmp n n) ((eq_by_cmp_equiv nat_cmp_total).refl n)

key_itself : (z : ℤ) → int_cmp z z ≡ orderings.Equal
key_itself z = equal (int_cmp z z) ((eq_by_cmp_equiv int_cmp_total).refl z)

-- a value of this sort and key, on this dimension
abbrev IsPinned : Place → ℕ → DimValue → Type 0
IsPinned pin d v = (d ≡ pin.dim) × ((sort_of v ≡ pin.sort) × (key_of v ≡ pin.key))

beside_le : (pin q : Place) (d n : ℕ) (v w : DimValue) → IsPinned pin d v → IsEdge q.edge → is_le (place_cmp (beside pin q) (place_of d n v (Some w))) ≡ is_up_to q.sort q.key (q.edge == 0) (sort_of w) (key_of w)
beside_le pin q d n v w is edges =
    let last = ordering_then (nat_cmp q.edge 1) (nat_cmp 0 n) in
    passed (nat_cmp pin.dim d) (nat_cmp pin.sort (sort_of v)) (int_cmp pin.key (key_of v)) _
    (subst (λ x. nat_cmp pin.dim x ≡ orderings.Equal) (sym is.0) (number_itself pin.dim)) (subst (λ x. nat_cmp pin.sort x ≡ orderings.Equal) (sym is.1.0) (number_itself pin.sort)) (subst (λ x. int_cmp pin.key x ≡ orderings.Equal) (sym is.1.1) (key_itself pin.key))
    ∙ up_to_says q.sort q.key (sort_of w) (key_of w) last (q.edge == 0) (edges (nat_cmp 0 n))
  where
    passed : (a b c rest : Ordering) → a ≡ orderings.Equal → b ≡ orderings.Equal → c ≡ orderings.Equal → is_le (ordering_then a (ordering_then b (ordering_then c (ordering_then (nat_cmp 1 1) rest)))) ≡ is_le rest
    passed a b c rest x y z = rw (x, y, z) refl

beside_between : (pin : Place) (dim : ℕ) (stretch : Stretch) → AreSpots dim stretch → (d n : ℕ) (v w : DimValue) → IsPinned pin d v → is_in (all_beside pin stretch) (place_of d n v (Some w)) ≡ takes stretch (sort_of w) (key_of w)
beside_between pin dim stretch spots d n v w is = ap₂ (λ x y. x && not y) (beside_le pin stretch.first d n v w is spots.first_edge) (beside_le pin stretch.end d n v w is spots.end_edge)

-- ---- what passes a test

-- what passes has a value on the dimension, of which the test asks, or two numbers of which the second is less
record Asked (leaf : Leaf) (values : List DimValue) : Type 0 where
  value : DimValue
  there : slice_get values (dim_of leaf) ≡ Some value
  asked : (asks_of leaf value ≡ true) ⊎ (is_turned value ≡ true)

asked_by : (leaf : Leaf) (values : List DimValue) → fits_leaf leaf values ≡ true → Asked leaf values
asked_by leaf values fits = at (slice_get values (dim_of leaf)) refl (passing leaf values fits)
  where
    split : (leaf : Leaf) (v : DimValue) → may_pass leaf v ≡ true → (asks_of leaf v ≡ true) ⊎ (is_turned v ≡ true)
    split (Ordered relation dim low high) v may = or_cases (low_reaches relation low high v) (is_turned v) (either_way relation dim low high v ∙ may)
    split (Is dim set label) v may = inl may

    at : (o : Option DimValue) → slice_get values (dim_of leaf) ≡ o → option_map_or (may_pass leaf) o false ≡ true → Asked leaf values
    at None none may = absurd cc
    at (Some v) there may = record { value = v; there = there; asked = split leaf v may }

-- between two spots of one sort and key stand values of that alone
one_key : (s sort : ℕ) (k key : ℤ) (b c : Bool) → (is_up_to s k b sort key && not (is_up_to s k c sort key)) ≡ true → (sort ≡ s) × (key ≡ k)
one_key s sort k key b c h = by (nat_lt s sort) (s == sort) (int_lt k key) (int_lt key k) refl refl refl h
  where
    by : (less same up down : Bool) → (s == sort) ≡ same → int_lt k key ≡ up → int_lt key k ≡ down
        → ((less || (same && (up || (not down && b)))) && not (less || (same && (up || (not down && c))))) ≡ true → (sort ≡ s) × (key ≡ k)
    by true same up down is is_up is_down both = absurd cc
    by false false up down is is_up is_down both = absurd cc
    by false true true down is is_up is_down both = absurd cc
    by false true false true is is_up is_down both = absurd cc
    by false true false false is is_up is_down both = (sym (eqb-true s sort is), grind (arith, ints))

pin_dim : (leaf : Leaf) → (stretch_of leaf).first.dim ≡ dim_of leaf
pin_dim leaf = ap (λ (p : Place). p.dim) (spots_of leaf).first

-- what a test with one key asks for is of that
pin_is : (leaf : Leaf) (v : DimValue) → has_one_key (stretch_of leaf) ≡ true → asks_of leaf v ≡ true → IsPinned (stretch_of leaf).first (dim_of leaf) v
pin_is leaf v one asks =
    let stretch = stretch_of leaf in
    let same = and_parts (stretch.first.sort == stretch.end.sort) (int_eq stretch.first.key stretch.end.key) one in
    let sorts = eqb-true stretch.first.sort stretch.end.sort same.0 in
    let keys = exact_signed stretch.first.key stretch.end.key (equal _ same.1) in
    let within : (is_up_to stretch.first.sort stretch.first.key (stretch.first.edge == 0) (sort_of v) (key_of v) && not (is_up_to stretch.first.sort stretch.first.key (stretch.end.edge == 0) (sort_of v) (key_of v))) ≡ true =
    ap₂ (λ s k. is_up_to stretch.first.sort stretch.first.key (stretch.first.edge == 0) (sort_of v) (key_of v) && not (is_up_to s k (stretch.end.edge == 0) (sort_of v) (key_of v))) sorts keys ∙ (asked_says leaf v ∙ asks) in
    (sym (pin_dim leaf), one_key stretch.first.sort (sort_of v) stretch.first.key (key_of v) (stretch.first.edge == 0) (stretch.end.edge == 0) within)

-- ---- who passes both

stands_there : (stretch : Stretch) (p : Place) (places : BTreeSet Place) (n : ℕ) → has places p ≡ true → is_in stretch p ≡ true → p.unit ≡ n → stands_in stretch places n ≡ true
stands_there stretch p places n there passes unit = met_is_among n (is_in stretch) p places.keys there passes unit

near_both : (first next : Leaf) (places : BTreeSet Place) (n : ℕ) (values : List DimValue) → has_one_key (stretch_of first) ≡ true → Tells places (dim_of first) (dim_of next)
    → AreThere places n values → fits_leaf first values ≡ true → fits_leaf next values ≡ true → is_near_both (stretch_of first).first (all_beside (stretch_of first).first (stretch_of next)) places n ≡ true
near_both first next places n values one tells there fits_one fits_two = by_first a.asked
  where
    a : Asked first values
    a = asked_by first values fits_one

    b : Asked next values
    b = asked_by next values fits_two

    d : ℕ
    d = dim_of first

    p : Place
    p = place_of d n a.value (Some b.value)

    next_is : next_of values d ≡ Some b.value
    next_is = tells n values there b.value b.there

    kept_there : has places p ≡ true
    kept_there = subst (λ o. has places (place_of d n a.value o) ≡ true) next_is (there (place_in d n values a.value) (is_here n d values a.value a.there))

    pin : Place
    pin = (stretch_of first).first

    both : Stretch
    both = all_beside pin (stretch_of next)

    here : Bool
    here = stands_in both places n

    turned_beside : Bool
    turned_beside = stands_in (all_beside pin (turned 0)) places n

    turned_here : Bool
    turned_here = stands_in (turned pin.dim) places n

    by_next : IsPinned pin d a.value → (asks_of next b.value ≡ true) ⊎ (is_turned b.value ≡ true) → is_near_both pin both places n ≡ true
    by_next pinned (inl asks) = or_left (here || turned_beside) turned_here (or_left here turned_beside
        (stands_there both p places n kept_there (beside_between pin (dim_of next) (stretch_of next) (spots_of next) d n a.value b.value pinned ∙ (asked_says next b.value ∙ asks)) refl))
    by_next pinned (inr turns) = or_left (here || turned_beside) turned_here (or_right here turned_beside
        (stands_there (all_beside pin (turned 0)) p places n kept_there (beside_between pin 0 (turned 0) (spots_turned 0) d n a.value b.value pinned ∙ (turned_says 0 b.value ∙ turns)) refl))

    by_first : (asks_of first a.value ≡ true) ⊎ (is_turned a.value ≡ true) → is_near_both pin both places n ≡ true
    by_first (inl asks) = by_next (pin_is first a.value one asks) b.asked
    by_first (inr turns) = or_right (here || turned_beside) turned_here
        (stands_there (turned pin.dim) p places n kept_there
        (between pin.dim (turned pin.dim) (spots_turned pin.dim) d n a.value (Some b.value)
        ∙ and_from (d == pin.dim) _ (eq-eqb d pin.dim (sym (pin_dim first))) (turned_says pin.dim a.value ∙ turns)) refl)

-- ---- who stands anywhere

kept_among : (n : ℕ) (k : Place) (ks fs : List Place) (b : Bool) → (list_any (λ p. p.unit == n) fs ≡ true → list_any (λ p. p.unit == n) ks ≡ true)
    → list_any (λ p. p.unit == n) (cond b (k ∷ fs) fs) ≡ true → ((k.unit == n) || list_any (λ p. p.unit == n) ks) ≡ true
kept_among n k ks fs false rest h = or_right (k.unit == n) (list_any (λ p. p.unit == n) ks) (rest h)
kept_among n k ks fs true rest h = on (or_cases (k.unit == n) (list_any (λ p. p.unit == n) fs) h)
  where
    on : ((k.unit == n) ≡ true) ⊎ (list_any (λ p. p.unit == n) fs ≡ true) → ((k.unit == n) || list_any (λ p. p.unit == n) ks) ≡ true
    on (inl one) = or_left (k.unit == n) (list_any (λ p. p.unit == n) ks) one
    on (inr later) = or_right (k.unit == n) (list_any (λ p. p.unit == n) ks) (rest later)

any_kept : (n : ℕ) (test : Place → Bool) (ks : List Place) → list_any (λ p. p.unit == n) (filter test ks) ≡ true → list_any (λ p. p.unit == n) ks ≡ true
any_kept n test [] h = absurd cc
any_kept n test (k ∷ ks) h = kept_among n k ks (filter test ks) (test k) (any_kept n test ks) h

both_kept : (pin : Place) (both : Stretch) (places : BTreeSet Place) (n : ℕ) → is_near_both pin both places n ≡ true → list_any (λ p. p.unit == n) places.keys ≡ true
both_kept pin both places n h = outer (or_cases _ _ h)
  where
    inner : (stands_in both places n ≡ true) ⊎ (stands_in (all_beside pin (turned 0)) places n ≡ true) → list_any (λ p. p.unit == n) places.keys ≡ true
    inner (inl here) = any_kept n (is_in both) places.keys here
    inner (inr turns) = any_kept n (is_in (all_beside pin (turned 0))) places.keys turns

    outer : ((stands_in both places n || stands_in (all_beside pin (turned 0)) places n) ≡ true) ⊎ (stands_in (turned pin.dim) places n ≡ true) → list_any (λ p. p.unit == n) places.keys ≡ true
    outer (inl beside_it) = inner (or_cases _ _ beside_it)
    outer (inr turns) = any_kept n (is_in (turned pin.dim)) places.keys turns

-- the candidates for both are all that pass all
pub all_near : (tests : List Leaf) (first next : Leaf) (places : BTreeSet Place) (list : List ℕ) → IsAsked tests first → IsAsked tests next → has_one_key (stretch_of first) ≡ true
    → Tells places (dim_of first) (dim_of next) → AreNearBoth (stretch_of first).first (all_beside (stretch_of first).first (stretch_of next)) places list → AreAllNear tests places list
all_near tests first next places list asks_one asks_two one tells near =
    let pin = (stretch_of first).first in
    record {
      rises = near.rises;
      kept = λ n h. both_kept pin (all_beside pin (stretch_of next)) places n (sym (near.same n) ∙ h);
      all = λ n values there fits. near.same n ∙ near_both first next places n values one tells there (asks_one values fits) (asks_two values fits);
    }

-- ---- the dimension that places tell of

-- no place has nothing in it
none_of_none : (n : ℕ) (ps : List Place) → nat_le (length ps) 0 ≡ true → list_any (λ p. p.unit == n) ps ≡ false
none_of_none n [] h = refl
none_of_none n (p ∷ ps) h = let le = leb-true (length (p ∷ ps)) 0 h in absurd (omega (arith, le))

pub tells_first : (places : BTreeSet Place) (dim after : ℕ) → after ≡ dim + 1 → nat_le (length (places_in (record { first = spot after 0 (pos 0) 0; end = spot (after + 1) 0 (pos 0) 0 }) places)) 0 ≡ true → Tells places dim 0
tells_first places dim after is bare = λ n values there v first. at n values there v first (slice_get values after) refl
  where
    stretch : Stretch
    stretch = record { first = spot after 0 (pos 0) 0; end = spot (after + 1) 0 (pos 0) 0 }

    before_all : (d n : ℕ) (v : DimValue) (next : Option DimValue) → d ≡ after → is_in stretch (place_of d n v next) ≡ true
    before_all d n v next same =
        and_from (is_le (place_cmp stretch.first (place_of d n v next))) (not (is_le (place_cmp stretch.end (place_of d n v next))))
        (spot_le after 0 (pos 0) 0 d n v next (λ _. refl) ∙ here) (ap not (spot_le (after + 1) 0 (pos 0) 0 d n v next (λ _. refl) ∙ there))
      where
        sorted : (v : DimValue) → nat_lt 0 (sort_of v) ≡ true
        sorted (Interval from to) = on (int_le from to)
          where
            on : (b : Bool) → nat_lt 0 (cond b 1 2) ≡ true
            on true = refl
            on false = refl
        sorted (Label set label) = lt-ltb 0 (4 + set) (omega arith)

        here : (nat_lt after d || ((after == d) && is_up_to 0 (pos 0) true (sort_of v) (key_of v))) ≡ true
        here = or_right (nat_lt after d) ((after == d) && is_up_to 0 (pos 0) true (sort_of v) (key_of v)) (and_from (after == d) (is_up_to 0 (pos 0) true (sort_of v) (key_of v)) (eq-eqb after d (sym same)) (or_left (nat_lt 0 (sort_of v)) _ (sorted v)))

        there : (nat_lt (after + 1) d || ((after + 1 == d) && is_up_to 0 (pos 0) true (sort_of v) (key_of v))) ≡ false
        there = rw (not_less (after + 1) d (omega (arith, same)), ne_eqb (after + 1) d (λ e. omega (arith, e, same))) refl

    never : (n : ℕ) (values : List DimValue) → AreThere places n values → (w : DimValue) → slice_get values after ≡ Some w → ⊥
    never n values there w is_one =
        let on = stands_there stretch (place_in after n values w) places n (there (place_in after n values w) (is_here n after values w is_one)) (before_all after n w (next_of values after) refl) refl in
        let off = none_of_none n (places_in stretch places) bare in
        absurd cc

    at : (n : ℕ) (values : List DimValue) → AreThere places n values → (v : DimValue) → slice_get values 0 ≡ Some v → (o : Option DimValue) → slice_get values after ≡ o → next_of values dim ≡ Some v
    at n values there v first None none = ap (λ o. option_or o (slice_get values 0)) (sym (ap (slice_get values) is) ∙ none) ∙ first
    at n values there v first (Some w) some = absurd (never n values there w some)

-- ---- units with values

-- a unit of a place has a place
at_place : (n : ℕ) (ks : List Place) (P : ℕ → Type 0) → ((p : Place) → list_any (meets (place_cmp p)) ks ≡ true → P p.unit) → list_any (λ p. p.unit == n) ks ≡ true → P n
at_place n [] P all h = absurd cc
at_place n (k ∷ ks) P all h = on (or_cases (k.unit == n) (list_any (λ p. p.unit == n) ks) h) (at_place n ks P (λ p there. all p (or_right (is_eq (place_cmp p k)) (list_any (meets (place_cmp p)) ks) there)))
  where
    on : ((k.unit == n) ≡ true) ⊎ (list_any (λ p. p.unit == n) ks ≡ true) → (list_any (λ p. p.unit == n) ks ≡ true → P n) → P n
    on (inl one) rest = subst P (eqb-true k.unit n one) (all k (or_left (is_eq (place_cmp k k)) (list_any (meets (place_cmp k)) ks) (place_itself k)))
    on (inr later) rest = rest later

-- units near all tests have values
pub near_kept : (had : ℕ → Option (List DimValue)) (places : BTreeSet Place) → AreOf had places → (tests : List Leaf) (list : List ℕ) → AreAllNear tests places list → (n : ℕ) → is_among n list ≡ true → is_some (had n) ≡ true
near_kept had places are tests list near n h = at_place n places.keys (λ u. is_some (had u) ≡ true) told (near.kept n h)
  where
    told : (p : Place) → has places p ≡ true → is_some (had p.unit) ≡ true
    told p there = by (had p.unit) refl (are.only p there)
      where
        by : (o : Option (List DimValue)) → had p.unit ≡ o → option_map_or (λ values. is_at values p) o false ≡ true → is_some (had p.unit) ≡ true
        by None none g = absurd cc
        by (Some values) some g = ap is_some some

-- all units whose values pass are among those near all tests
pub near_all : (had : ℕ → Option (List DimValue)) (places : BTreeSet Place) → AreOf had places → (tests : List Leaf) (list : List ℕ) → AreAllNear tests places list → (n : ℕ) → option_map_or (fit_each tests) (had n) false ≡ true → is_among n list ≡ true
near_all had places are tests list near n h = at (had n) refl h
  where
    at : (o : Option (List DimValue)) → had n ≡ o → option_map_or (fit_each tests) o false ≡ true → is_among n list ≡ true
    at None none g = absurd cc
    at (Some values) some g = near.all n values (λ p place. are.full p (stands_at p place)) g
      where
        stands_at : (p : Place) → is_place_of n values p ≡ true → is_had had p ≡ true
        stands_at p place = ap (λ u. option_map_or (λ vs. is_at vs p) (had u) false) (of_unit n values p place) ∙ (ap (λ o. option_map_or (λ vs. is_at vs p) o false) some ∙ at_of n values p place)
