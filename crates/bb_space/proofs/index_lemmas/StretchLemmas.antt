-- Which values stand in the stretches that tests ask for.
use Rattle.std.proofs.Common.{◌≡◌, ℕ, ℤ, pos, ◌+◌, ◌<◌, ◌≤◌, Bool, true, false, cond, not, ◌&&◌, ◌||◌, ◌==◌, nat_lt, int_lt, int_le, List, [], ◌∷◌, filter, ap₂, Option, Some, None, refl, sym, ap, subst, ◌∙◌, arith, eq-eqb, ne_eqb, lt-ltb, ltb-true, slice_get}
use Rattle.std.specs.Option.{option_map_or}
use Rattle.std.specs.declared.cmp.Ordering.{Ordering}
use Rattle.std.specs.declared.cmp.Ordering.TheVariants as orderings
use Rattle.std.specs.declared.ops.Bound.TheVariants.{Included, Excluded}
use Rattle.std.specs.Ordering.{is_le, is_gt, is_lt, ordering_then, partial_ordering_then, is_some_and, nat_cmp, int_cmp}
use Rattle.std.specs.BTreeMap.Range.{range_contains}
use Rattle.std.specs.BTreeSet.{BTreeSet}
use Rattle.std.proofs.lemmas.Cmp.{upto}
use Rattle.std.proofs.lemmas.Int.{ints}
use Rattle.bb_basis.proofs.BoolLemmas.{or_false, and_false, and_true}
use Rattle.bb_pattern.specs.declared.pattern.Relation.{Relation}
use Rattle.bb_pattern.specs.declared.pattern.Relation.TheVariants.{Within, Covers, Overlaps, Less, More}
use Rattle.bb_pattern.specs.declared.value.DimValue.{DimValue}
use Rattle.bb_pattern.specs.declared.value.DimValue.TheVariants.{Interval, Label}
use Rattle.bb_space.specs.declared.index.leaf.Leaf.{Leaf}
use Rattle.bb_space.specs.declared.index.leaf.Leaf.TheVariants.{Ordered, Is}
use Rattle.bb_space.specs.declared.index.place.Place.{Place}
use Rattle.bb_space.specs.declared.index.stretch.Stretch.{Stretch}
use Rattle.bb_space.specs.index.Candidates.{reaches, may_pass, dim_of}
use Rattle.bb_space.specs.index.proving.Places.{place_cmp, sort_of, key_of, place_of}
use Rattle.bb_space.specs.index.proving.Stretches.{spot, intervals, stretch_of, turned, places_in, stands_in, is_near}
use Rattle.bb_space.proofs.index_lemmas.PlaceLemmas.{place_total, place_itself, equal, by_bool, by_number}
use Rattle.bb_space.proofs.index_lemmas.NearLemmas.{AreOf, found_by}

-- ---- a spot and a place

then_nat : (x y : Bool) (o : Ordering) → is_le (ordering_then (cond x orderings.Less (cond y orderings.Equal orderings.Greater)) o) ≡ (x || (y && is_le o))
then_nat true y o = refl
then_nat false true o = refl
then_nat false false o = refl

then_int : (x y : Bool) (o : Ordering) → is_le (ordering_then (cond x orderings.Less (cond y orderings.Greater orderings.Equal)) o) ≡ (x || (not y && is_le o))
then_int true y o = refl
then_int false true o = refl
then_int false false o = refl

-- a spot of a sort and key is no further than a value's place, on one dimension; on an edge that is before all values
-- or after them
abbrev pub is_up_to : ℕ → ℤ → Bool → ℕ → ℤ → Bool
is_up_to s k before sort key = nat_lt s sort || ((s == sort) && (int_lt k key || (not (int_lt key k) && before)))

-- how a sort and key stand to another, before what comes after them
pub up_to_says : (s : ℕ) (k : ℤ) (sort : ℕ) (key : ℤ) (last : Ordering) (before : Bool) → is_le last ≡ before → is_le (ordering_then (nat_cmp s sort) (ordering_then (int_cmp k key) last)) ≡ is_up_to s k before sort key
up_to_says s k sort key last before edges =
    let keys = ordering_then (int_cmp k key) last in
    let by_key : is_le keys ≡ (int_lt k key || (not (int_lt key k) && before)) = then_int (int_lt k key) (int_lt key k) last ∙ ap (λ b. int_lt k key || (not (int_lt key k) && b)) edges in
    then_nat (nat_lt s sort) (s == sort) keys ∙ ap (λ b. nat_lt s sort || ((s == sort) && b)) by_key

-- no value has the edge: it is before all values of a sort and key where it is 0, or after them
abbrev pub IsEdge : ℕ → Type 0
IsEdge edge = (last : Ordering) → is_le (ordering_then (nat_cmp edge 1) last) ≡ (edge == 0)

pub spot_le : (dim s : ℕ) (k : ℤ) (edge d n : ℕ) (v : DimValue) (next : Option DimValue) → IsEdge edge
    → is_le (place_cmp (spot dim s k edge) (place_of d n v next)) ≡ (nat_lt dim d || ((dim == d) && is_up_to s k (edge == 0) (sort_of v) (key_of v)))
spot_le dim s k edge d n v next edges =
    let nexts = ordering_then (nat_cmp 0 (option_map_or sort_of next 0)) (ordering_then (int_cmp (pos 0) (option_map_or key_of next (pos 0))) (ordering_then (nat_cmp 0 (option_map_or (λ _. 1) next 0)) (nat_cmp 0 n))) in
    let last = ordering_then (nat_cmp edge 1) nexts in
    let sorts = ordering_then (nat_cmp s (sort_of v)) (ordering_then (int_cmp k (key_of v)) last) in
    then_nat (nat_lt dim d) (dim == d) sorts ∙ ap (λ b. nat_lt dim d || ((dim == d) && b)) (up_to_says s k (sort_of v) (key_of v) last (edge == 0) (edges nexts))

pub not_less : (a b : ℕ) → b ≤ a → nat_lt a b ≡ false
not_less a b le = by_bool (nat_lt a b) _ (λ h. let lt = ltb-true a b h in absurd (omega (arith, lt, le))) (λ h. h)

-- on another dimension none is between two spots
between_dims : (dim d : ℕ) (x y : Bool) → ((nat_lt dim d || ((dim == d) && x)) && not (nat_lt dim d || ((dim == d) && y))) ≡ ((d == dim) && (x && not y))
between_dims dim d x y = by_number dim d _
    (λ same. let less = not_less dim d (omega (arith, same)) in
    by (nat_lt dim d) (dim == d) (d == dim) less (eq-eqb dim d same) (eq-eqb d dim (sym same)))
    (λ apart. none (nat_lt dim d) (dim == d) (d == dim) (ne_eqb dim d apart) (ne_eqb d dim (λ e. apart (sym e))))
  where
    by : (l e f : Bool) → l ≡ false → e ≡ true → f ≡ true → ((l || (e && x)) && not (l || (e && y))) ≡ (f && (x && not y))
    by l e f off on too = rw (off, on, too) refl

    none : (l e f : Bool) → e ≡ false → f ≡ false → ((l || (e && x)) && not (l || (e && y))) ≡ (f && (x && not y))
    none true e f off too = rw too refl
    none false e f off too = rw (off, too) refl

-- ---- a stretch and a place

-- the place stands in the stretch
abbrev pub is_in : Stretch → Place → Bool
is_in stretch p = range_contains place_cmp (Included stretch.first) (Excluded stretch.end) p

-- the stretch goes from a spot of a dimension to another
pub record AreSpots (dim : ℕ) (stretch : Stretch) : Type 0 where
  pub first : stretch.first ≡ spot dim stretch.first.sort stretch.first.key stretch.first.edge
  pub end : stretch.end ≡ spot dim stretch.end.sort stretch.end.key stretch.end.edge
  pub first_edge : IsEdge stretch.first.edge
  pub end_edge : IsEdge stretch.end.edge

pub spots_of : (leaf : Leaf) → AreSpots (dim_of leaf) (stretch_of leaf)
spots_of (Ordered Within dim low high) = record { first = refl; end = refl; first_edge = λ _. refl; end_edge = λ _. refl }
spots_of (Ordered Covers dim low high) = record { first = refl; end = refl; first_edge = λ _. refl; end_edge = λ _. refl }
spots_of (Ordered Overlaps dim low high) = record { first = refl; end = refl; first_edge = λ _. refl; end_edge = λ _. refl }
spots_of (Ordered Less dim low high) = record { first = refl; end = refl; first_edge = λ _. refl; end_edge = λ _. refl }
spots_of (Ordered More dim low high) = record { first = refl; end = refl; first_edge = λ _. refl; end_edge = λ _. refl }
spots_of (Is dim set label) = record { first = refl; end = refl; first_edge = λ _. refl; end_edge = λ _. refl }

pub spots_turned : (dim : ℕ) → AreSpots dim (turned dim)
spots_turned dim = record { first = refl; end = refl; first_edge = λ _. refl; end_edge = λ _. refl }

-- the values of a sort and key stand in the stretch, if its ends are spots of their dimension
abbrev pub takes : Stretch → ℕ → ℤ → Bool
takes stretch sort key =
    is_up_to stretch.first.sort stretch.first.key (stretch.first.edge == 0) sort key && not (is_up_to stretch.end.sort stretch.end.key (stretch.end.edge == 0) sort key)

pub between : (dim : ℕ) (stretch : Stretch) → AreSpots dim stretch → (d n : ℕ) (v : DimValue) (next : Option DimValue) → is_in stretch (place_of d n v next) ≡ ((d == dim) && takes stretch (sort_of v) (key_of v))
between dim stretch spots d n v next =
    let p = place_of d n v next in
    let up_to : Place → Bool = λ q. is_up_to q.sort q.key (q.edge == 0) (sort_of v) (key_of v) in
    let from = ap (λ q. is_le (place_cmp q p)) spots.first ∙ spot_le dim stretch.first.sort stretch.first.key stretch.first.edge d n v next spots.first_edge in
    let to = ap (λ q. is_le (place_cmp q p)) spots.end ∙ spot_le dim stretch.end.sort stretch.end.key stretch.end.edge d n v next spots.end_edge in
    ap₂ (λ x y. x && not y) from to ∙ between_dims dim d (up_to stretch.first) (up_to stretch.end)

-- ---- keys

at_least : (a b : ℤ) → (int_lt a b || (not (int_lt b a) && true)) ≡ int_le a b
at_least a b = by (int_lt a b) (int_lt b a) refl refl
  where
    by : (x y : Bool) → int_lt a b ≡ x → int_lt b a ≡ y → (x || (not y && true)) ≡ int_le a b
    by true y less more = grind (arith, ints)
    by false true less more = grind (arith, ints)
    by false false less more = grind (arith, ints)

beyond : (a b : ℤ) → (int_lt a b || (not (int_lt b a) && false)) ≡ int_lt a b
beyond a b = by (int_lt a b) (int_lt b a)
  where
    by : (x y : Bool) → (x || (not y && false)) ≡ x
    by true y = refl
    by false true = refl
    by false false = refl

not_beyond : (a b : ℤ) → not (int_lt a b) ≡ int_le b a
not_beyond a b = by (int_lt a b) refl
  where
    by : (x : Bool) → int_lt a b ≡ x → not x ≡ int_le b a
    by true h = grind (arith, ints)
    by false h = grind (arith, ints)

not_at_least : (a b : ℤ) → not (int_le a b) ≡ int_lt b a
not_at_least a b = by (int_le a b) refl
  where
    by : (x : Bool) → int_le a b ≡ x → not x ≡ int_lt b a
    by true h = grind (arith, ints)
    by false h = grind (arith, ints)

-- ---- the intervals in a relation

-- an interval by its low end
by_low : (r : Relation) (dim : ℕ) (low high from : ℤ) → takes (intervals r dim low high) 1 from ≡ reaches r from low high
by_low Within dim low high from = ap (λ b. b && not (int_lt high from || (not (int_lt from high) && false))) (at_least low from) ∙ ap (λ b. int_le low from && not b) (beyond high from) ∙ ap (λ b. int_le low from && b) (not_beyond high from)
by_low Covers dim low high from = ap not (beyond low from) ∙ not_beyond low from
by_low Overlaps dim low high from = ap not (beyond high from) ∙ not_beyond high from
by_low Less dim low high from = ap not (at_least low from) ∙ not_at_least low from
by_low More dim low high from = and_true (int_lt high from || (not (int_lt from high) && false)) ∙ beyond high from

-- two numbers of which the second is less stand after all intervals
turned_out : (r : Relation) (dim : ℕ) (low high : ℤ) → takes (intervals r dim low high) 2 (pos 0) ≡ false
turned_out Within dim low high = refl
turned_out Covers dim low high = refl
turned_out Overlaps dim low high = refl
turned_out Less dim low high = refl
turned_out More dim low high = refl

-- labels stand after two numbers of which the second is less
label_out : (stretch : Stretch) (sort : ℕ) (key : ℤ) → stretch.end.sort < sort → takes stretch sort key ≡ false
label_out stretch sort key lt =
    let first = is_up_to stretch.first.sort stretch.first.key (stretch.first.edge == 0) sort key in
    let keys = (stretch.end.sort == sort) && (int_lt stretch.end.key key || (not (int_lt key stretch.end.key) && (stretch.end.edge == 0))) in
    ap (λ x. first && not (x || keys)) (lt-ltb stretch.end.sort sort lt) ∙ and_false first

abbrev pub low_reaches : Relation → ℤ → ℤ → DimValue → Bool
low_reaches r low high (Interval from to) = cond (int_le from to) (reaches r from low high) false
low_reaches r low high (Label set label) = false

abbrev pub is_turned : DimValue → Bool
is_turned (Interval from to) = not (int_le from to)
is_turned (Label set label) = false

low_says : (r : Relation) (dim : ℕ) (low high : ℤ) (v : DimValue) → takes (intervals r dim low high) (sort_of v) (key_of v) ≡ low_reaches r low high v
low_says r dim low high (Interval from to) = by (int_le from to)
  where
    by : (b : Bool) → takes (intervals r dim low high) (cond b 1 2) (cond b from (pos 0)) ≡ cond b (reaches r from low high) false
    by true = by_low r dim low high from
    by false = turned_out r dim low high
low_says r dim low high (Label set label) = label_out (intervals r dim low high) (4 + set) (pos label) (few r)
  where
    few : (r : Relation) → (intervals r dim low high).end.sort < 4 + set
    few Within = omega arith
    few Covers = omega arith
    few Overlaps = omega arith
    few Less = omega arith
    few More = omega arith

pub turned_says : (dim : ℕ) (v : DimValue) → takes (turned dim) (sort_of v) (key_of v) ≡ is_turned v
turned_says dim (Interval from to) = by (int_le from to)
  where
    by : (b : Bool) → takes (turned dim) (cond b 1 2) (cond b from (pos 0)) ≡ not b
    by true = refl
    by false = refl
turned_says dim (Label set label) = label_out (turned dim) (4 + set) (pos label) (omega arith)

-- ---- labels

same_label : (l o : ℕ) → (int_le (pos l) (pos o) && not (int_lt (pos l) (pos o))) ≡ (o == l)
same_label l o = by_number o l _
    (λ same. subst (λ m. (int_le (pos l) (pos m) && not (int_lt (pos l) (pos m))) ≡ (m == l)) (sym same) (ap (λ b. int_le (pos l) (pos l) && b) (not_beyond (pos l) (pos l)) ∙ (itself l ∙ sym (eq-eqb l l refl))))
    (λ apart. ap (λ b. int_le (pos l) (pos o) && b) (not_beyond (pos l) (pos o)) ∙ (other (int_le (pos l) (pos o)) (int_le (pos o) (pos l)) refl refl apart ∙ sym (ne_eqb o l apart)))
  where
    itself : (m : ℕ) → (int_le (pos m) (pos m) && int_le (pos m) (pos m)) ≡ true
    itself m = let one : int_le (pos m) (pos m) ≡ true = grind (arith, ints) in rw one refl

    other : (x y : Bool) → int_le (pos l) (pos o) ≡ x → int_le (pos o) (pos l) ≡ y → (o ≡ l → ⊥) → (x && y) ≡ false
    other true true up down apart = absurd (apart (grind (arith, ints)))
    other true false up down apart = refl
    other false y up down apart = refl

label_says : (dim set label : ℕ) (v : DimValue) → takes (stretch_of (Is dim set label)) (sort_of v) (key_of v) ≡ may_pass (Is dim set label) v
label_says dim set label (Interval from to) = by (int_le from to)
  where
    out : (s : ℕ) (k : ℤ) (x : Bool) → s < 4 + set → (is_up_to (4 + set) (pos label) true s k && x) ≡ false
    out s k x lt = rw (not_less (4 + set) s (omega (arith, lt)), ne_eqb (4 + set) s (λ e. omega (arith, lt, e))) refl

    by : (b : Bool) → (is_up_to (4 + set) (pos label) true (cond b 1 2) (cond b from (pos 0)) && not (is_up_to (4 + set) (pos label) false (cond b 1 2) (cond b from (pos 0)))) ≡ false
    by true = out 1 from _ (omega arith)
    by false = out 2 (pos 0) _ (omega arith)
label_says dim set label (Label of other) = by_number of set _
    (λ same. subst (λ m. (is_up_to (4 + set) (pos label) true (4 + m) (pos other) && not (is_up_to (4 + set) (pos label) false (4 + m) (pos other))) ≡ ((m == set) && (other == label))) (sym same) here)
    (λ apart. none (nat_lt (4 + set) (4 + of)) (4 + set == 4 + of) (of == set) (ne_eqb (4 + set) (4 + of) (λ e. apart (omega (arith, e)))) (ne_eqb of set apart))
  where
    none : (l e f : Bool) → e ≡ false → f ≡ false
        → ((l || (e && (int_lt (pos label) (pos other) || (not (int_lt (pos other) (pos label)) && true)))) && not (l || (e && (int_lt (pos label) (pos other) || (not (int_lt (pos other) (pos label)) && false))))) ≡ (f && (other == label))
    none true e f off too = rw too refl
    none false e f off too = rw (off, too) refl

    here : (is_up_to (4 + set) (pos label) true (4 + set) (pos other) && not (is_up_to (4 + set) (pos label) false (4 + set) (pos other))) ≡ ((set == set) && (other == label))
    here = rw (not_less (4 + set) (4 + set) (omega arith), eq-eqb (4 + set) (4 + set) refl, eq-eqb set set refl, at_least (pos label) (pos other), beyond (pos label) (pos other)) (same_label label other)

-- ---- what a test asks for

-- what a test asks of a value, but for two numbers of which the second is less
abbrev pub asks_of : Leaf → DimValue → Bool
asks_of (Ordered relation dim low high) v = low_reaches relation low high v
asks_of (Is dim set label) v = may_pass (Is dim set label) v

pub asked_says : (leaf : Leaf) (v : DimValue) → takes (stretch_of leaf) (sort_of v) (key_of v) ≡ asks_of leaf v
asked_says (Ordered relation dim low high) v = low_says relation dim low high v
asked_says (Is dim set label) v = label_says dim set label v

abbrev pub by_value : Leaf → (DimValue → Bool) → Option (List DimValue) → Bool
by_value leaf f o = option_map_or (λ told. option_map_or f (slice_get told (dim_of leaf)) false) o false

-- what either test says of a value
either : (leaf : Leaf) (f g h : DimValue → Bool) → ((v : DimValue) → (f v || g v) ≡ h v) → (o : Option (List DimValue)) → (by_value leaf f o || by_value leaf g o) ≡ by_value leaf h o
either leaf f g h says None = refl
either leaf f g h says (Some told) = at (slice_get told (dim_of leaf))
  where
    at : (o : Option DimValue) → (option_map_or f o false || option_map_or g o false) ≡ option_map_or h o false
    at None = refl
    at (Some v) = says v

pub either_way : (relation : Relation) (dim : ℕ) (low high : ℤ) (v : DimValue) → (low_reaches relation low high v || is_turned v) ≡ may_pass (Ordered relation dim low high) v
either_way relation dim low high (Interval from to) = by (int_le from to)
  where
    by : (b : Bool) → (cond b (reaches relation from low high) false || not b) ≡ cond b (reaches relation from low high) true
    by true = or_false (reaches relation from low high)
    by false = refl
either_way relation dim low high (Label set label) = refl

module _ (had : ℕ → Option (List DimValue)) (places : BTreeSet Place) (are : AreOf had places) where
  -- the units that stand where a test asks, by their values
  pub asked_there : (leaf : Leaf) (n : ℕ) → stands_in (stretch_of leaf) places n ≡ by_value leaf (asks_of leaf) (had n)
  asked_there leaf n = found_by had places are (is_in (stretch_of leaf)) (dim_of leaf) (asks_of leaf) (λ d k v next. between (dim_of leaf) (stretch_of leaf) (spots_of leaf) d k v next ∙ ap (λ b. (d == dim_of leaf) && b) (asked_says leaf v)) n

  -- and those with two numbers on its dimension of which the second is less
  pub turned_there : (leaf : Leaf) (n : ℕ) → stands_in (turned (dim_of leaf)) places n ≡ by_value leaf is_turned (had n)
  turned_there leaf n = found_by had places are (is_in (turned (dim_of leaf))) (dim_of leaf) is_turned (λ d k v next. between (dim_of leaf) (turned (dim_of leaf)) (spots_turned (dim_of leaf)) d k v next ∙ ap (λ b. (d == dim_of leaf) && b) (turned_says (dim_of leaf) v)) n

  -- the units near a test are those whose value can pass
  pub near_is : (leaf : Leaf) (n : ℕ) → is_near leaf places n ≡ by_value leaf (may_pass leaf) (had n)
  near_is (Ordered relation dim low high) n =
      let leaf = Ordered relation dim low high in
      ap₂ (λ a b. a || b) (asked_there leaf n) (turned_there leaf n) ∙ either leaf (asks_of leaf) is_turned (may_pass leaf) (either_way relation dim low high) (had n)
  near_is (Is dim set label) n = or_false (stands_in (stretch_of (Is dim set label)) places n) ∙ asked_there (Is dim set label) n

-- ---- a stretch whose end comes before its first

-- nothing stands in it
pub nothing_in : (stretch : Stretch) → is_gt (place_cmp stretch.end stretch.first) ≡ false → (places : BTreeSet Place) → places_in stretch places ≡ []
nothing_in stretch less places = none places.keys
  where
    up : (o : Ordering) → is_le o ≡ true → is_gt o ≡ false
    up orderings.Less h = refl
    up orderings.Equal h = refl
    up orderings.Greater h = absurd cc

    down : (o : Ordering) → is_gt o ≡ false → is_le o ≡ true
    down orderings.Less h = refl
    down orderings.Equal h = refl
    down orderings.Greater h = absurd cc

    out : (p : Place) (b : Bool) → is_le (place_cmp stretch.first p) ≡ b → (b && not (is_le (place_cmp stretch.end p))) ≡ false
    out p true h = ap not (down (place_cmp stretch.end p) (upto place_total stretch.end stretch.first p less (up (place_cmp stretch.first p) h)))
    out p false h = refl

    none : (ks : List Place) → filter (is_in stretch) ks ≡ []
    none [] = refl
    none (k ∷ ks) = ap (λ c. cond c (k ∷ filter (is_in stretch) ks) (filter (is_in stretch) ks)) (out k (is_le (place_cmp stretch.first k)) refl) ∙ none ks

lower : (o : Ordering) → is_lt o ≡ true → is_gt o ≡ false
lower orderings.Less h = refl
lower orderings.Equal h = absurd cc
lower orderings.Greater h = absurd cc

-- the stretch from a place to itself has what one has whose end comes before its first
pub nothing_either : (stretch : Stretch) → is_lt (place_cmp stretch.end stretch.first) ≡ true → (places : BTreeSet Place) → places_in (record { first = stretch.first; end = stretch.first }) places ≡ places_in stretch places
nothing_either stretch less places =
    nothing_in (record { first = stretch.first; end = stretch.first }) (ap is_gt (equal _ (place_itself stretch.first))) places
    ∙ sym (nothing_in stretch (lower (place_cmp stretch.end stretch.first) less) places)

-- ---- what `<` says of places

-- one more part
by_one : (p : Option Ordering) (o : Ordering) → is_some_and is_lt p ≡ is_lt o → (a : Ordering) → is_some_and is_lt (partial_ordering_then (Some a) p) ≡ is_lt (ordering_then a o)
by_one p o rest orderings.Less = refl
by_one p o rest orderings.Equal = rest
by_one p o rest orderings.Greater = refl

pub is_less : (p q : Place) → is_some_and is_lt (partial_ordering_then (Some (nat_cmp p.dim q.dim)) (partial_ordering_then (Some (nat_cmp p.sort q.sort)) (partial_ordering_then (Some (int_cmp p.key q.key)) (partial_ordering_then (Some (nat_cmp p.edge q.edge))
    (partial_ordering_then (Some (nat_cmp p.next_sort q.next_sort)) (partial_ordering_then (Some (int_cmp p.next_key q.next_key)) (partial_ordering_then (Some (nat_cmp p.next_edge q.next_edge)) (Some (nat_cmp p.unit q.unit)))))))))
    ≡ is_lt (place_cmp p q)
is_less p q =
    by_one _ _ (by_one _ _ (by_one _ _ (by_one _ _ (by_one _ _ (by_one _ _ (by_one (Some (nat_cmp p.unit q.unit)) (nat_cmp p.unit q.unit) refl (nat_cmp p.next_edge q.next_edge)) (int_cmp p.next_key q.next_key)) (nat_cmp p.next_sort q.next_sort)) (nat_cmp p.edge q.edge)) (int_cmp p.key q.key)) (nat_cmp p.sort q.sort)) (nat_cmp p.dim q.dim)
