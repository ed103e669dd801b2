-- Places in the index of a space, one more and one less.
use Rattle.std.proofs.Common.{◌≡◌, ℕ, zero, suc, ℤ, ◌+◌, ◌<◌, ◌≤◌, Bool, true, false, cond, ◌&&◌, ◌==◌, List, [], length, Option, Some, None, refl, sym, ap, subst, ◌∙◌, arith, eqb-true, eq-eqb, slice_get, pos}
use Rattle.std.specs.Option.{option_map_or}
use Rattle.std.specs.declared.cmp.Ordering.{Ordering}
use Rattle.std.specs.Ordering.{is_eq, ordering_then, int_cmp, nat_cmp, int_eq}
use Rattle.std.specs.declared.cmp.Ordering.TheVariants.{Less, Equal, Greater}
use Rattle.std.specs.Cmp.{IsTotalOrder, tied_then}
use Rattle.std.specs.BTreeSet.{BTreeSet}
use Rattle.std.proofs.lemmas.Bool.{and_parts, and_from}
use Rattle.std.proofs.lemmas.Cmp.{int_cmp_total, nat_cmp_total, on_total, then_total, eq_by_cmp_equiv}
use Rattle.std.proofs.lemmas.Map.Lookups.{exact_signed, exact_unsigned}
use Rattle.std.proofs.lemmas.Option.{slice_get_within}
use Rattle.bb_basis.proofs.BoolLemmas.{cond_or_true}
use Rattle.bb_pattern.specs.declared.value.DimValue.{DimValue}
use Rattle.bb_space.specs.declared.index.place.Place.{Place}
use Rattle.bb_space.specs.index.proving.Places.{place_cmp, sort_of, key_of, next_of, place_of, is_value_at, is_at, is_place_of, has, ArePut, AreIn, AreTaken}

pub place_total : IsTotalOrder place_cmp
place_total = then_total (on_total (λ (p : Place). p.dim) nat_cmp_total) (then_total (on_total (λ (p : Place). p.sort) nat_cmp_total) (then_total (on_total (λ (p : Place). p.key) int_cmp_total) (then_total (on_total (λ (p : Place). p.edge) nat_cmp_total) (then_total (on_total (λ (p : Place). p.next_sort) nat_cmp_total) (then_total (on_total (λ (p : Place). p.next_key) int_cmp_total) (then_total (on_total (λ (p : Place). p.next_edge) nat_cmp_total) (on_total (λ (p : Place). p.unit) nat_cmp_total)))))))

pub place_itself : (p : Place) → is_eq (place_cmp p p) ≡ true
place_itself = (eq_by_cmp_equiv place_total).refl

key_itself : (z : ℤ) → int_eq z z ≡ true
key_itself = (eq_by_cmp_equiv int_cmp_total).refl

pub equal : (o : Ordering) → is_eq o ≡ true → o ≡ Equal
equal Less h = absurd cc
equal Equal h = refl
equal Greater h = absurd cc

-- places that compare equal are one
pub same_place : (p q : Place) → is_eq (place_cmp p q) ≡ true → p ≡ q
same_place p q same =
    let by_unit = nat_cmp p.unit q.unit in
    let by_next_edge = ordering_then (nat_cmp p.next_edge q.next_edge) by_unit in
    let by_next_key = ordering_then (int_cmp p.next_key q.next_key) by_next_edge in
    let by_next_sort = ordering_then (nat_cmp p.next_sort q.next_sort) by_next_key in
    let by_edge = ordering_then (nat_cmp p.edge q.edge) by_next_sort in
    let by_key = ordering_then (int_cmp p.key q.key) by_edge in
    let by_sort = ordering_then (nat_cmp p.sort q.sort) by_key in
    let a = and_parts (is_eq (nat_cmp p.dim q.dim)) (is_eq by_sort) (tied_then (nat_cmp p.dim q.dim) by_sort ∙ same) in
    let b = and_parts (is_eq (nat_cmp p.sort q.sort)) (is_eq by_key) (tied_then (nat_cmp p.sort q.sort) by_key ∙ a.1) in
    let d = and_parts (is_eq (int_cmp p.key q.key)) (is_eq by_edge) (tied_then (int_cmp p.key q.key) by_edge ∙ b.1) in
    let e = and_parts (is_eq (nat_cmp p.edge q.edge)) (is_eq by_next_sort) (tied_then (nat_cmp p.edge q.edge) by_next_sort ∙ d.1) in
    let f = and_parts (is_eq (nat_cmp p.next_sort q.next_sort)) (is_eq by_next_key) (tied_then (nat_cmp p.next_sort q.next_sort) by_next_key ∙ e.1) in
    let g = and_parts (is_eq (int_cmp p.next_key q.next_key)) (is_eq by_next_edge) (tied_then (int_cmp p.next_key q.next_key) by_next_edge ∙ f.1) in
    let h = and_parts (is_eq (nat_cmp p.next_edge q.next_edge)) (is_eq by_unit) (tied_then (nat_cmp p.next_edge q.next_edge) by_unit ∙ g.1) in
    alike p.dim q.dim p.sort q.sort p.edge q.edge p.next_sort q.next_sort p.next_edge q.next_edge p.unit q.unit p.key q.key p.next_key q.next_key (exact_unsigned p.dim q.dim (equal _ a.0)) (exact_unsigned p.sort q.sort (equal _ b.0)) (exact_unsigned p.edge q.edge (equal _ e.0))
    (exact_unsigned p.next_sort q.next_sort (equal _ f.0)) (exact_unsigned p.next_edge q.next_edge (equal _ h.0)) (exact_unsigned p.unit q.unit (equal _ h.1)) (exact_signed p.key q.key (equal _ d.0)) (exact_signed p.next_key q.next_key (equal _ g.0))
  where
    alike : (a b c d e f g h i j k l : ℕ) (x y z w : ℤ) → a ≡ b → c ≡ d → e ≡ f → g ≡ h → i ≡ j → k ≡ l → x ≡ y → z ≡ w
        → ◌≡◌ {A = Place} (record { dim = a; sort = c; key = x; edge = e; next_sort = g; next_key = z; next_edge = i; unit = k }) (record { dim = b; sort = d; key = y; edge = f; next_sort = h; next_key = w; next_edge = j; unit = l })
    alike a b c d e f g h i j k l x y z w ab cd ef gh ij kl xy zw = rw (ab, cd, ef, gh, ij, kl, xy, zw) refl

pub by_place : (k p : Place) (G : Type 0) → (is_eq (place_cmp k p) ≡ true → k ≡ p → G) → (is_eq (place_cmp k p) ≡ false → G) → G
by_place k p G same other = at (is_eq (place_cmp k p)) refl
  where
    at : (b : Bool) → is_eq (place_cmp k p) ≡ b → G
    at true h = same h (same_place k p h)
    at false h = other h

pub by_bool : (b : Bool) (G : Type 0) → (b ≡ true → G) → (b ≡ false → G) → G
by_bool true G one other = one refl
by_bool false G one other = other refl

pub by_number : (n k : ℕ) (G : Type 0) → (n ≡ k → G) → ((n ≡ k → ⊥) → G) → G
by_number n k G same other = at (n == k) refl
  where
    at : (b : Bool) → (n == k) ≡ b → G
    at true h = same (eqb-true n k h)
    at false h = other (λ e. let is_one : (n == k) ≡ true = eq-eqb n k e in absurd cc)

-- ---- the place of one of a unit's values

-- the place of the value on a dimension that a unit with these values has
abbrev pub place_in : ℕ → ℕ → List DimValue → DimValue → Place
place_in dim unit values v = place_of dim unit v (next_of values dim)

is_at_value : (values : List DimValue) (p : Place) (v : DimValue) → slice_get values p.dim ≡ Some v → is_at values p ≡ is_value_at p (next_of values p.dim) v
is_at_value values p v there = ap (λ o. option_map_or (is_value_at p (next_of values p.dim)) o false) there

value_here : (dim unit : ℕ) (v : DimValue) (next : Option DimValue) → is_value_at (place_of dim unit v next) next v ≡ true
value_here dim unit v next =
    let sort = option_map_or sort_of next 0 in
    let key = option_map_or key_of next (pos 0) in
    let edge = option_map_or (λ _. 1) next 0 in
    and_from (sort_of v == sort_of v) (int_eq (key_of v) (key_of v) && ((1 == 1) && ((sort == sort) && (int_eq key key && (edge == edge))))) (eq-eqb (sort_of v) (sort_of v) refl)
    (and_from (int_eq (key_of v) (key_of v)) ((1 == 1) && ((sort == sort) && (int_eq key key && (edge == edge)))) (key_itself (key_of v))
    (and_from (sort == sort) (int_eq key key && (edge == edge)) (eq-eqb sort sort refl) (and_from (int_eq key key) (edge == edge) (key_itself key) (eq-eqb edge edge refl))))

pub is_here : (unit dim : ℕ) (values : List DimValue) (v : DimValue) → slice_get values dim ≡ Some v → is_place_of unit values (place_in dim unit values v) ≡ true
is_here unit dim values v there =
    and_from (unit == unit) (is_at values (place_in dim unit values v)) (eq-eqb unit unit refl)
    (is_at_value values (place_in dim unit values v) v there ∙ value_here dim unit v (next_of values dim))

-- other values with the same one there, and on the next dimension, have one that stands there
pub stays_at : (unit dim : ℕ) (values others : List DimValue) (v : DimValue) → slice_get values dim ≡ Some v → (slice_get others dim ≡ slice_get values dim) × (next_of others dim ≡ next_of values dim)
    → is_at others (place_in dim unit values v) ≡ true
stays_at unit dim values others v there same =
    is_at_value others (place_in dim unit values v) v (same.0 ∙ there)
    ∙ (ap (λ next. is_value_at (place_in dim unit values v) next v) same.1 ∙ value_here dim unit v (next_of values dim))

-- what is known of a place of one of a unit's values
pub record Stands (unit : ℕ) (values : List DimValue) (p : Place) : Type 0 where
  pub value : DimValue
  pub there : slice_get values p.dim ≡ Some value
  pub place : place_in p.dim unit values value ≡ p

value_stands : (unit : ℕ) (p : Place) (next : Option DimValue) (v : DimValue) → p.unit ≡ unit → is_value_at p next v ≡ true → place_of p.dim unit v next ≡ p
value_stands unit p next v of_unit h =
    let sort = option_map_or sort_of next 0 in
    let key = option_map_or key_of next (pos 0) in
    let edge = option_map_or (λ _. 1) next 0 in
    let nexts = (sort == p.next_sort) && (int_eq key p.next_key && (edge == p.next_edge)) in
    let a = and_parts (sort_of v == p.sort) (int_eq (key_of v) p.key && ((1 == p.edge) && nexts)) h in
    let b = and_parts (int_eq (key_of v) p.key) ((1 == p.edge) && nexts) a.1 in
    let d = and_parts (1 == p.edge) nexts b.1 in
    let e = and_parts (sort == p.next_sort) (int_eq key p.next_key && (edge == p.next_edge)) d.1 in
    let f = and_parts (int_eq key p.next_key) (edge == p.next_edge) e.1 in
    alike (sort_of v) p.sort 1 p.edge sort p.next_sort edge p.next_edge (key_of v) p.key key p.next_key (eqb-true (sort_of v) p.sort a.0) (eqb-true 1 p.edge d.0) (eqb-true sort p.next_sort e.0) (eqb-true edge p.next_edge f.1)
    (exact_signed (key_of v) p.key (equal _ b.0)) (exact_signed key p.next_key (equal _ f.0))
  where
    alike : (c d e f g h i j : ℕ) (x y z w : ℤ) → c ≡ d → e ≡ f → g ≡ h → i ≡ j → x ≡ y → z ≡ w
        → ◌≡◌ {A = Place} (record { dim = p.dim; sort = c; key = x; edge = e; next_sort = g; next_key = z; next_edge = i; unit = unit }) (record { dim = p.dim; sort = d; key = y; edge = f; next_sort = h; next_key = w; next_edge = j; unit = p.unit })
    alike c d e f g h i j x y z w cd ef gh ij xy zw = rw (cd, ef, gh, ij, xy, zw, of_unit) refl

pub stands : (unit : ℕ) (values : List DimValue) (p : Place) → is_place_of unit values p ≡ true → Stands unit values p
stands unit values p h = at (slice_get values p.dim) refl
  where
    of_unit : p.unit ≡ unit
    of_unit = eqb-true p.unit unit (and_parts (p.unit == unit) (is_at values p) h).0

    at : (o : Option DimValue) → slice_get values p.dim ≡ o → Stands unit values p
    at None none =
        let off : is_at values p ≡ false = ap (λ o. option_map_or (is_value_at p (next_of values p.dim)) o false) none in
        let on = (and_parts (p.unit == unit) (is_at values p) h).1 in
        absurd cc
    at (Some v) there = record {
      value = v;
      there = there;
      place = value_stands unit p (next_of values p.dim) v of_unit (sym (is_at_value values p v there) ∙ (and_parts (p.unit == unit) (is_at values p) h).1);
    }

pub stands_within : (unit : ℕ) (values : List DimValue) (p : Place) → is_place_of unit values p ≡ true → p.dim < length values
stands_within unit values p h = let s = stands unit values p h in slice_get_within values p.dim s.value s.there

-- the place of the value on a dimension is the one of these values that stands there
pub stands_as : (unit dim : ℕ) (values : List DimValue) (v : DimValue) (p : Place) → slice_get values dim ≡ Some v → is_place_of unit values p ≡ true → p.dim ≡ dim → place_in dim unit values v ≡ p
stands_as unit dim values v p there h here =
    let s = stands unit values p h in
    same_some v s.value (sym there ∙ (ap (slice_get values) (sym here) ∙ s.there)) ∙ s.place
  where
    value_of : DimValue → Option DimValue → DimValue
    value_of d None = d
    value_of d (Some w) = w

    same_some : (a b : DimValue) → Some a ≡ Some b → place_in dim unit values a ≡ place_in p.dim unit values b
    same_some a b e = ap (place_in dim unit values) (ap (value_of a) e) ∙ ap (λ d. place_in d unit values b) (sym here)

-- ---- the unit of a place

pub of_unit : (unit : ℕ) (values : List DimValue) (p : Place) → is_place_of unit values p ≡ true → p.unit ≡ unit
of_unit unit values p h = eqb-true p.unit unit (and_parts (p.unit == unit) (is_at values p) h).0

pub at_of : (unit : ℕ) (values : List DimValue) (p : Place) → is_place_of unit values p ≡ true → is_at values p ≡ true
at_of unit values p h = (and_parts (p.unit == unit) (is_at values p) h).1

pub place_from : (unit : ℕ) (values : List DimValue) (p : Place) → p.unit ≡ unit → is_at values p ≡ true → is_place_of unit values p ≡ true
place_from unit values p same at = and_from (p.unit == unit) (is_at values p) (eq-eqb p.unit unit same) at

abbrev no_values : List DimValue
no_values = []

nothing : (n : ℕ) → slice_get no_values n ≡ None
nothing zero = refl
nothing (suc n) = refl

pub none_at : (p : Place) → is_at [] p ≡ false
none_at p = ap (λ o. option_map_or (is_value_at p (next_of [] p.dim)) o false) (nothing p.dim)

-- ---- puts

-- those of the first dimensions are there
abbrev pub AreFirstIn : ℕ → ℕ → (values except : List DimValue) → BTreeSet Place → Type 0
AreFirstIn n unit values except places =
    (p : Place) → is_place_of unit values p ≡ true → is_at except p ≡ false → p.dim < n → has places p ≡ true

pub put_none : (unit : ℕ) (values : List DimValue) (places : BTreeSet Place) → ArePut unit values places places
put_none unit values places = record { keeps = λ p h. h; only = λ p h g. absurd cc }

module _ (unit : ℕ) (values : List DimValue) (n : ℕ) (v : DimValue) (there : slice_get values n ≡ Some v) (first old new : BTreeSet Place) where
  split : (p : Place) (G : Type 0) → is_place_of unit values p ≡ true → p.dim < n + 1 → (p.dim < n → G) → (place_in n unit values v ≡ p → G) → G
  split p G h lt before here = by_number p.dim n G
      (λ same. here (stands_as unit n values v p there h same))
      (λ apart. before (omega (arith, lt, apart)))

  module _ (more : (q : Place) → has new q ≡ cond (is_eq (place_cmp (place_in n unit values v) q)) true (has old q)) where
    pub put_more : ArePut unit values first old → ArePut unit values first new
    put_more was = record {
      keeps = λ p h. more p ∙ cond_or_true (is_eq (place_cmp (place_in n unit values v) p)) (has old p) (was.keeps p h);
      only = λ p h before. by_place (place_in n unit values v) p _
          (λ _ same. subst (λ q. is_place_of unit values q ≡ true) same (is_here unit n values v there))
          (λ other. was.only p (sym (more p ∙ ap (λ b. cond b true (has old p)) other) ∙ h) before);
    }

    pub in_more : (except : List DimValue) → AreFirstIn n unit values except old → AreFirstIn (n + 1) unit values except new
    in_more except was = λ p h off lt. split p _ h lt
        (λ before. more p ∙ cond_or_true (is_eq (place_cmp (place_in n unit values v) p)) (has old p) (was p h off before))
        (λ same. more p ∙ ap (λ b. cond b true (has old p)) (subst (λ q. is_eq (place_cmp (place_in n unit values v) q) ≡ true) same (place_itself (place_in n unit values v))))

-- other values stand there too
pub in_over : (unit : ℕ) (values except : List DimValue) (n : ℕ) (v : DimValue) → slice_get values n ≡ Some v → (places : BTreeSet Place) → is_at except (place_in n unit values v) ≡ true
    → AreFirstIn n unit values except places → AreFirstIn (n + 1) unit values except places
in_over unit values except n v there places stays was = λ p h off lt. split unit values n v there places places places p _ h lt
    (λ before. was p h off before)
    (λ same. let on : is_at except p ≡ true = subst (λ q. is_at except q ≡ true) same stays in absurd cc)

pub in_all : (n unit : ℕ) (values except : List DimValue) (places : BTreeSet Place) → length values ≤ n → AreFirstIn n unit values except places → AreIn unit values except places
in_all n unit values except places le all = λ p h off. let lt = stands_within unit values p h in all p h off (omega (arith, lt, le))

-- ---- takes

pub record IsTaking (n unit : ℕ) (values except : List DimValue) (old new : BTreeSet Place) : Type 0 where
  pub only : (p : Place) → has new p ≡ true → has old p ≡ true
  pub gone : (p : Place) → has new p ≡ true → is_place_of unit values p ≡ true → p.dim < n → is_at except p ≡ true
  pub keeps : (p : Place) → has old p ≡ true → (is_place_of unit values p ≡ true → is_at except p ≡ true) → has new p ≡ true

less_before : (b x : Bool) → cond b false x ≡ true → (b ≡ false) × (x ≡ true)
less_before true x h = absurd cc
less_before false x h = (refl, h)

module _ (unit : ℕ) (values except : List DimValue) (n : ℕ) (v : DimValue) (there : slice_get values n ≡ Some v) (first old new : BTreeSet Place) (was : IsTaking n unit values except first old) where
  -- other values stand there too
  pub taking_over : is_at except (place_in n unit values v) ≡ true → IsTaking (n + 1) unit values except first old
  taking_over stays = record {
    only = was.only;
    gone = λ p h g lt. split unit values n v there first old new p _ g lt (was.gone p h g) (λ same. subst (λ q. is_at except q ≡ true) same stays);
    keeps = was.keeps;
  }

  module _ (leaves : is_at except (place_in n unit values v) ≡ false) (less : (q : Place) → has new q ≡ cond (is_eq (place_cmp (place_in n unit values v) q)) false (has old q)) where
    pub taking_more : IsTaking (n + 1) unit values except first new
    taking_more = record {
      only = λ p h. was.only p (before p h).1;
      gone = λ p h g lt. split unit values n v there first old new p _ g lt (was.gone p (before p h).1 g) (λ same. out p h same);
      keeps = λ p h e. by_place (place_in n unit values v) p _
          (λ _ same. stays p e same)
          (λ other. less p ∙ (ap (λ b. cond b false (has old p)) other ∙ was.keeps p h e));
    }
      where
        before : (p : Place) → has new p ≡ true → (is_eq (place_cmp (place_in n unit values v) p) ≡ false) × (has old p ≡ true)
        before p h = less_before (is_eq (place_cmp (place_in n unit values v) p)) (has old p) (sym (less p) ∙ h)

        out : (p : Place) → has new p ≡ true → place_in n unit values v ≡ p → is_at except p ≡ true
        out p h same =
            let on : is_eq (place_cmp (place_in n unit values v) p) ≡ true = subst (λ q. is_eq (place_cmp (place_in n unit values v) q) ≡ true) same (place_itself (place_in n unit values v)) in
            let off = (before p h).0 in
            absurd cc

        stays : (p : Place) → (is_place_of unit values p ≡ true → is_at except p ≡ true) → place_in n unit values v ≡ p → has new p ≡ true
        stays p e same =
            let on : is_at except (place_in n unit values v) ≡ true = subst (λ q. is_at except q ≡ true) (sym same) (e (subst (λ q. is_place_of unit values q ≡ true) same (is_here unit n values v there))) in
            absurd cc

pub taking_all : (n unit : ℕ) (values except : List DimValue) (old new : BTreeSet Place) → length values ≤ n → IsTaking n unit values except old new → AreTaken unit values except old new
taking_all n unit values except old new le t = record {
  only = t.only;
  gone = λ p h g. let lt = stands_within unit values p g in t.gone p h g (omega (arith, lt, le));
  keeps = t.keeps;
}
