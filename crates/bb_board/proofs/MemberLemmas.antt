-- Which values members of spaces have after each change, and where they come from.
use Rattle.std.proofs.Common.{◌≡◌, ◌≢◌, ℕ, zero, suc, ◌+◌, ◌<◌, ◌≤◌, ◌⊎◌, inl, inr, Bool, true, false, cond, List, [], ◌∷◌, map, length, Option, Some, None, refl, sym, ap, subst, ◌∙◌, arith}
use Rattle.std.specs.Prelude.{eqb, ◌||◌, is_some, option_map, slice_get, slice_set}
use Rattle.std.specs.List.{filter, list_any, range_with_len}
use Rattle.std.specs.Option.{option_map_or}
use Rattle.std.specs.Ordering.{nat_cmp, eq_by_cmp}
use Rattle.std.specs.Cmp.{nat_cmp_total, eq_by_cmp_equiv}
use Rattle.std.specs.FinMap.{empty, get, insert, remove, contains_key, get-empty, get-insert, get-remove}
use Rattle.std.proofs.lemmas.List.{length-set}
use Rattle.std.proofs.lemmas.Option.{slice_get-map, slice_get_within}
use Rattle.std.proofs.lemmas.Bool.Decides.{eqb_tells}
use Rattle.std.proofs.lemmas.Bool.{or_right}
use Rattle.bb_basis.proofs.NumberLemmas.{eq_by_cmp_same}
use Rattle.bb_pattern.specs.declared.value.DimValue.{DimValue}
use Rattle.bb_space.specs.Spaces.{Membership, Spaces, membership, values_in, entered, left, moved, changed}
use Rattle.bb_space.specs.Spaces.{after_enter, after_leave, after_moved, after_moves, after_forget}

-- a list with one thing changed
set_same : {X : Type 0} (xs : List X) (i : ℕ) (y : X) → i < length xs → slice_get (slice_set xs i y) i ≡ Some y
set_same [] i y lt = absurd (omega (arith, lt))
set_same (x ∷ xs) zero y lt = refl
set_same (x ∷ xs) (suc i) y lt = set_same xs i y (omega (arith, lt))

set_apart : {X : Type 0} (xs : List X) (i q : ℕ) (y : X) → q ≢ i → slice_get (slice_set xs i y) q ≡ slice_get xs q
set_apart [] i q y apart = refl
set_apart (x ∷ xs) zero zero y apart = absurd (apart refl)
set_apart (x ∷ xs) zero (suc q) y apart = refl
set_apart (x ∷ xs) (suc i) zero y apart = refl
set_apart (x ∷ xs) (suc i) (suc q) y apart = set_apart xs i q y (λ e. apart (ap suc e))

abbrev held : Option Membership → Membership
held o = option_map_or (λ m. m) o empty

-- spaces of which one is changed
module _ (change : Membership → Membership) (t : Spaces) (x : ℕ) where
  abbrev after : Option Membership → Spaces
  after o = option_map_or (λ m. record { spaces = slice_set t.spaces x (change m) }) o t

  here_by : (o : Option Membership) → slice_get t.spaces x ≡ o → (membership (after o) x ≡ change (held o)) ⊎ (after o ≡ t)
  here_by None is = inr refl
  here_by (Some m) is = inl (ap held (set_same t.spaces x (change m) (slice_get_within t.spaces x m is)))

  there_by : (o : Option Membership) (q : ℕ) → q ≢ x → membership (after o) q ≡ membership t q
  there_by None q apart = refl
  there_by (Some m) q apart = ap held (set_apart t.spaces x q (change m) apart)

  length_by : (o : Option Membership) → length (after o).spaces ≡ length t.spaces
  length_by None = refl
  length_by (Some m) = length-set t.spaces x (change m)

  changed_here : (membership (changed change t x) x ≡ change (membership t x)) ⊎ (changed change t x ≡ t)
  changed_here = here_by (slice_get t.spaces x) refl

  changed_there : (q : ℕ) → q ≢ x → membership (changed change t x) q ≡ membership t q
  changed_there q apart = there_by (slice_get t.spaces x) q apart

  pub changed_length : length (changed change t x).spaces ≡ length t.spaces
  changed_length = length_by (slice_get t.spaces x)

  at_x : (k : ℕ) (v : List DimValue) → (membership (changed change t x) x ≡ change (membership t x)) ⊎ (changed change t x ≡ t) → values_in (changed change t x) x k ≡ Some v
      → (values_in t x k ≡ Some v) ⊎ ((x ≡ x) × (get (change (membership t x)) k ≡ Some v))
  at_x k v (inl e) is = inr (refl, sym (ap (λ m. get m k) e) ∙ is)
  at_x k v (inr e) is = inl (sym (ap (λ (z : Spaces). values_in z x k) e) ∙ is)

  -- a value after the change was there, or is one of the changed space
  from_changed_by : (q k : ℕ) (v : List DimValue) → ((eqb q x ≡ true) × (q ≡ x)) ⊎ ((eqb q x ≡ false) × (q ≢ x)) → values_in (changed change t x) q k ≡ Some v
      → (values_in t q k ≡ Some v) ⊎ ((q ≡ x) × (get (change (membership t x)) k ≡ Some v))
  from_changed_by q k v (inl p) =
      subst (λ y. values_in (changed change t x) y k ≡ Some v → (values_in t y k ≡ Some v) ⊎ ((y ≡ x) × (get (change (membership t x)) k ≡ Some v))) (sym p.1) (at_x k v changed_here)
  from_changed_by q k v (inr p) = λ is. inl (sym (ap (λ m. get m k) (changed_there q p.1)) ∙ is)

  from_changed : (q k : ℕ) (v : List DimValue) → values_in (changed change t x) q k ≡ Some v → (values_in t q k ≡ Some v) ⊎ ((q ≡ x) × (get (change (membership t x)) k ≡ Some v))
  from_changed q k v = from_changed_by q k v (eqb_tells q x)

-- a unit enters
module _ (n : ℕ) (values : List DimValue) where
  inserted_by : (m : Membership) (k : ℕ) (v : List DimValue) (b : Bool) → eq_by_cmp nat_cmp k n ≡ b → cond b (Some values) (get m k) ≡ Some v → (get m k ≡ Some v) ⊎ ((k ≡ n) × (values ≡ v))
  inserted_by m k v true same is = let e : values ≡ v = cc in inr (eq_by_cmp_same k n same, e)
  inserted_by m k v false other is = inl is

  entered_by : (m : Membership) (k : ℕ) (v : List DimValue) (b : Bool) → get (cond b m (insert m n values)) k ≡ Some v → (get m k ≡ Some v) ⊎ ((k ≡ n) × (values ≡ v))
  entered_by m k v true is = inl is
  entered_by m k v false is = inserted_by m k v (eq_by_cmp nat_cmp k n) refl (sym (get-insert nat_cmp_total m n values k) ∙ is)

  from_enter_by : (t : Spaces) (x q k : ℕ) (v : List DimValue) → (values_in t q k ≡ Some v) ⊎ ((q ≡ x) × (get (entered n values (membership t x)) k ≡ Some v))
      → (values_in t q k ≡ Some v) ⊎ ((q ≡ x) × (k ≡ n) × (values ≡ v))
  from_enter_by t x q k v (inl was) = inl was
  from_enter_by t x q k v (inr p) = new (entered_by (membership t x) k v (contains_key (membership t x) n) p.1)
    where
      new : (get (membership t x) k ≡ Some v) ⊎ ((k ≡ n) × (values ≡ v)) → (values_in t q k ≡ Some v) ⊎ ((q ≡ x) × (k ≡ n) × (values ≡ v))
      new (inl was) = inl (ap (λ y. values_in t y k) p.0 ∙ was)
      new (inr e) = inr (p.0, e.0, e.1)

  -- a member was one, or it is the one that entered
  pub from_enter : (t : Spaces) (x q k : ℕ) (v : List DimValue) → values_in (after_enter t x n values) q k ≡ Some v → (values_in t q k ≡ Some v) ⊎ ((q ≡ x) × (k ≡ n) × (values ≡ v))
  from_enter t x q k v is = from_enter_by t x q k v (from_changed (entered n values) t x q k v is)

-- a unit leaves
module _ (n : ℕ) where
  removed_by : (m : Membership) (k : ℕ) (v : List DimValue) (b : Bool) → eq_by_cmp nat_cmp k n ≡ b → cond b None (get m k) ≡ Some v → (get m k ≡ Some v) × (eq_by_cmp nat_cmp k n ≡ false)
  removed_by m k v true same is = absurd cc
  removed_by m k v false other is = (is, other)

  removed : (m : Membership) (k : ℕ) (v : List DimValue) → get (remove m n) k ≡ Some v → (get m k ≡ Some v) × (eq_by_cmp nat_cmp k n ≡ false)
  removed m k v is = removed_by m k v (eq_by_cmp nat_cmp k n) refl (sym (get-remove nat_cmp_total m n k) ∙ is)

  from_leave_by : (t : Spaces) (x q k : ℕ) (v : List DimValue) → (values_in t q k ≡ Some v) ⊎ ((q ≡ x) × (get (left n (membership t x)) k ≡ Some v)) → values_in t q k ≡ Some v
  from_leave_by t x q k v (inl was) = was
  from_leave_by t x q k v (inr p) = ap (λ y. values_in t y k) p.0 ∙ (removed (membership t x) k v p.1).0

  pub from_leave : (t : Spaces) (x q k : ℕ) (v : List DimValue) → values_in (after_leave t x n) q k ≡ Some v → values_in t q k ≡ Some v
  from_leave t x q k v is = from_leave_by t x q k v (from_changed (left n) t x q k v is)

  forgotten : (o : Option Membership) (k : ℕ) (v : List DimValue) → get (held (option_map (left n) o)) k ≡ Some v → (get (held o) k ≡ Some v) × (eq_by_cmp nat_cmp k n ≡ false)
  forgotten None k v is = absurd (let e : None ≡ Some v = sym (get-empty {X = List DimValue} nat_cmp k) ∙ is in cc)
  forgotten (Some m) k v is = removed m k v is

  -- who is left is another
  pub from_forget : (t : Spaces) (q k : ℕ) (v : List DimValue) → values_in (after_forget t n) q k ≡ Some v → (values_in t q k ≡ Some v) × (eq_by_cmp nat_cmp k n ≡ false)
  from_forget t q k v is = forgotten (slice_get t.spaces q) k v (sym (ap (λ o. get (held o) k) (slice_get-map (left n) t.spaces q)) ∙ is)

-- a unit is told again
module _ (n : ℕ) where
  moved_other_by : (values : List DimValue) (m : Membership) (k : ℕ) (b : Bool) → eq_by_cmp nat_cmp k n ≡ false → get (cond b (insert m n values) m) k ≡ get m k
  moved_other_by values m k true other = get-insert nat_cmp_total m n values k ∙ ap (λ b. cond b (Some values) (get m k)) other
  moved_other_by values m k false other = refl

  moved_other : (values : List DimValue) (m : Membership) (k : ℕ) → eq_by_cmp nat_cmp k n ≡ false → get (moved n values m) k ≡ get m k
  moved_other values m k other = moved_other_by values m k (contains_key m n) other

  moved_none : (values : List DimValue) (m : Membership) → get m n ≡ None → get (moved n values m) n ≡ None
  moved_none values m none = ap (λ b. get (cond b (insert m n values) m) n) (ap is_some none) ∙ none

  moved_some : (values v : List DimValue) (m : Membership) → get m n ≡ Some v → get (moved n values m) n ≡ Some values
  moved_some values v m there =
      ap (λ b. get (cond b (insert m n values) m) n) (ap is_some there)
      ∙ (get-insert nat_cmp_total m n values n ∙ ap (λ b. cond b (Some values) (get m n)) ((eq_by_cmp_equiv nat_cmp_total).refl n))

  one_other_by : (values : List DimValue) (t : Spaces) (x k : ℕ) → eq_by_cmp nat_cmp k n ≡ false → (membership (after_moved t x n values) x ≡ moved n values (membership t x)) ⊎ (after_moved t x n values ≡ t)
      → values_in (after_moved t x n values) x k ≡ values_in t x k
  one_other_by values t x k other (inl e) = ap (λ m. get m k) e ∙ moved_other values (membership t x) k other
  one_other_by values t x k other (inr e) = ap (λ (z : Spaces). values_in z x k) e

  one_none_by : (values : List DimValue) (t : Spaces) (x : ℕ) → values_in t x n ≡ None → (membership (after_moved t x n values) x ≡ moved n values (membership t x)) ⊎ (after_moved t x n values ≡ t)
      → values_in (after_moved t x n values) x n ≡ None
  one_none_by values t x none (inl e) = ap (λ m. get m n) e ∙ moved_none values (membership t x) none
  one_none_by values t x none (inr e) = ap (λ (z : Spaces). values_in z x n) e ∙ none

  -- another space stays as it is
  pub apart_same : (values : List DimValue) (t : Spaces) (x q k : ℕ) → q ≢ x → values_in (after_moved t x n values) q k ≡ values_in t q k
  apart_same values t x q k apart = ap (λ m. get m k) (changed_there (moved n values) t x q apart)

  one_other : (values : List DimValue) (t : Spaces) (x q k : ℕ) → eq_by_cmp nat_cmp k n ≡ false → ((eqb q x ≡ true) × (q ≡ x)) ⊎ ((eqb q x ≡ false) × (q ≢ x)) → values_in (after_moved t x n values) q k ≡ values_in t q k
  one_other values t x q k other (inl p) = subst (λ y. values_in (after_moved t x n values) y k ≡ values_in t y k) (sym p.1) (one_other_by values t x k other (changed_here (moved n values) t x))
  one_other values t x q k other (inr p) = apart_same values t x q k p.1

  one_none : (values : List DimValue) (t : Spaces) (x q : ℕ) → values_in t q n ≡ None → ((eqb q x ≡ true) × (q ≡ x)) ⊎ ((eqb q x ≡ false) × (q ≢ x)) → values_in (after_moved t x n values) q n ≡ None
  one_none values t x q none (inl p) = subst (λ y. values_in t y n ≡ None → values_in (after_moved t x n values) y n ≡ None) (sym p.1) (λ here. one_none_by values t x here (changed_here (moved n values) t x)) none
  one_none values t x q none (inr p) = apart_same values t x q n p.1 ∙ none

  one_told_by : (values v : List DimValue) (t : Spaces) (x : ℕ) (o : Option Membership) → slice_get t.spaces x ≡ o → get (held o) n ≡ Some v → values_in (after (moved n values) t x o) x n ≡ Some values
  one_told_by values v t x None is there = absurd (let e : None ≡ Some v = sym (get-empty {X = List DimValue} nat_cmp n) ∙ there in cc)
  one_told_by values v t x (Some m) is there = ap (λ o. get (held o) n) (set_same t.spaces x (moved n values m) (slice_get_within t.spaces x m is)) ∙ moved_some values v m there

  one_told : (values v : List DimValue) (t : Spaces) (x : ℕ) → values_in t x n ≡ Some v → values_in (after_moved t x n values) x n ≡ Some values
  one_told values v t x there = one_told_by values v t x (slice_get t.spaces x) refl there

  pub moves_length : (es : List (ℕ × List DimValue)) (t : Spaces) → length (after_moves t n es).spaces ≡ length t.spaces
  unfolding after_moves
  moves_length [] t = refl
  moves_length (e ∷ es) t = moves_length es (after_moved t e.0 n e.1) ∙ changed_length (moved n e.1) t e.0

  -- other units keep what they had
  pub moves_other : (es : List (ℕ × List DimValue)) (t : Spaces) (q k : ℕ) → eq_by_cmp nat_cmp k n ≡ false → values_in (after_moves t n es) q k ≡ values_in t q k
  unfolding after_moves
  moves_other [] t q k other = refl
  moves_other (e ∷ es) t q k other = moves_other es (after_moved t e.0 n e.1) q k other ∙ one_other e.1 t e.0 q k other (eqb_tells q e.0)

  -- who was no member is none
  pub moves_none : (es : List (ℕ × List DimValue)) (t : Spaces) (q : ℕ) → values_in t q n ≡ None → values_in (after_moves t n es) q n ≡ None
  unfolding after_moves
  moves_none [] t q none = none
  moves_none (e ∷ es) t q none = moves_none es (after_moved t e.0 n e.1) q (one_none e.1 t e.0 q none (eqb_tells q e.0))

  module _ (present : ℕ → List DimValue) where
    abbrev told : List ℕ → List (ℕ × List DimValue)
    told spaces = map (λ space. (space, present space)) spaces

    abbrev among : ℕ → List ℕ → Bool
    among q spaces = list_any (λ x. eqb x q) spaces

    among_later : (x q : ℕ) (xs : List ℕ) (v : List DimValue) → eqb x q ≡ false → (among q (x ∷ xs) ≡ true) ⊎ (v ≡ present q) → (among q xs ≡ true) ⊎ (v ≡ present q)
    among_later x q xs v other (inl in_list) = inl (rw other at in_list)
    among_later x q xs v other (inr is) = inr is

    -- what is to be shown of the spaces that are left
    abbrev AreTold : List ℕ → ℕ → Type 0
    AreTold spaces q = (t : Spaces) (v : List DimValue) → values_in t q n ≡ Some v → (among q spaces ≡ true) ⊎ (v ≡ present q)
        → values_in (after_moves t n (told spaces)) q n ≡ Some (present q)

    told_next : (x : ℕ) (xs : List ℕ) (t : Spaces) (q : ℕ) (v : List DimValue) → AreTold xs q → values_in t q n ≡ Some v → (among q (x ∷ xs) ≡ true) ⊎ (v ≡ present q)
        → ((eqb x q ≡ true) × (x ≡ q)) ⊎ ((eqb x q ≡ false) × (x ≢ q)) → values_in (after_moves (after_moved t x n (present x)) n (told xs)) q n ≡ Some (present q)
    told_next x xs t q v rest there in_list (inl p) =
        rest (after_moved t x n (present x)) (present q) (subst (λ y. values_in (after_moved t y n (present y)) q n ≡ Some (present q)) (sym p.1) (one_told (present q) v t q there)) (inr refl)
    told_next x xs t q v rest there in_list (inr p) =
        rest (after_moved t x n (present x)) v (apart_same (present x) t x q n (λ e. p.1 (sym e)) ∙ there) (among_later x q xs v p.0 in_list)

    -- a member of one of the spaces has what this one was told
    pub moves_told : (spaces : List ℕ) (q : ℕ) → AreTold spaces q
    unfolding after_moves
    moves_told [] q t v there (inl in_list) = absurd cc
    moves_told [] q t v there (inr is) = there ∙ ap Some is
    moves_told (x ∷ xs) q t v there in_list = told_next x xs t q v (moves_told xs q) there in_list (eqb_tells x q)

-- ---- the spaces of a unit

among_rest : (p : ℕ → Bool) (x q : ℕ) (xs : List ℕ) (b : Bool) → list_any (λ y. eqb y q) (filter p xs) ≡ true → list_any (λ y. eqb y q) (cond b (x ∷ filter p xs) (filter p xs)) ≡ true
among_rest p x q xs true rest = or_right (eqb x q) _ rest
among_rest p x q xs false rest = rest

among_next : (p : ℕ → Bool) (x q : ℕ) (xs : List ℕ) → (list_any (λ y. eqb y q) xs ≡ true → list_any (λ y. eqb y q) (filter p xs) ≡ true) → p q ≡ true → list_any (λ y. eqb y q) (x ∷ xs) ≡ true
    → ((eqb x q ≡ true) × (x ≡ q)) ⊎ ((eqb x q ≡ false) × (x ≢ q)) → list_any (λ y. eqb y q) (filter p (x ∷ xs)) ≡ true
among_next p x q xs rest passes in_list (inl e) =
    ap (λ b. list_any (λ y. eqb y q) (cond b (x ∷ filter p xs) (filter p xs))) (ap p e.1 ∙ passes) ∙ ap (λ b. b || list_any (λ y. eqb y q) (filter p xs)) e.0
among_next p x q xs rest passes in_list (inr e) = among_rest p x q xs (p x) (rest (rw e.0 at in_list))

pub among_filter : (p : ℕ → Bool) (q : ℕ) (xs : List ℕ) → p q ≡ true → list_any (λ y. eqb y q) xs ≡ true → list_any (λ y. eqb y q) (filter p xs) ≡ true
among_filter p q [] passes in_list = absurd cc
among_filter p q (x ∷ xs) passes in_list = among_next p x q xs (among_filter p q xs passes) passes in_list (eqb_tells x q)

range_next : (n a q : ℕ) → (a + 1 ≤ q → q < a + 1 + n → list_any (λ y. eqb y q) (range_with_len (a + 1) n) ≡ true) → a ≤ q → q < a + suc n → ((eqb a q ≡ true) × (a ≡ q)) ⊎ ((eqb a q ≡ false) × (a ≢ q))
    → list_any (λ y. eqb y q) (range_with_len a (suc n)) ≡ true
range_next n a q rest low high (inl e) = ap (λ b. b || list_any (λ y. eqb y q) (range_with_len (a + 1) n)) e.0
range_next n a q rest low high (inr e) =
    ap (λ b. b || list_any (λ y. eqb y q) (range_with_len (a + 1) n)) e.0 ∙ rest (let ne = e.1 in omega (arith, low, ne)) (omega (arith, high))

pub among_range : (n a q : ℕ) → a ≤ q → q < a + n → list_any (λ y. eqb y q) (range_with_len a n) ≡ true
among_range zero a q low high = absurd (omega (arith, low, high))
among_range (suc n) a q low high = range_next n a q (among_range n (a + 1) q) low high (eqb_tells a q)

-- a member of a space that is there
member_within_by : (t : Spaces) (q n : ℕ) (v : List DimValue) (o : Option Membership) → slice_get t.spaces q ≡ o → get (held o) n ≡ Some v → q < length t.spaces
member_within_by t q n v None is there = absurd (let e : None ≡ Some v = sym (get-empty {X = List DimValue} nat_cmp n) ∙ there in cc)
member_within_by t q n v (Some m) is there = slice_get_within t.spaces q m is

pub member_within : (t : Spaces) (q n : ℕ) (v : List DimValue) → values_in t q n ≡ Some v → q < length t.spaces
member_within t q n v there = member_within_by t q n v (slice_get t.spaces q) refl there
