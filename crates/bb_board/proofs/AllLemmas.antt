-- What holds of each item of a list, in booleans.
use Rattle.std.proofs.Common.{◌≡◌, ℕ, zero, suc, Bool, true, false, cond, List, [], ◌∷◌, ◌++◌, map, filter, Some, refl, sym, ap, ◌∙◌}
use Rattle.std.specs.Prelude.{◌&&◌, find, slice_get, slice_set}
use Rattle.std.specs.List.{list_all, flat_map}
use Rattle.std.specs.Option.{option_map_or}
use Rattle.std.proofs.lemmas.Bool.{and_parts, and_from}
use Rattle.std.proofs.lemmas.List.Folds.{list_all-append}

pub all_append : {X : Type 0} (p : X → Bool) (xs ys : List X) → list_all p xs ≡ true → list_all p ys ≡ true → list_all p (xs ++ ys) ≡ true
all_append p xs ys one two = list_all-append p xs ys ∙ and_from (list_all p xs) (list_all p ys) one two

module _ {X : Type 0} (p q : X → Bool) where
  -- another test, which each item passes too
  pub all_weaker : ((x : X) → p x ≡ true → q x ≡ true) → (xs : List X) → list_all p xs ≡ true → list_all q xs ≡ true
  all_weaker from [] all = refl
  all_weaker from (x ∷ xs) all = let both = and_parts (p x) (list_all p xs) all in and_from (q x) (list_all q xs) (from x both.0) (all_weaker from xs both.1)

  pub all_both : (xs : List X) → list_all p xs ≡ true → list_all q xs ≡ true → list_all (λ x. p x && q x) xs ≡ true
  all_both [] one two = refl
  all_both (x ∷ xs) one two =
      let ps = and_parts (p x) (list_all p xs) one in
      let qs = and_parts (q x) (list_all q xs) two in
      and_from (p x && q x) (list_all (λ y. p y && q y) xs) (and_from (p x) (q x) ps.0 qs.0) (all_both xs ps.1 qs.1)

module _ {X : Type 0} (p q kept : X → Bool) where
  -- items that are kept and pass one test pass another
  filtered_by : (from : (x : X) → kept x ≡ true → p x ≡ true → q x ≡ true) (b : Bool) (x : X) (xs : List X) → kept x ≡ b → p x ≡ true → list_all q xs ≡ true → list_all q (cond b (x ∷ xs) xs) ≡ true
  filtered_by from true x xs is one rest = and_from (q x) (list_all q xs) (from x is one) rest
  filtered_by from false x xs is one rest = rest

  pub all_filter : ((x : X) → kept x ≡ true → p x ≡ true → q x ≡ true) → (xs : List X) → list_all p xs ≡ true → list_all q (filter kept xs) ≡ true
  all_filter from [] all = refl
  all_filter from (x ∷ xs) all = let both = and_parts (p x) (list_all p xs) all in filtered_by from (kept x) x (filter kept xs) refl both.0 (all_filter from xs both.1)

module _ {X : Type 0} (p test : X → Bool) where
  found_by : (b : Bool) (x y : X) (xs : List X) → cond b (Some x) (find test xs) ≡ Some y → p x ≡ true → (find test xs ≡ Some y → p y ≡ true) → p y ≡ true
  found_by true x y xs is one rest = let same : x ≡ y = cc in ap p (sym same) ∙ one
  found_by false x y xs is one rest = rest is

  -- the one that is found
  pub all_found : (xs : List X) (y : X) → find test xs ≡ Some y → list_all p xs ≡ true → p y ≡ true
  all_found [] y is all = absurd cc
  all_found (x ∷ xs) y is all = let both = and_parts (p x) (list_all p xs) all in found_by (test x) x y xs is both.0 (λ found. all_found xs y found both.1)

-- lists that items give
pub all_flat_map : {X Y : Type 0} (p : X → Bool) (q : Y → Bool) (f : X → List Y) → ((x : X) → p x ≡ true → list_all q (f x) ≡ true) → (xs : List X) → list_all p xs ≡ true → list_all q (flat_map f xs) ≡ true
all_flat_map p q f from [] all = refl
all_flat_map p q f from (x ∷ xs) all = let both = and_parts (p x) (list_all p xs) all in all_append q (f x) (flat_map f xs) (from x both.0) (all_flat_map p q f from xs both.1)

-- one item of a list is another
pub set_passes : {X : Type 0} (test : X → Bool) (xs : List X) (j i : ℕ) (y : X) → (i ≡ j → test y ≡ true) → option_map_or test (slice_get xs i) true ≡ true → option_map_or test (slice_get (slice_set xs j y) i) true ≡ true
set_passes test [] j i y at all = all
set_passes test (x ∷ xs) zero zero y at all = at refl
set_passes test (x ∷ xs) zero (suc i) y at all = all
set_passes test (x ∷ xs) (suc j) zero y at all = all
set_passes test (x ∷ xs) (suc j) (suc i) y at all = set_passes test xs j i y (λ e. at (ap suc e)) all

pub map_set : {X Y : Type 0} (f : X → Y) (xs : List X) (i : ℕ) (x y : X) → slice_get xs i ≡ Some x → f y ≡ f x → map f (slice_set xs i y) ≡ map f xs
map_set f [] i x y is same = refl
map_set f (z ∷ zs) zero x y is same = let e : z ≡ x = cc in ap (λ v. v ∷ map f zs) (same ∙ ap f (sym e))
map_set f (z ∷ zs) (suc i) x y is same = ap (λ vs. f z ∷ vs) (map_set f zs i x y is same)
