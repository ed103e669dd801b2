-- A list of dimensions whose values differ on the one of a name.
use Rattle.std.proofs.Common.{◌≡◌, ℕ, suc, ◌+◌, ◌≤◌, Bool, true, false, cond, List, [], ◌∷◌, map, length, Option, Some, None, refl, sym, ap, ◌∙◌, arith}
use Rattle.std.specs.Prelude.{slice_set, position}
use Rattle.std.specs.List.{AllByRecursion, IsDistinct, cons_option, filter_map, position_from}
use Rattle.std.specs.Str.{bytes_eq}
use Rattle.std.proofs.lemmas.Iterator.Adapters.{position_from-zero}
use Rattle.std.proofs.lemmas.Slice.Eq.{bytes_eq-Decides}
use Rattle.bb_schema.specs.declared.space.Dim.{Dim}
use Rattle.bb_pattern.specs.declared.value.DimValue.{DimValue}

-- there is a value on each
abbrev pub IsWhole : (Dim → Option DimValue) → List Dim → Type 0
IsWhole h ds = length (filter_map h ds) ≡ length ds

filter_map_shorter : (h : Dim → Option DimValue) (ds : List Dim) → length (filter_map h ds) ≤ length ds
filter_map_shorter h [] = omega arith
filter_map_shorter h (d ∷ ds) = by (h d) (filter_map_shorter h ds)
  where
    by : (o : Option DimValue) → length (filter_map h ds) ≤ length ds → length (cons_option o (filter_map h ds)) ≤ suc (length ds)
    by None lt = omega (arith, lt)
    by (Some v) lt = omega (arith, lt)

-- the value on the first one
record IsFirst (h : Dim → Option DimValue) (d : Dim) (ds : List Dim) : Type 0 where
  value : DimValue
  is : h d ≡ Some value
  rest : IsWhole h ds

first_of_whole : (h : Dim → Option DimValue) (d : Dim) (ds : List Dim) → IsWhole h (d ∷ ds) → IsFirst h d ds
first_of_whole h d ds whole = by (h d) refl whole
  where
    by : (o : Option DimValue) → h d ≡ o → length (cons_option o (filter_map h ds)) ≡ suc (length ds) → IsFirst h d ds
    by None is long = absurd (let lt = filter_map_shorter h ds in omega (arith, long, lt))
    by (Some v) is long = record { value = v; is = is; rest = omega (arith, long) }

module _ (name : List ℕ) (f g : Dim → Option DimValue) (new : Option DimValue)
    (other : (d : Dim) → bytes_eq d.name name ≡ false → g d ≡ f d) (own : (d : Dim) → bytes_eq d.name name ≡ true → g d ≡ new) where
  abbrev named : Dim → Bool
  named d = bytes_eq d.name name

  abbrev HasNone : List Dim → Type 0
  HasNone ds = AllByRecursion (λ d. named d ≡ false) ds

  none_by : (d : Dim) (ds : List Dim) (n : ℕ) (b : Bool) → named d ≡ b → (position_from named (n + 1) ds ≡ None → HasNone ds) → cond b (Some n) (position_from named (n + 1) ds) ≡ None → (named d ≡ false) × HasNone ds
  none_by d ds n true is rest none = absurd cc
  none_by d ds n false is rest none = (is, rest none)

  none_from : (ds : List Dim) (n : ℕ) → position_from named n ds ≡ None → HasNone ds
  none_from [] n none = tt
  none_from (d ∷ ds) n none = none_by d ds n (named d) refl (none_from ds (n + 1)) none

  same_without : (ds : List Dim) → HasNone ds → filter_map g ds ≡ filter_map f ds
  same_without [] none = refl
  same_without (d ∷ ds) none = ap (λ o. cons_option o (filter_map g ds)) (other d none.0) ∙ ap (cons_option (f d)) (same_without ds none.1)

  -- without a dimension of the name all have the same values
  pub same_values : (ds : List Dim) → position named ds ≡ None → filter_map g ds ≡ filter_map f ds
  same_values ds none = same_without ds (none_from ds 0 (sym (position_from-zero named ds) ∙ none))

  not_twice : (d e : Dim) (b : Bool) → named d ≡ true → named e ≡ b → bytes_eq d.name e.name ≡ false → b ≡ false
  not_twice d e true is again apart =
      let same : d.name ≡ e.name = (bytes_eq-Decides d.name name).0 is ∙ sym ((bytes_eq-Decides e.name name).0 again) in
      absurd (let t : true ≡ false = sym ((bytes_eq-Decides d.name e.name).1 same) ∙ apart in cc)
  not_twice d e false is again apart = refl

  none_later : (d : Dim) (ds : List Dim) → named d ≡ true → AllByRecursion (λ y. bytes_eq d.name y ≡ false) (map (λ e. e.name) ds) → HasNone ds
  none_later d [] is apart = tt
  none_later d (e ∷ es) is apart = (not_twice d e (named e) is refl apart.0, none_later d es is apart.1)

  -- what they have where one of them has the name
  pub record IsAnew (n i : ℕ) (ds : List Dim) : Type 0 where
    pub place : ℕ
    pub at : i ≡ n + place
    pub value : DimValue
    pub is : new ≡ Some value
    pub same : filter_map g ds ≡ slice_set (filter_map f ds) place value

  anew_by : (d : Dim) (ds : List Dim) (n i : ℕ) (b : Bool) → named d ≡ b → AllByRecursion (λ y. bytes_eq d.name y ≡ false) (map (λ e. e.name) ds) → IsFirst f d ds → IsFirst g d ds
      → (position_from named (n + 1) ds ≡ Some i → IsAnew (n + 1) i ds) → cond b (Some n) (position_from named (n + 1) ds) ≡ Some i → IsAnew n i (d ∷ ds)
  anew_by d ds n i true is apart was now rest at = record {
    place = 0;
    at = let same : n ≡ i = cc in omega (arith, same);
    value = now.value;
    is = sym (own d is) ∙ now.is;
    same = ap (λ o. cons_option o (filter_map g ds)) now.is ∙ (ap (λ vs. now.value ∷ vs) (same_without ds (none_later d ds is apart))
        ∙ sym (ap (λ o. slice_set (cons_option o (filter_map f ds)) 0 now.value) was.is));
  }
  anew_by d ds n i false is apart was now rest at =
      let later = rest at in
      record {
        place = suc later.place;
        at = let e = later.at in omega (arith, e);
        value = later.value;
        is = later.is;
        same = ap (λ o. cons_option o (filter_map g ds)) (other d is ∙ was.is) ∙ (ap (λ vs. was.value ∷ vs) later.same
            ∙ sym (ap (λ o. slice_set (cons_option o (filter_map f ds)) (suc later.place) later.value) was.is));
      }

  anew_from : (ds : List Dim) (n i : ℕ) → IsDistinct bytes_eq (map (λ d. d.name) ds) → IsWhole f ds → IsWhole g ds → position_from named n ds ≡ Some i → IsAnew n i ds
  unfolding IsDistinct
  anew_from [] n i distinct was now at = absurd cc
  anew_from (d ∷ ds) n i distinct was now at =
      let before = first_of_whole f d ds was in
      let after = first_of_whole g d ds now in
      anew_by d ds n i (named d) refl distinct.0 before after (anew_from ds (n + 1) i distinct.1 before.rest after.rest) at

  -- with one, they have the new value there
  pub anew : (ds : List Dim) (i : ℕ) → IsDistinct bytes_eq (map (λ d. d.name) ds) → IsWhole f ds → IsWhole g ds → position named ds ≡ Some i → IsAnew 0 i ds
  anew ds i distinct was now at = anew_from ds 0 i distinct was now (sym (position_from-zero named ds) ∙ at)
