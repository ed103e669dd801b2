-- What spaces know of units is kept by each change that tells what holds.
use Rattle.std.proofs.Common.{◌≡◌, ℕ, zero, suc, ◌⊎◌, inl, inr, Bool, true, false, cond, List, [], ◌∷◌, length, map, Option, Some, None, refl, sym, ap, subst, ◌∙◌}
use Rattle.std.specs.Prelude.{slice_get, slice_set, IfSome, IsTrue}
use Rattle.std.specs.Option.{option_map_or}
use Rattle.std.specs.Ordering.{nat_cmp, eq_by_cmp}
use Rattle.std.specs.Cmp.{nat_cmp_total, Equal-is}
use Rattle.std.specs.FinMap as fin
use Rattle.bb_schema.specs.Schema.{Schema}
use Rattle.bb_schema.specs.Spaces.{allowed}
use Rattle.bb_units.specs.Units.{Units, is_live, class_of}
use Rattle.bb_pattern.specs.declared.value.DimValue.{DimValue}
use Rattle.bb_space.specs.Spaces.{Spaces, Membership, no_spaces, membership, values_in, entered, changed, after_enter}
use Rattle.bb_query.specs.PresentValues.{present_values}
use Rattle.bb_query.specs.Knows.{Knows}

-- the members of the space of a number, in a list of spaces
abbrev at : List Membership → ℕ → Membership
at ms k = option_map_or (λ m. m) (slice_get ms k) fin.empty

at_set : (ms : List Membership) (i k : ℕ) (m : Membership) → ((k ≡ i) × (at (slice_set ms i m) k ≡ m)) ⊎ (at (slice_set ms i m) k ≡ at ms k)
at_set [] i k m = inr refl
at_set (n ∷ ms) zero zero m = inl (refl, refl)
at_set (n ∷ ms) zero (suc k) m = inr refl
at_set (n ∷ ms) (suc i) zero m = inr refl
at_set (n ∷ ms) (suc i) (suc k) m = elim (at_set ms i k m) [ inl p ↦ inl (ap suc p.0, p.1) | inr e ↦ inr e ]

length_set : (ms : List Membership) (i : ℕ) (m : Membership) → length (slice_set ms i m) ≡ length ms
length_set [] i m = refl
length_set (n ∷ ms) zero m = refl
length_set (n ∷ ms) (suc i) m = ap suc (length_set ms i m)

length_by : (t : Spaces) (i : ℕ) (change : Membership → Membership) (o : Option Membership) → length (option_map_or (λ m. record { spaces = slice_set t.spaces i (change m) }) o t).spaces ≡ length t.spaces
length_by t i change None = refl
length_by t i change (Some m) = length_set t.spaces i (change m)

-- a law of all that spaces were told
module _ (P : ℕ → ℕ → List DimValue → Type 0) where
  abbrev pub AllTold : Spaces → Type 0
  AllTold t = (space n : ℕ) (values : List DimValue) → values_in t space n ≡ Some values → P space n values

  kept_by : (t : Spaces) (i : ℕ) (change : Membership → Membership) (o : Option Membership) → slice_get t.spaces i ≡ o → AllTold t
      → ((n : ℕ) (values : List DimValue) → fin.get (change (membership t i)) n ≡ Some values → P i n values)
      → AllTold (option_map_or (λ m. record { spaces = slice_set t.spaces i (change m) }) o t)
  kept_by t i change None there law new = law
  kept_by t i change (Some m) there law new = λ k n values is.
      let same : m ≡ membership t i = sym (ap (λ o. option_map_or (λ x. x) o fin.empty) there) in
      elim (at_set t.spaces i k (change m)) [
        | inl p ↦ subst (λ j. P j n values) (sym p.0) (new n values (ap (λ x. fin.get (change x) n) (sym same) ∙ (ap (λ x. fin.get x n) (sym p.1) ∙ is)))
        | inr e ↦ law k n values (ap (λ x. fin.get x n) (sym e) ∙ is)
      ]

  -- a change of one space keeps the law where what it has then keeps it
  pub kept_by_change : (t : Spaces) (i : ℕ) (change : Membership → Membership) → AllTold t
      → ((n : ℕ) (values : List DimValue) → fin.get (change (membership t i)) n ≡ Some values → P i n values) → AllTold (changed change t i)
  kept_by_change t i change law new = kept_by t i change (slice_get t.spaces i) refl law new

  same_number : (n k : ℕ) → eq_by_cmp nat_cmp n k ≡ true → n ≡ k
  same_number n k e = fin.nat_cmp-IsAntisymmetric n k ((Equal-is (nat_cmp n k)).0 e)

  at_entered : (i n k : ℕ) (told values : List DimValue) (old : Option (List DimValue)) (b : Bool) → eq_by_cmp nat_cmp k n ≡ b → P i n told → (old ≡ Some values → P i k values) → cond b (Some told) old ≡ Some values → P i k values
  at_entered i n k told values old true same law later is =
      let values_same : told ≡ values = cc in
      subst (λ j. P i j values) (sym (same_number k n same)) (subst (λ vs. P i n vs) values_same law)
  at_entered i n k told values old false other law later is = later is

  entered_by : (t : Spaces) (i n : ℕ) (told : List DimValue) (b : Bool) → AllTold t → P i n told → (k : ℕ) (values : List DimValue) → fin.get (cond b (membership t i) (fin.insert (membership t i) n told)) k ≡ Some values → P i k values
  entered_by t i n told true law new k values is = law i k values is
  entered_by t i n told false law new k values is =
      at_entered i n k told values (fin.get (membership t i) k) (eq_by_cmp nat_cmp k n) refl new (law i k values) (sym (fin.get-insert nat_cmp_total (membership t i) n told k) ∙ is)

  pub kept_by_enter : (t : Spaces) (i n : ℕ) (told : List DimValue) → AllTold t → P i n told → AllTold (after_enter t i n told)
  kept_by_enter t i n told law new = kept_by_change t i (entered n told) law (entered_by t i n told (fin.contains_key (membership t i) n) law new)

  blank_at : {A : Type 0} (xs : List A) (k : ℕ) → at (map (λ _. fin.empty) xs) k ≡ fin.empty
  blank_at [] k = refl
  blank_at (x ∷ xs) zero = refl
  blank_at (x ∷ xs) (suc k) = blank_at xs k

  pub kept_by_none : (s : Schema) → AllTold (no_spaces s)
  kept_by_none s space n values is = absurd (let e : None ≡ Some values = sym (fin.get-empty nat_cmp n) ∙ (ap (λ m. fin.get m n) (sym (blank_at s.spaces space)) ∙ is) in cc)

-- what holds of a member
pub record IsTold (s : Schema) (u : Units) (space n : ℕ) (values : List DimValue) : Type 0 where
  pub live : is_live u n ≡ true
  pub admitted : IfSome (class_of u n) (λ class. IsTrue (allowed s space class))
  pub told : values ≡ present_values s u n space

module _ (s : Schema) (u : Units) where
  pub told_of_known : (t : Spaces) → Knows s u t → AllTold (IsTold s u) t
  told_of_known t knows space n values is = record { live = knows.live space n values is; admitted = knows.admitted space n values is; told = knows.told space n values is }

  pub known_of_told : (t : Spaces) → length t.spaces ≡ length s.spaces → AllTold (IsTold s u) t → Knows s u t
  known_of_told t same law = record {
    spaces = same;
    live = λ space n values is. (law space n values is).live;
    admitted = λ space n values is. (law space n values is).admitted;
    told = λ space n values is. (law space n values is).told;
  }

  pub known_after_enter : (t : Spaces) (space n : ℕ) (values : List DimValue) → Knows s u t → is_live u n ≡ true
      → IfSome (class_of u n) (λ class. IsTrue (allowed s space class)) → values ≡ present_values s u n space → Knows s u (after_enter t space n values)
  known_after_enter t space n values knows live admitted told =
      known_of_told (after_enter t space n values) (length_by t space (entered n values) (slice_get t.spaces space) ∙ knows.spaces)
      (kept_by_enter (IsTold s u) t space n values (told_of_known t knows) (record { live = live; admitted = admitted; told = told }))

  length_blank : {A B : Type 0} (b : B) (xs : List A) → length (map (λ _. b) xs) ≡ length xs
  length_blank b [] = refl
  length_blank b (x ∷ xs) = ap suc (length_blank b xs)

  pub known_of_none : Knows s u (no_spaces s)
  known_of_none = known_of_told (no_spaces s) (length_blank fin.empty s.spaces) (kept_by_none (IsTold s u) s)
