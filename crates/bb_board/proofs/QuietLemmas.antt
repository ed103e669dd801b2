-- A space whose values of a unit stay as they are need not be told them.
use Rattle.std.proofs.Common.{◌≡◌, ℕ, Bool, true, false, cond, List, [], ◌∷◌, map, Option, Some, None, option_map, refl, sym, ap, ◌∙◌}
use Rattle.std.specs.Prelude.{slice_get, slice_set, is_some}
use Rattle.std.specs.List.{filter, filter_map, cons_option}
use Rattle.std.specs.Option.{option_map_or}
use Rattle.std.specs.Ordering.{nat_cmp, eq_by_cmp}
use Rattle.std.specs.Cmp.{nat_cmp_total}
use Rattle.std.specs.FinMap.{empty, get, insert, get-insert, same_map, nat_cmp-IsAntisymmetric}
use Rattle.bb_basis.proofs.ListLemmas.{slice_set-itself}
use Rattle.bb_basis.proofs.NumberLemmas.{eq_by_cmp_same}
use Rattle.bb_pattern.specs.declared.value.DimValue.{DimValue}
use Rattle.bb_space.specs.Spaces.{Membership, Spaces, values_in, moved, after_moved, after_moves}
use Rattle.bb_board.proofs.MemberLemmas.{apart_same}

abbrev held : Option Membership → Membership
held o = option_map_or (λ m. m) o empty

module _ (n : ℕ) (values : List DimValue) where
  inserted_by : (m : Membership) (k : ℕ) (b : Bool) → eq_by_cmp nat_cmp k n ≡ b → get m n ≡ Some values → cond b (Some values) (get m k) ≡ get m k
  inserted_by m k true same is = sym (ap (get m) (eq_by_cmp_same k n same) ∙ is)
  inserted_by m k false other is = refl

  insert_itself : (m : Membership) → get m n ≡ Some values → insert m n values ≡ m
  insert_itself m is = same_map nat_cmp_total nat_cmp-IsAntisymmetric _ _ (λ k. get-insert nat_cmp_total m n values k ∙ inserted_by m k (eq_by_cmp nat_cmp k n) refl is)

  moved_itself : (m : Membership) → get m n ≡ Some values → moved n values m ≡ m
  moved_itself m is = ap (λ b. cond b (insert m n values) m) (ap is_some is) ∙ insert_itself m is

  itself_by : (t : Spaces) (x : ℕ) (o : Option Membership) → slice_get t.spaces x ≡ o → get (held o) n ≡ Some values → option_map_or (λ m. record { spaces = slice_set t.spaces x (moved n values m) }) o t ≡ t
  itself_by t x None there is = refl
  itself_by t x (Some m) there is =
      ap (λ ms. let u : Spaces = record { spaces = ms } in u) (ap (slice_set t.spaces x) (moved_itself m is) ∙ slice_set-itself t.spaces x m there)

  -- a space that is told what it was told stays as it is
  moved_nothing : (t : Spaces) (x : ℕ) → values_in t x n ≡ Some values → after_moved t x n values ≡ t
  moved_nothing t x is = itself_by t x (slice_get t.spaces x) refl is

-- what some spaces are told, where the others that the unit is in have its present values
module _ (n : ℕ) (told : ℕ → Option (List DimValue)) (present : ℕ → List DimValue) (member : ℕ → Bool)
    (is_present : (q : ℕ) (values : List DimValue) → told q ≡ Some values → (member q ≡ true) × (values ≡ present q)) where
  abbrev pub IsQuiet : Spaces → Type 0
  IsQuiet t = (q : ℕ) → told q ≡ None → member q ≡ true → values_in t q n ≡ Some (present q)

  abbrev entry : ℕ → Option (ℕ × List DimValue)
  entry q = option_map (λ values. (q, values)) (told q)

  abbrev pair : ℕ → ℕ × List DimValue
  pair q = (q, present q)

  still_quiet : (t : Spaces) (x : ℕ) (values : List DimValue) → told x ≡ Some values → IsQuiet t → IsQuiet (after_moved t x n (present x))
  still_quiet t x values some quiet q none is =
      apart_same n (present x) t x q n (λ e. absurd (let f : None ≡ Some values = sym none ∙ (ap told e ∙ some) in cc)) ∙ quiet q none is

  same_by : (x : ℕ) (xs : List ℕ) (t : Spaces) (o : Option (List DimValue)) (b : Bool) → told x ≡ o → member x ≡ b → IsQuiet t
      → ((u : Spaces) → IsQuiet u → after_moves u n (filter_map entry xs) ≡ after_moves u n (map pair (filter member xs)))
      → after_moves t n (cons_option (option_map (λ values. (x, values)) o) (filter_map entry xs)) ≡ after_moves t n (map pair (cond b (x ∷ filter member xs) (filter member xs)))
  unfolding after_moves
  same_by x xs t (Some values) true is in_it quiet rest =
      ap (λ vs. after_moves (after_moved t x n vs) n (filter_map entry xs)) (is_present x values is).1 ∙ rest (after_moved t x n (present x)) (still_quiet t x values is quiet)
  same_by x xs t (Some values) false is out quiet rest = absurd (let f : true ≡ false = sym (is_present x values is).0 ∙ out in cc)
  same_by x xs t None true is in_it quiet rest =
      rest t quiet ∙ ap (λ u. after_moves u n (map pair (filter member xs))) (sym (moved_nothing n (present x) t x (quiet x is in_it)))
  same_by x xs t None false is out quiet rest = rest t quiet

  pub same_told : (xs : List ℕ) (t : Spaces) → IsQuiet t → after_moves t n (filter_map entry xs) ≡ after_moves t n (map pair (filter member xs))
  same_told [] t quiet = refl
  same_told (x ∷ xs) t quiet = same_by x xs t (told x) (member x) refl refl quiet (same_told xs)
