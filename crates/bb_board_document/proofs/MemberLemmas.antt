-- The members of spaces under their new numbers, and what spaces have after a unit enters one.
use Rattle.std.proofs.Common.{◌≡◌, ℕ, zero, suc, ◌+◌, ◌<◌, ◌≤◌, Bool, true, false, ◌||◌, ◌&&◌, ◌==◌, List, [], ◌∷◌, map, length, Option, Some, None, refl, sym, ap, ◌∙◌, arith, eq-eqb, ne_eqb}
use Rattle.std.specs.Prelude.{slice_get, slice_set, option_and_then, is_some}
use Rattle.std.specs.List.{AllByRecursion, list_any, filter_map, range_with_len}
use Rattle.std.specs.Option.{option_map_or}
use Rattle.std.specs.Ordering.{nat_cmp, eq_by_cmp}
use Rattle.std.specs.Cmp.{nat_cmp_total, unsigned_tied}
use Rattle.std.specs.FinMap as fin
use Rattle.std.proofs.lemmas.Bool.{eqb-false}
use Rattle.bb_basis.proofs.BoolLemmas.{or_true, and_false}
use Rattle.bb_basis.proofs.ListLemmas.{slice_get-set}
use Rattle.bb_schema_classes.specs.declared.value.Value.{Value}
use Rattle.bb_schema.specs.Schema.{Schema, dims_of, slot_named}
use Rattle.bb_units.specs.Units.{Units, class_of, value_of, is_live}
use Rattle.bb_pattern.specs.declared.value.DimValue.{DimValue}
use Rattle.bb_pattern.specs.Values.{dim_value_of}
use Rattle.bb_space.specs.Spaces.{Membership, Spaces, membership, is_member, values_in, spaces_of, after_enter as with_member}
use Rattle.bb_space.proofs.Laws.{any_filter}
use Rattle.bb_query.specs.PresentValues.{value_on, values_on, present_values}
use Rattle.bb_board.specs.State.{World}
use Rattle.bb_board_document.specs.Renumbered.{renamed, with_new_keys}
use Rattle.bb_board_document.proofs.PlaceLemmas.{each_live, Lives, lives, same_number}

abbrev pub Values : Type 0
Values = List DimValue

-- ---- a space that changes in a list of spaces

get_set_other : {X : Type 0} (xs : List X) (i j : ℕ) (x : X) → (i ≡ j → ⊥) → slice_get (slice_set xs i x) j ≡ slice_get xs j
get_set_other [] i j x other = refl
get_set_other (y ∷ ys) zero zero x other = absurd (other refl)
get_set_other (y ∷ ys) zero (suc j) x other = refl
get_set_other (y ∷ ys) (suc i) zero x other = refl
get_set_other (y ∷ ys) (suc i) (suc j) x other = get_set_other ys i j x (λ same. other (ap suc same))

length_set : {X : Type 0} (xs : List X) (i : ℕ) (x : X) → length (slice_set xs i x) ≡ length xs
length_set [] i x = refl
length_set (y ∷ ys) zero x = refl
length_set (y ∷ ys) (suc i) x = ap suc (length_set ys i x)

-- a unit that was no member of a space is one, with these values
module _ (t : Spaces) (space k : ℕ) (vs : Values) (m : Membership) (at : slice_get t.spaces space ≡ Some m) (within : space < length t.spaces) (new : is_member t space k ≡ false) where
  abbrev then_there : Spaces
  then_there = record { spaces = slice_set t.spaces space (fin.insert m k vs) }

  new_there : fin.contains_key m k ≡ false
  new_there = ap (λ o. fin.contains_key (option_map_or (λ (x : Membership). x) o fin.empty) k) (sym at) ∙ new

  pub entered_is : with_member t space k vs ≡ then_there
  entered_is = rw (at, new_there) refl

  at_space : membership then_there space ≡ fin.insert m k vs
  at_space = ap (λ o. option_map_or (λ (x : Membership). x) o fin.empty) (slice_get-set t.spaces space (fin.insert m k vs) within)

  at_other : (j : ℕ) → (space ≡ j → ⊥) → membership then_there j ≡ membership t j
  at_other j other = ap (λ o. option_map_or (λ (x : Membership). x) o fin.empty) (get_set_other t.spaces space j (fin.insert m k vs) other)

  was_space : membership t space ≡ m
  was_space = ap (λ o. option_map_or (λ (x : Membership). x) o fin.empty) at

  pub here_space : values_in (with_member t space k vs) space k ≡ Some vs
  here_space =
      ap (λ (x : Spaces). values_in x space k) entered_is
      ∙ (ap (λ (x : Membership). fin.get x k) at_space ∙ (fin.get-insert nat_cmp_total m k vs k ∙ rw (unsigned_tied k k, eq-eqb k k refl) refl))

  pub here_other : (j q : ℕ) → (space ≡ j → ⊥) → values_in (with_member t space k vs) j q ≡ values_in t j q
  here_other j q other = ap (λ (x : Spaces). values_in x j q) entered_is ∙ ap (λ (x : Membership). fin.get x q) (at_other j other)

  pub other_unit : (q : ℕ) → (q ≡ k → ⊥) → values_in (with_member t space k vs) space q ≡ values_in t space q
  other_unit q other =
      ap (λ (x : Spaces). values_in x space q) entered_is
      ∙ (ap (λ (x : Membership). fin.get x q) at_space
      ∙ (fin.get-insert nat_cmp_total m k vs q
      ∙ (rw (unsigned_tied q k, ne_eqb q k other) refl ∙ ap (λ (x : Membership). fin.get x q) (sym was_space))))

  pub count_kept : length (with_member t space k vs).spaces ≡ length t.spaces
  count_kept = ap (λ (x : Spaces). length x.spaces) entered_is ∙ length_set t.spaces space (fin.insert m k vs)

-- ---- the spaces of a unit

abbrev pub among : ℕ → List ℕ → Bool
among j ns = list_any (eq_by_cmp nat_cmp j) ns

in_range : (n i j : ℕ) → i ≤ j → j < i + n → among j (range_with_len i n) ≡ true
in_range zero i j le lt = absurd (omega (arith, le, lt))
in_range (suc n) i j le lt = by (j == i) refl (in_range n (i + 1) j)
  where
    by : (b : Bool) → (j == i) ≡ b → (i + 1 ≤ j → j < (i + 1) + n → among j (range_with_len (i + 1) n) ≡ true) → (eq_by_cmp nat_cmp j i || among j (range_with_len (i + 1) n)) ≡ true
    by true h rest = rw (unsigned_tied j i, h) refl
    by false h rest = let apart = eqb-false j i h in rw (rest (omega (arith, le, apart)) (omega (arith, lt))) (or_true (eq_by_cmp nat_cmp j i))

member_by : (ms : List Membership) (j n : ℕ) → fin.contains_key (option_map_or (λ (x : Membership). x) (slice_get ms j) fin.empty) n ≡ true → j < length ms
member_by [] j n is = absurd (let e : true ≡ false = sym is ∙ ap is_some (fin.get-empty nat_cmp n) in cc)
member_by (m ∷ ms) zero n is = omega arith
member_by (m ∷ ms) (suc j) n is = let lt = member_by ms j n is in omega (arith, lt)

-- a space that has a member is there
pub member_within : (t : Spaces) (j n : ℕ) → is_member t j n ≡ true → j < length t.spaces
member_within t j n is = member_by t.spaces j n is

-- a unit is in its spaces alone
pub among_spaces : (t : Spaces) (n j : ℕ) → among j (spaces_of t n) ≡ is_member t j n
among_spaces t n j =
    any_filter (λ space. is_member t space n) j (range_with_len 0 (length t.spaces)) ∙ by (is_member t j n) refl
  where
    by : (b : Bool) → is_member t j n ≡ b → (among j (range_with_len 0 (length t.spaces)) && b) ≡ b
    by false h = and_false (among j (range_with_len 0 (length t.spaces)))
    by true h = rw (in_range (length t.spaces) 0 j (omega arith) (let lt = member_within t j n h in omega (arith, lt))) refl

-- ---- the present values of a unit, by what it is

same_kept : {X Y : Type 0} (f g : X → Option Y) → ((x : X) → f x ≡ g x) → (xs : List X) → filter_map f xs ≡ filter_map g xs
same_kept {X} {Y} f g same xs = ap (λ (h : X → Option Y). filter_map h xs) (λ i x. same x i)

pub same_present : (s : Schema) (u v : Units) (n k space : ℕ) → class_of u n ≡ class_of v k → ((slot : ℕ) → value_of u n slot ≡ value_of v k slot) → present_values s u n space ≡ present_values s v k space
same_present s u v n k space class value =
    ap (λ o. option_map_or (λ c. values_on s u n c (dims_of s space)) o []) class
    ∙ by (class_of v k)
  where
    on : (c : ℕ) → values_on s u n c (dims_of s space) ≡ values_on s v k c (dims_of s space)
    on c = same_kept (value_on s u n c) (value_on s v k c) (λ d. ap (λ (f : ℕ → Option Value). option_and_then (λ slot. option_and_then dim_value_of (f slot)) (slot_named s c d.name)) (λ i slot. value slot i)) (dims_of s space)

    by : (o : Option ℕ) → option_map_or (λ c. values_on s u n c (dims_of s space)) o [] ≡ option_map_or (λ c. values_on s v k c (dims_of s space)) o []
    by None = refl
    by (Some c) = on c

-- ---- a membership under the new numbers

module _ (w : World) where
  abbrev Members : Type 0
  Members = List (ℕ × Values)

  abbrev AreLive : Members → Type 0
  AreLive es = AllByRecursion (λ (e : ℕ × Values). is_live w.units e.0 ≡ true) es

  abbrev news : Members → Members
  news es = map (λ e. (renamed w e.0, e.1)) es

  find_new : (n : ℕ) → Lives w n → (es : Members) → AreLive es → fin.find nat_cmp (renamed w n) (news es) ≡ fin.find nat_cmp n es
  find_new n l [] all = refl
  find_new n l (e ∷ es) all =
      let same : eq_by_cmp nat_cmp (renamed w n) (renamed w e.0) ≡ eq_by_cmp nat_cmp n e.0 = unsigned_tied (renamed w n) (renamed w e.0) ∙ (same_number w n e.0 l (lives w e.0 all.0) ∙ sym (unsigned_tied n e.0)) in
      rw (same, find_new n l es all.1) refl

  find_none : (q : ℕ) → ((n : ℕ) → Lives w n → q ≡ renamed w n → ⊥) → (es : Members) → AreLive es → fin.find nat_cmp q (news es) ≡ None
  find_none q other [] all = refl
  find_none q other (e ∷ es) all = rw (unsigned_tied q (renamed w e.0), ne_eqb q (renamed w e.0) (other e.0 (lives w e.0 all.0))) (find_none q other es all.1)

  module _ (m : Membership) (live : (n : ℕ) (vs : Values) → fin.get m n ≡ Some vs → is_live w.units n ≡ true) where
    pub new_at : (n : ℕ) → Lives w n → fin.get (with_new_keys w m) (renamed w n) ≡ fin.get m n
    new_at n l =
        fin.get-from_entries nat_cmp_total (news (fin.entries m)) (renamed w n)
        ∙ (find_new n l (fin.entries m) (each_live w m live [] (fin.entries m) refl) ∙ sym (fin.get-entries m n))

    pub new_none : (q : ℕ) → ((n : ℕ) → Lives w n → q ≡ renamed w n → ⊥) → fin.get (with_new_keys w m) q ≡ None
    new_none q other =
        fin.get-from_entries nat_cmp_total (news (fin.entries m)) q ∙ find_none q other (fin.entries m) (each_live w m live [] (fin.entries m) refl)
