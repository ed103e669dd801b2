-- The units that pass several tests.
use Rattle.std.specs.Prelude.{◌≡◌, ℕ, Bool, true, false, ◌==◌, List}
use Rattle.std.specs.List.{list_any}
use Rattle.std.specs.List.Sorted.{IsStrictlySortedBy}
use Rattle.std.specs.Ordering.{nat_cmp}
use Rattle.std.specs.Option.{option_map_or}
use Rattle.std.specs.FinMap as fin
use Rattle.bb_space.specs.declared.index.leaf.Leaf.{Leaf}
use Rattle.bb_space.specs.index.Leaf.{fits_leaf, fit_each}
use Rattle.bb_space.specs.Spaces.{Membership}

-- whether the unit is a member and its values pass all of some tests
abbrev pub passes : Membership → List Leaf → ℕ → Bool
passes m tests n = option_map_or (fit_each tests) (fin.get m n) false

-- whether the unit is a member and its values pass a test
abbrev pub passes_one : Membership → Leaf → ℕ → Bool
passes_one m leaf n = option_map_or (fits_leaf leaf) (fin.get m n) false

-- members, ascending, including all whose values pass all of some tests
pub record HaveAllPassing (m : Membership) (tests : List Leaf) (list : List ℕ) : Type 0 where
  pub rises : IsStrictlySortedBy nat_cmp list
  pub members : (n : ℕ) → list_any (λ k. k == n) list ≡ true → fin.contains_key m n ≡ true
  pub all : (n : ℕ) → passes m tests n ≡ true → list_any (λ k. k == n) list ≡ true
