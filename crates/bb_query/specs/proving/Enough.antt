-- Lists of units that include the answer of a query.
use Rattle.std.specs.Prelude.{◌≡◌, ℕ, Bool, true, List, Some}
use Rattle.std.specs.List.{list_any}
use Rattle.std.specs.List.Sorted.{IsStrictlySortedBy}
use Rattle.std.specs.Ordering.{nat_cmp, eq_by_cmp}
use Rattle.bb_pattern.specs.declared.value.DimValue.{DimValue}
use Rattle.bb_space.specs.Spaces.{Spaces, values_in}

-- whether the number is in a list
abbrev pub among : ℕ → List ℕ → Bool
among n list = list_any (eq_by_cmp nat_cmp n) list

-- the list is ascending, and has all members of a space whose values pass a test
pub record AreEnough (t : Spaces) (space : ℕ) (test : List DimValue → Bool) (list : List ℕ) : Type 0 where
  pub rises : IsStrictlySortedBy nat_cmp list
  pub enough : (n : ℕ) (values : List DimValue) → values_in t space n ≡ Some values → test values ≡ true
      → among n list ≡ true
