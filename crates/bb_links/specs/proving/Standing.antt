-- The couples in which a unit may have a pair, including all in which it has one.
use Rattle.std.specs.Prelude.{◌≡◌, ℕ, Bool, true, ◌==◌, ◌||◌, List, Option, Some, slice_get, if◌then◌else◌}
use Rattle.std.specs.List.{list_any}
use Rattle.bb_schema.specs.declared.couple.Side.{Side}
use Rattle.bb_links.specs.declared.lists.Lists.{Lists}
use Rattle.bb_links.specs.Couples.{Couple, forgotten}
use Rattle.bb_links.specs.Fits.{Fits}
use Rattle.bb_links.specs.proving.Lists.{listed}

-- whether one of the pairs contains the unit
abbrev pub stands_in : ℕ → List (ℕ × ℕ) → Bool
stands_in n pairs = list_any (λ p. p.0 == n || p.1 == n) pairs

-- whether a number is in a list
abbrev pub is_in : List ℕ → ℕ → Bool
is_in list i = list_any (λ j. j == i) list

-- the list has every couple in which the unit has a pair
abbrev pub HasEach : ℕ → List Couple → List ℕ → Type 0
HasEach n couples list =
    (i : ℕ) (k : Couple) → slice_get couples i ≡ Some k → stands_in n k.pairs ≡ true → is_in list i ≡ true

-- the list of every unit has every couple in which the unit has a pair
abbrev pub AreListed : List Couple → Lists → Type 0
AreListed couples lists = (n : ℕ) → HasEach n couples (listed lists.lists n)

-- the invariant of the couples, their ends and the lists that the code keeps
pub record AreKnown (couples : List Couple) (ends : List (Option (ℕ × Side))) (standing : Lists) : Type 0 where
  pub fits : Fits (record { couples = couples; ends = ends })
  pub each : AreListed couples standing

-- a couple without the pairs of a unit, if its number is in a list
abbrev pub forgotten_if : ℕ → List ℕ → ℕ → Couple → Couple
forgotten_if n list i k = if is_in list i then forgotten n k else k
