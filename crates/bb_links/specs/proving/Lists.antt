-- A list of numbers for each unit.
use Rattle.std.specs.Prelude.{ℕ, ◌==◌, List, [], ◌∷◌, ◌++◌, if◌then◌else◌}
use Rattle.std.specs.Global.{Vec}
use Rattle.std.specs.Option.{option_map_or}
use Rattle.std.specs.Ordering.{nat_cmp}
use Rattle.std.specs.BTreeMap.{BTreeMap, get}

-- the list of a unit
abbrev pub listed : BTreeMap ℕ (Vec ℕ) → ℕ → List ℕ
listed lists n = option_map_or (λ v. v.items) (get nat_cmp lists n) []

-- the list of n after another number is appended to a unit's list
abbrev pub one_more : BTreeMap ℕ (Vec ℕ) → ℕ → ℕ → ℕ → List ℕ
one_more lists unit number n = if n == unit then listed lists n ++ number ∷ [] else listed lists n

-- the list of n after all numbers of a unit are removed
abbrev pub none_left : BTreeMap ℕ (Vec ℕ) → ℕ → ℕ → List ℕ
none_left lists unit n = if n == unit then [] else listed lists n
