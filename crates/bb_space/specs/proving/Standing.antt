-- The spaces that each unit is in.
use Rattle.std.specs.Prelude.{◌≡◌, ℕ, ◌==◌, not, List, [], filter, insert, if◌then◌else◌}
use Rattle.std.specs.Prelude.{nat_lt}
use Rattle.std.specs.List.{position_or_len}
use Rattle.std.specs.Global.{Vec}
use Rattle.std.specs.Option.{option_map_or}
use Rattle.std.specs.Ordering.{nat_cmp}
use Rattle.std.specs.BTreeMap.{BTreeMap, get}
use Rattle.bb_space.specs.Spaces.{Spaces, spaces_of}
use Rattle.bb_space.specs.declared.standing.Standing.{Standing}

-- the list of a unit
abbrev pub listed : BTreeMap ℕ (Vec ℕ) → ℕ → List ℕ
listed lists n = option_map_or (λ v. v.items) (get nat_cmp lists n) []

-- the index at which a number belongs in an ascending list
abbrev pub rank : ℕ → List ℕ → ℕ
rank x xs = position_or_len (λ y. nat_lt x y) xs

-- the list with a number inserted in order
abbrev pub with_number : ℕ → List ℕ → List ℕ
with_number x xs = insert xs (rank x xs) x

-- the list of n after another space is added to a unit's list
abbrev pub one_more : BTreeMap ℕ (Vec ℕ) → ℕ → ℕ → ℕ → List ℕ
one_more lists unit space n = if n == unit then with_number space (listed lists n) else listed lists n

-- the list of n after a space is removed from a unit's list
abbrev pub one_less : BTreeMap ℕ (Vec ℕ) → ℕ → ℕ → ℕ → List ℕ
one_less lists unit space n = if n == unit then filter (λ m. not (m == space)) (listed lists n) else listed lists n

-- the list of n after all spaces of a unit are removed
abbrev pub none_left : BTreeMap ℕ (Vec ℕ) → ℕ → ℕ → List ℕ
none_left lists unit n = if n == unit then [] else listed lists n

-- the list of every unit has exactly the spaces that it is in
abbrev pub AreStanding : Spaces → Standing → Type 0
AreStanding t s = (n : ℕ) → listed s.lists n ≡ spaces_of t n
