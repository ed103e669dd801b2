-- The members that the code's entries represent.
use Rattle.std.specs.Prelude.{ℕ, List}
use Rattle.std.specs.FinMap as fin
use Rattle.bb_pattern.specs.declared.value.DimValue.{DimValue}
use Rattle.bb_space.specs.Spaces.{Membership}

-- the members of some entries
abbrev pub members_of_entries : List (ℕ × List DimValue) → Membership
members_of_entries entries = fin.from_entries entries
