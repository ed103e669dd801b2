-- The invariant of the spaces.
use Rattle.std.specs.Prelude.{ℕ}
use Rattle.std.specs.List.Sorted.{IsStrictlyIncreasing}
use Rattle.bb_space.specs.Spaces.{Spaces, members}

-- the members of every space are strictly ascending, so none occurs twice
abbrev pub Fits : Spaces → Type 0
Fits s = (space : ℕ) → IsStrictlyIncreasing (members s space)
