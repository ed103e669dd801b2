-- Where the number of a pending activation is in an ordered set.
use Rattle.std.specs.Prelude.{ℕ}

-- a unit and a source, and a number under them
abbrev pub Place : Type 0
Place = (ℕ × ℕ) × ℕ

-- the number of a place
abbrev pub number_at : Place → ℕ
number_at p = p.1
