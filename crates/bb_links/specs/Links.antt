-- The links of a unit by a slot (GBBopen Reference Manual, link slots). The inverse slot reads the same list of pairs
-- from the other side.
use Rattle.std.specs.Prelude.{ℕ, ◌==◌, List, [], map, filter}
use Rattle.std.specs.Option.{option_map_or}
use Rattle.bb_schema.specs.declared.couple.Side.{Side}
use Rattle.bb_links.specs.Pairs.{near, far}
use Rattle.bb_links.specs.Couples.{Couples, end_of, pairs_of}

-- the partners of a unit at a side, in the order of the pairs
abbrev pub partners : Side → ℕ → List (ℕ × ℕ) → List ℕ
partners side n pairs = map (far side) (filter (λ p. near side p == n) pairs)

-- the pairs of a slot's couple, in order of addition, the unit at side A first; none if it is not a link slot
abbrev pub pairs_by : Couples → (slot : ℕ) → List (ℕ × ℕ)
pairs_by c slot = option_map_or (λ e. pairs_of c e.0) (end_of c slot) []

-- the links of a unit by a slot: its partners at the slot's side, in the pairs of the couple
abbrev pub ends : Couples → ℕ → ℕ → List ℕ
ends c n slot = option_map_or (λ e. partners e.1 n (pairs_of c e.0)) (end_of c slot) []
