-- The partners of each unit at both sides, under the stamps of their pairs.
use Rattle.std.specs.Prelude.{◌≡◌, ◌==◌, ℕ, List, Option, Some, None, option_and_then, if◌then◌else◌}
use Rattle.std.specs.BTreeMap.{BTreeMap}
use Rattle.bb_schema.specs.declared.couple.Side.{Side}
use Rattle.bb_schema.specs.declared.couple.Side.TheVariants.{A, B}
use Rattle.bb_links.specs.declared.partners.Partners.{Partners}
use Rattle.bb_links.specs.Pairs.{near, far, same_pair}
use Rattle.bb_links.specs.proving.Maps.{value_at, row}

-- the opposite of a side
abbrev pub opposite : Side → Side
opposite A = B
opposite B = A

-- the map of a side
abbrev pub map_of : Side → Partners → BTreeMap (ℕ × ℕ) ℕ
map_of A p = p.at_a
map_of B p = p.at_b

-- the partner under a unit and a stamp
abbrev pub partner_at : Side → Partners → ℕ × ℕ → Option ℕ
partner_at side p key = value_at (map_of side p) key

-- the partners of a unit under stamps below one, in their order
abbrev pub listed_at : Side → Partners → ℕ → ℕ → List ℕ
listed_at side p n end = row (map_of side p) n end

-- another pair, under its stamp
abbrev pub IsPut : ℕ × ℕ → ℕ → Partners → Partners → Type 0
IsPut pair stamp old new = (side : Side) (key : ℕ × ℕ) →
    partner_at side new key ≡ (if same_pair (near side pair, stamp) key then Some (far side pair) else partner_at side old key)

-- a pair fewer
abbrev pub IsTaken : ℕ × ℕ → ℕ → Partners → Partners → Type 0
IsTaken pair stamp old new = (side : Side) (key : ℕ × ℕ) →
    partner_at side new key ≡ (if same_pair (near side pair, stamp) key then None else partner_at side old key)

abbrev pub IsUnchanged : Partners → Partners → Type 0
IsUnchanged old new = (side : Side) (key : ℕ × ℕ) → partner_at side new key ≡ partner_at side old key

-- the partner of a unit in a pair, if the unit is at the side
abbrev pub partner_in : Side → ℕ → ℕ × ℕ → Option ℕ
partner_in side n p = if near side p == n then Some (far side p) else None

-- at each side, each unit of a pair has its partner under the pair's stamp, and nothing else is stored
abbrev pub Follow : (ℕ → Option (ℕ × ℕ)) → Partners → Type 0
Follow under p = (side : Side) (key : ℕ × ℕ) → partner_at side p key ≡ option_and_then (partner_in side key.0) (under key.1)
