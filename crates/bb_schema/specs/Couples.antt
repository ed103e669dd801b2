-- Couples: two link slots that are each other's inverse, an association. Side A is the slot with the lower number.
use Rattle.std.specs.Prelude.{ℕ, suc, Bool, false, nat_lt, List, [], ◌∷◌, length, take, Option, option_map, if◌then◌else◌}
use Rattle.std.specs.Option.{option_map_or}
use Rattle.bb_schema.specs.declared.slot.Slot.{Slot}
use Rattle.bb_schema_classes.specs.declared.kind.Link.{Link}
use Rattle.bb_schema.specs.declared.couple.Side.{Side}
use Rattle.bb_schema.specs.declared.couple.Side.TheVariants.{A, B}
use Rattle.bb_schema.specs.Schema.{Schema}
use Rattle.bb_schema.specs.Slots.{link_in, link_of}

-- whether slot n is a link slot with a lower number than its inverse
abbrev pub comes_first : ℕ → Slot → Bool
comes_first n t = option_map_or (λ l. nat_lt n l.inverse) (link_in t.content) false

-- the slots, numbered from n, that come before their inverses
unfoldable pub firsts : ℕ → List Slot → List ℕ
firsts n [] = []
firsts n (t ∷ ts) = if comes_first n t then n ∷ firsts (suc n) ts else firsts (suc n) ts

-- the couples in order, each represented by its first slot
abbrev pub couples : Schema → List ℕ
couples s = firsts 0 s.slots

-- the number of the couple whose first slot is n: the number of couples before it
abbrev pub couple_number : List Slot → ℕ → ℕ
couple_number slots n = length (firsts 0 (take n slots))

-- the couple of a link slot, and the slot's side
abbrev pub couple_end : List Slot → ℕ → Link → ℕ × Side
couple_end slots n l = if nat_lt n l.inverse then (couple_number slots n, A) else (couple_number slots l.inverse, B)

abbrev pub couple_of : Schema → ℕ → Option (ℕ × Side)
couple_of s n = option_map (couple_end s.slots n) (link_of s.slots n)

-- for each slot, numbered from n, the number of couples before it; k couples come before all these slots
unfoldable pub counts : ℕ → ℕ → List Slot → List ℕ
counts k n [] = []
counts k n (t ∷ ts) = k ∷ counts (if comes_first n t then suc k else k) (suc n) ts

-- a unit at a side and its partner at the other side, the unit at side A first
abbrev pub pair_of : Side → ℕ → ℕ → ℕ × ℕ
pair_of A n m = (n, m)
pair_of B n m = (m, n)
