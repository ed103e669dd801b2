-- The couples of a schema, which of their sides are singular, and the couple of each link slot.
use Rattle.std.specs.Prelude.{ℕ, Bool, false, not, List, map, length, Option, option_and_then, slice_get}
use Rattle.std.specs.List.{range_with_len}
use Rattle.std.specs.Option.{option_map_or}
use Rattle.bb_schema.specs.declared.couple.Side.{Side}
use Rattle.bb_schema.specs.declared.slot.Slot.{Slot}
use Rattle.bb_schema.specs.Schema.{Schema, inverse_of}
use Rattle.bb_schema.specs.Slots.{link_of}
use Rattle.bb_schema.specs.Couples.{couples, couple_of}
use Rattle.bb_links.specs.declared.couple.Singular.{Singular}

-- whether a slot is a link slot that holds at most one unit
abbrev pub is_single : List Slot → ℕ → Bool
is_single slots n = option_map_or (λ l. not l.many) (link_of slots n) false

-- which sides of the couple whose first slot is n are singular
abbrev pub singular_of : List Slot → ℕ → Singular
singular_of slots n = record { a = is_single slots n; b = is_single slots (inverse_of slots n) }

-- which sides of each couple are singular
abbrev pub singulars : Schema → List Singular
singulars s = map (singular_of s.slots) (couples s)

-- by slot, the couple and the side of a link slot
abbrev pub slot_ends : Schema → List (Option (ℕ × Side))
slot_ends s = map (couple_of s) (range_with_len 0 (length s.slots))

-- the couple and the side of a slot, if it is a link slot
abbrev pub end_among : List (Option (ℕ × Side)) → ℕ → Option (ℕ × Side)
end_among ends slot = option_and_then (λ e. e) (slice_get ends slot)
