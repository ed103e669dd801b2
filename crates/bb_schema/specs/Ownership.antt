-- Ownership in a schema.
use Rattle.std.specs.Prelude.{ℕ, Bool, false, List}
use Rattle.std.specs.List.{list_any}
use Rattle.std.specs.Option.{option_map_or}
use Rattle.bb_schema.specs.Slots.{link_of}
use Rattle.bb_schema.specs.Heirs.{is_owning, heirs_in, strikes_in}
use Rattle.bb_schema.specs.Schema.{Schema}

-- whether the slot with the number exists and is a link slot that owns
abbrev pub owns : Schema → ℕ → Bool
owns s n = option_map_or (λ l. l.owns) (link_of s.slots n) false

-- whether any slot owns
abbrev pub owns_any : Schema → Bool
owns_any s = list_any is_owning s.slots

-- the heirs of a class, and whether a delete of a unit of class d may delete a unit of class c
abbrev pub heirs : Schema → ℕ → List ℕ
heirs s d = heirs_in s.classes s.slots d

abbrev pub strikes : Schema → (d c : ℕ) → Bool
strikes s d c = strikes_in s.classes s.slots d c
