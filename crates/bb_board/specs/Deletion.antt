-- What is deleted with a unit (GBBopen Reference Manual, unit instances). Link slots that own, whose partners are parts
-- of the unit, are this project's own.
use Rattle.std.specs.Prelude.{ℕ, Bool, ◌==◌, ◌&&◌, List, [], ◌∷◌, ◌++◌}
use Rattle.std.specs.List.{fold, list_any}
use Rattle.std.specs.FinMap.{keys}
use Rattle.bb_schema.specs.Schema.{Schema, slots_of}
use Rattle.bb_schema.specs.Ownership.{owns}
use Rattle.bb_units.specs.Units.{after_delete as without_unit}
use Rattle.bb_links.specs.Links.{ends}
use Rattle.bb_space.specs.Spaces.{spaces_of}
use Rattle.bb_basis.specs.Closure.{closure}
use Rattle.bb_board.specs.declared.event.Change.TheVariants.{Delete}
use Rattle.bb_board.specs.State.{World}
use Rattle.bb_board.specs.World.{event, class_at}
use Rattle.bb_board.specs.Links.{after_unlink}
use Rattle.bb_board.specs.Spaces.{after_leave}

-- ---- one unit

-- a unit no longer linked by a slot: to each of its partners in turn, in the order of its list
abbrev pub after_parting : Schema → (unit : ℕ) → World → (slot : ℕ) → World
after_parting s n w slot = fold (λ v m. after_unlink s v n slot m) w (ends w.links n slot)

-- a unit no longer linked, slot by slot in class order
abbrev pub after_partings : Schema → (unit : ℕ) → World → World
after_partings s n w = fold (after_parting s n) w (slots_of s (class_at w n))

-- a unit no longer in its spaces, space by space in ascending number
abbrev pub after_leavings : (unit : ℕ) → World → World
after_leavings n w = fold (λ v space. after_leave v n space) w (spaces_of w.spaces n)

-- a unit no longer live
abbrev pub after_end : (unit : ℕ) → World → World
after_end n w = record {
  units = without_unit w.units n;
  links = w.links;
  spaces = w.spaces;
  notes = w.notes ++ event n (class_at w n) Delete ∷ [];
}

-- one unit is deleted: it is unlinked, leaves its spaces, and is gone
unfoldable pub after_delete_alone : Schema → World → (unit : ℕ) → World
after_delete_alone s w n = after_end n (after_leavings n (after_partings s n w))

-- ---- a unit with its parts

-- one unit has another as a part: it is linked to it by a slot that owns
abbrev pub has_part : Schema → World → (whole part : ℕ) → Bool
has_part s w n m = list_any (λ slot. owns s slot && list_any (λ k. k == m) (ends w.links n slot)) (slots_of s (class_at w n))

-- a unit with its parts, their parts, and so on, by the present links, in ascending number
abbrev pub with_parts : Schema → World → (unit : ℕ) → List ℕ
with_parts s w n = closure (has_part s w) (keys w.units.units) n

-- a unit is deleted with its parts, in ascending number, each as if deleted alone
unfoldable pub after_delete : Schema → World → (unit : ℕ) → World
after_delete s w n = fold (after_delete_alone s) w (with_parts s w n)
