-- Units that are deleted one after another, computed from the state before the first deletion.
use Rattle.std.specs.Prelude.{ℕ, Bool, ◌==◌, ◌||◌, not, IsTrue, List, [], ◌∷◌, ◌++◌, filter}
use Rattle.std.specs.List.{flat_map, fold, list_any}
use Rattle.std.specs.Option.{option_map_or}
use Rattle.bb_schema.specs.declared.couple.Side.{Side}
use Rattle.bb_schema.specs.declared.couple.Side.TheVariants.{A, B}
use Rattle.bb_schema.specs.Schema.{Schema, slots_of}
use Rattle.bb_schema.specs.Couples.{couple_of}
use Rattle.bb_units.specs.Units.{Units, is_live, after_delete as without_unit}
use Rattle.bb_links.specs.Couples.{after_forget}
use Rattle.bb_links.specs.Links.{ends}
use Rattle.bb_space.specs.Spaces.{after_forget as out_of_spaces}
use Rattle.bb_board.specs.declared.event.Change.TheVariants.{Delete}
use Rattle.bb_board.specs.declared.note.Note.{Note}
use Rattle.bb_board.specs.State.{World}
use Rattle.bb_board.specs.World.{event, class_at}
use Rattle.bb_board.specs.Links.{parting}
use Rattle.bb_board.specs.Spaces.{leavings}

-- a unit is one of these
abbrev pub is_of : List ℕ → ℕ → Bool
is_of gone m = list_any (λ k. k == m) gone

-- a deleted unit's link is noted with its slot at a side: the partner is not deleted before, and a link to itself,
-- which both slots of its couple list, is noted with the slot at side A, which comes first
abbrev pub is_turn : (gone : List ℕ) → Side → (unit partner : ℕ) → Bool
is_turn gone A n m = not (is_of gone m)
is_turn gone B n m = not (is_of gone m || m == n)

-- the notes of the links that a deleted unit loses by a slot, in the order of its list
abbrev pub slot_partings : Schema → World → (gone : List ℕ) → (unit slot : ℕ) → List Note
slot_partings s w gone n slot =
    option_map_or (λ e. flat_map (parting s w n slot) (filter (is_turn gone e.1 n) (ends w.links n slot)))
    (couple_of s slot) []

-- the notes of a deleted unit, after others were deleted
abbrev pub deletion_notes : Schema → World → (gone : List ℕ) → (unit : ℕ) → List Note
deletion_notes s w gone n =
    flat_map (slot_partings s w gone n) (slots_of s (class_at w n)) ++ leavings w n
    ++ event n (class_at w n) Delete ∷ []

-- the notes of deleted units, one unit after another, after others were deleted
abbrev pub all_deletion_notes : Schema → World → (gone units : List ℕ) → List Note
all_deletion_notes s w gone [] = []
all_deletion_notes s w gone (n ∷ ns) = deletion_notes s w gone n ++ all_deletion_notes s w (gone ++ n ∷ []) ns

-- units are live, each after those before it were deleted
abbrev pub AreLive : Units → List ℕ → Type 0
AreLive u [] = Unit {0}
AreLive u (n ∷ ns) = IsTrue (is_live u n) × AreLive (without_unit u n) ns

-- the state without some units, their links and their memberships, and with its notes
abbrev pub forgotten : World → List ℕ → World
forgotten w ns = record {
  units = fold without_unit w.units ns;
  links = fold after_forget w.links ns;
  spaces = fold out_of_spaces w.spaces ns;
  notes = w.notes;
}

-- the state without some units, their links and their memberships, and with their notes
abbrev pub without_units : Schema → World → List ℕ → World
without_units s w ns = record {
  units = fold without_unit w.units ns;
  links = fold after_forget w.links ns;
  spaces = fold out_of_spaces w.spaces ns;
  notes = w.notes ++ all_deletion_notes s w [] ns;
}
