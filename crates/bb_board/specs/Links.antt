-- What links change on a blackboard (GBBopen Reference Manual, link slots). A link is noted at both of its units.
use Rattle.std.specs.Prelude.{ℕ, List, [], ◌∷◌, ◌++◌, Option, Some, None, if◌then◌else◌}
use Rattle.std.specs.Option.{option_map_or}
use Rattle.bb_schema.specs.declared.couple.Side.{Side}
use Rattle.bb_schema.specs.declared.couple.Side.TheVariants.{A, B}
use Rattle.bb_schema.specs.Schema.{Schema, inverse_of}
use Rattle.bb_schema.specs.Couples.{couple_of, pair_of}
use Rattle.bb_links.specs.declared.taken.Taken.{Taken}
use Rattle.bb_links.specs.Pairs.{near, far}
use Rattle.bb_links.specs.Couples.{taken, are_linked, after_link as with_pair, after_unlink as without_pair}
use Rattle.bb_board.specs.declared.event.Change.TheVariants.{Link, Unlink}
use Rattle.bb_board.specs.declared.note.Note.{Note}
use Rattle.bb_board.specs.State.{World}
use Rattle.bb_board.specs.World.{event, class_at}

-- the notes that a unit is linked by a slot: by the slot, and by its inverse
abbrev pub joining : Schema → World → (unit slot partner : ℕ) → List Note
joining s w n slot m =
    event n (class_at w n) (Link slot m) ∷ event m (class_at w m) (Link (inverse_of s.slots slot) n) ∷ []

-- the notes that a unit is no longer linked by a slot: by the slot, and by its inverse
abbrev pub parting : Schema → World → (unit slot partner : ℕ) → List Note
parting s w n slot m =
    event n (class_at w n) (Unlink slot m) ∷ event m (class_at w m) (Unlink (inverse_of s.slots slot) n) ∷ []

-- the notes that a pair goes, if there is one: first the note at its unit at the side
abbrev pub pair_parting : Schema → World → Side → (slot : ℕ) → Option (ℕ × ℕ) → List Note
pair_parting s w side slot None = []
pair_parting s w side slot (Some p) = parting s w (near side p) slot (far side p)

-- the pair that the unit at a side loses, and the one that its partner loses
abbrev pub own_pair : Side → Taken → Option (ℕ × ℕ)
own_pair A t = t.first
own_pair B t = t.second

abbrev pub partners_pair : Side → Taken → Option (ℕ × ℕ)
partners_pair A t = t.second
partners_pair B t = t.first

-- the notes of a link: the pair that the unit loses, then the one that its partner loses, then the new pair. Nothing is
-- noted if the two are linked.
abbrev pub link_notes : Schema → World → Side → (unit slot partner : ℕ) → Taken → List Note
link_notes s w side n slot m t =
    pair_parting s w side slot (own_pair side t) ++ pair_parting s w side slot (partners_pair side t)
    ++ (if t.added then joining s w n slot m else [])

-- two units linked by a slot that is a side of a couple
abbrev pub linked_at : Schema → World → (unit slot partner : ℕ) → ℕ × Side → World
linked_at s w n slot m e = let p = pair_of e.1 n m in record {
  units = w.units;
  links = with_pair w.links e.0 p.0 p.1;
  spaces = w.spaces;
  notes = w.notes ++ option_map_or (link_notes s w e.1 n slot m) (taken w.links e.0 p.0 p.1) [];
}

-- two units linked by a link slot
abbrev pub after_link : Schema → World → (unit slot partner : ℕ) → World
after_link s w n slot m = option_map_or (linked_at s w n slot m) (couple_of s slot) w

-- two units no longer linked by a slot that is a side of a couple. Nothing is noted if they were not linked.
abbrev pub unlinked_at : Schema → World → (unit slot partner : ℕ) → ℕ × Side → World
unlinked_at s w n slot m e = let p = pair_of e.1 n m in record {
  units = w.units;
  links = without_pair w.links e.0 p.0 p.1;
  spaces = w.spaces;
  notes = w.notes ++ (if are_linked w.links e.0 p.0 p.1 then parting s w n slot m else []);
}

-- two units no longer linked by a link slot
abbrev pub after_unlink : Schema → World → (unit slot partner : ℕ) → World
after_unlink s w n slot m = option_map_or (unlinked_at s w n slot m) (couple_of s slot) w
