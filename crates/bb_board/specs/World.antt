-- The state of a blackboard, and what each change makes of it: a change notes what happened, in order.
use Rattle.std.specs.Prelude.{ℕ, Bool, ◌==◌, ◌&&◌, List, [], ◌∷◌, ◌++◌, length, unwrap_or}
use Rattle.bb_schema_classes.specs.declared.value.Value.{Value}
use Rattle.bb_schema.specs.Schema.{Schema}
use Rattle.bb_units.specs.Layout.{layout_of}
use Rattle.bb_units.specs.Units.{no_units, class_of, after_create as with_new_unit, after_set as with_value}
use Rattle.bb_links.specs.Couples.{no_links}
use Rattle.bb_space.specs.Spaces.{no_spaces}
use Rattle.bb_board.specs.declared.event.Change.{Change}
use Rattle.bb_board.specs.declared.event.Change.TheVariants.{Create, Update}
use Rattle.bb_board.specs.declared.event.Event.TheVariants as events
use Rattle.bb_board.specs.declared.note.Note.{Note}
use Rattle.bb_board.specs.declared.note.Note.TheVariants as notes
use Rattle.bb_board.specs.declared.note.Said.{Said}
use Rattle.bb_board.specs.State.{World}
use Rattle.bb_board.specs.Told.{told_again}

-- the state of a blackboard with no units
abbrev pub empty_world : Schema → World
empty_world s = record { units = no_units (layout_of s); links = no_links s; spaces = no_spaces s; notes = [] }

-- nothing was created, and no note is left to take
abbrev pub is_fresh : World → Bool
is_fresh w = w.units.next == 1 && length w.notes == 0

-- the note of a change of a unit of this class
abbrev pub event : (unit class : ℕ) → Change → Note
event n class change = notes.Event (events.Change n class change)

-- a state with one note more
abbrev pub after_note : World → Note → World
after_note w note = record { units = w.units; links = w.links; spaces = w.spaces; notes = w.notes ++ note ∷ [] }

-- one unit more, of this class, under the next number (GBBopen Reference Manual, unit instances)
abbrev pub after_create : World → ℕ → World
after_create w class = record {
  units = with_new_unit w.units class;
  links = w.links;
  spaces = w.spaces;
  notes = w.notes ++ event w.units.next class Create ∷ [];
}

-- the class of a unit, or 0 if it is not live
abbrev pub class_at : World → ℕ → ℕ
class_at w n = unwrap_or (class_of w.units n) 0

-- an ordinary slot of a unit set to a value, perhaps an equal one, with the unit's spaces told
abbrev pub after_set : Schema → World → (unit slot : ℕ) → Value → World
after_set s w n slot value = let u = with_value w.units n slot value in record {
  units = u;
  links = w.links;
  spaces = told_again s u w.spaces n;
  notes = w.notes ++ event n (class_at w n) (Update slot) ∷ [];
}

-- a state after values were said
abbrev pub after_say : World → List Said → World
after_say w values = after_note w (notes.Said values)

-- a state after its notes were taken
abbrev pub after_take : World → World
after_take w = record { units = w.units; links = w.links; spaces = w.spaces; notes = [] }
