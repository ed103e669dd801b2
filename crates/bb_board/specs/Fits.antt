-- What holds of a blackboard at any time.
use Rattle.std.specs.Prelude.{◌≡◌, ℕ, Bool, true, ◌==◌, ◌&&◌, false, nat_lt, is_some, map, length, Some}
use Rattle.std.specs.List.{list_all}
use Rattle.std.specs.Option.{option_map_or}
use Rattle.bb_schema_classes.specs.declared.value.Value.{Value}
use Rattle.bb_schema_classes.specs.declared.value.Value.TheVariants as values
use Rattle.bb_schema.specs.declared.couple.Side.{Side}
use Rattle.bb_schema.specs.Schema.{Schema, name_of_label}
use Rattle.bb_schema.specs.Couples.{couple_of}
use Rattle.bb_units.specs.Layout.{layout_of}
use Rattle.bb_units.specs.Units.{Units, class_of}
use Rattle.bb_units.specs.Fits as units
use Rattle.bb_links.specs.Pairs.{near}
use Rattle.bb_links.specs.Layout.{singulars}
use Rattle.bb_links.specs.Couples.{Couples, end_of, pairs_of}
use Rattle.bb_links.specs.Fits as links
use Rattle.bb_query.specs.Knows.{Knows}
use Rattle.bb_board.specs.declared.event.Change.{Change}
use Rattle.bb_board.specs.declared.event.Change.TheVariants.{Create, Delete, Update, Link, Unlink, Enter, Leave}
use Rattle.bb_board.specs.declared.event.Event.{Event}
use Rattle.bb_board.specs.declared.event.Event.TheVariants as events
use Rattle.bb_board.specs.declared.note.Note.{Note}
use Rattle.bb_board.specs.declared.note.Note.TheVariants as notes
use Rattle.bb_board.specs.declared.note.Said.{Said}
use Rattle.bb_board.specs.declared.note.Said.TheVariants as saids
use Rattle.bb_board.specs.State.{World}
use Rattle.bb_board.specs.May.{class_has}

-- the slot or space that a change names is one of the schema
abbrev pub names_slot_of : Schema → Change → Bool
names_slot_of s Create = true
names_slot_of s Delete = true
names_slot_of s (Update slot) = nat_lt slot (length s.slots)
names_slot_of s (Link slot partner) = nat_lt slot (length s.slots)
names_slot_of s (Unlink slot partner) = nat_lt slot (length s.slots)
names_slot_of s (Enter space) = nat_lt space (length s.spaces)
names_slot_of s (Leave space) = nat_lt space (length s.spaces)

-- a unit is not live, or of this class
abbrev pub is_of_if_live : Units → (unit class : ℕ) → Bool
is_of_if_live u n class = option_map_or (λ c. c == class) (class_of u n) true

-- an event's unit was created, and is of the event's class if it is live; the class, and the slot or space of the
-- change, are ones of the schema
abbrev pub is_event_of : Schema → Units → Event → Bool
is_event_of s u (events.Change n class change) =
    nat_lt n u.next && is_of_if_live u n class && nat_lt class (length s.classes) && names_slot_of s change
is_event_of s u events.Quiescence = true

-- a label is one of the schema
abbrev pub is_value_of : Schema → Value → Bool
is_value_of s (values.Label set label) = is_some (name_of_label s set label)
is_value_of s _ = true

-- a label that is said is one of the schema
abbrev pub is_said_of : Schema → Said → Bool
is_said_of s (saids.Value value) = is_value_of s value
is_said_of s (saids.Unit n) = true

-- a note names units, classes, slots, spaces and labels that exist, or units that did
abbrev pub is_noted : Schema → Units → Note → Bool
is_noted s u (notes.Event e) = is_event_of s u e
is_noted s u (notes.Said values) = list_all (is_said_of s) values

-- a unit is live, and its class has a slot
abbrev pub is_of_owner : Schema → Units → (unit slot : ℕ) → Bool
is_of_owner s u n slot = option_map_or (λ class. class_has s class slot) (class_of u n) false

-- every pair of a couple joins live units of classes that have its slots, each at its side
abbrev pub PairsFit : Schema → Units → Couples → Type 0
PairsFit s u c = (slot : ℕ) (e : ℕ × Side) → couple_of s slot ≡ Some e
    → list_all (λ p. is_of_owner s u (near e.1 p) slot) (pairs_of c e.0) ≡ true

pub record Fits (s : Schema) (w : World) : Type 0 where
  pub units : units.Fits w.units
  -- units have the slots that the schema gives their classes
  pub layout : w.units.layout ≡ layout_of s
  pub links : links.Fits w.links
  -- couples, their slots and their singular sides are the schema's
  pub ends : (slot : ℕ) → end_of w.links slot ≡ couple_of s slot
  pub singular : map (λ k. k.singular) w.links.couples ≡ singulars s
  pub pairs : PairsFit s w.units w.links
  -- members of spaces are live, of classes that the spaces take, and known there with their present values
  pub spaces : Knows s w.units w.spaces
  -- the notes not yet taken
  pub notes : list_all (is_noted s w.units) w.notes ≡ true
