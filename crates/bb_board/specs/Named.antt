-- What changes leave of the units that none of their notes names.
use Rattle.std.specs.Prelude.{◌≡◌, ℕ, Bool, false, ◌==◌, List, ◌++◌}
use Rattle.std.specs.List.{list_any}
use Rattle.std.specs.FinMap.{get}
use Rattle.bb_board.specs.declared.note.Note.{Note}
use Rattle.bb_board.specs.declared.note.Note.TheVariants.{Event, Said}
use Rattle.bb_board.specs.Events.{unit_of}
use Rattle.bb_board.specs.State.{World}

-- the note is of a change of this unit
abbrev pub names : (unit : ℕ) → Note → Bool
names n (Event e) = unit_of e == n
names n (Said values) = false

-- a state of a blackboard before some changes, and after them
pub record NotesChanges (old new : World) : Type 0 where
  pub more : List Note
  -- earlier notes stay, and more come after them
  pub notes : new.notes ≡ old.notes ++ more
  -- a unit that none of these notes names is as it was: its class, its values, or that there is none
  pub kept : (n : ℕ) → list_any (names n) more ≡ false → get new.units.units n ≡ get old.units.units n
