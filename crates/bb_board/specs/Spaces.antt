-- Which spaces units enter and leave (GBBopen Reference Manual, space instances).
use Rattle.std.specs.Prelude.{ℕ, not, List, [], ◌∷◌, ◌++◌, map, Result, Ok, Err, if◌then◌else◌}
use Rattle.bb_schema.specs.Schema.{Schema}
use Rattle.bb_schema.specs.Spaces.{allowed}
use Rattle.bb_units.specs.Units.{is_live}
use Rattle.bb_space.specs.Spaces.{is_member, spaces_of, after_enter as with_member, after_leave as without_member}
use Rattle.bb_query.specs.PresentValues.{present_values}
use Rattle.bb_board.specs.declared.event.Change.TheVariants.{Enter, Leave}
use Rattle.bb_board.specs.declared.note.Note.{Note}
use Rattle.bb_board.specs.declared.reason.Reason.{Reason}
use Rattle.bb_board.specs.declared.reason.Reason.TheVariants.{Deleted, Space}
use Rattle.bb_board.specs.State.{World}
use Rattle.bb_board.specs.World.{event, class_at}

-- a unit may enter a space: it is live, and the space exists and takes units of its class
abbrev pub may_enter : Schema → World → (unit space : ℕ) → Result (Unit {0}) Reason
may_enter s w n space =
    if not (is_live w.units n) then Err Deleted
    else if not (allowed s space (class_at w n)) then Err Space
    else Ok tt

-- a unit enters a space, which is told its present values; nothing changes if it is a member
abbrev pub after_enter : Schema → World → (unit space : ℕ) → World
after_enter s w n space = if is_member w.spaces space n then w else record {
  units = w.units;
  links = w.links;
  spaces = with_member w.spaces space n (present_values s w.units n space);
  notes = w.notes ++ event n (class_at w n) (Enter space) ∷ [];
}

-- a unit leaves a space; nothing changes if it is not a member
abbrev pub after_leave : World → (unit space : ℕ) → World
after_leave w n space = if not (is_member w.spaces space n) then w else record {
  units = w.units;
  links = w.links;
  spaces = without_member w.spaces space n;
  notes = w.notes ++ event n (class_at w n) (Leave space) ∷ [];
}

-- the notes that a deleted unit leaves its spaces, in ascending number
abbrev pub leavings : World → (unit : ℕ) → List Note
leavings w n = map (λ space. event n (class_at w n) (Leave space)) (spaces_of w.spaces n)
