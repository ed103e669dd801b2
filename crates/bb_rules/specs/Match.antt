-- When a clause names an event, and when an event triggers a source: GBBopen's trigger events of a knowledge source.
use Rattle.std.specs.Prelude.{Bool, true, false, ◌&&◌, ◌==◌, List}
use Rattle.std.specs.List.{list_any}
use Rattle.bb_schema.specs.Schema.{Schema, descends}
use Rattle.bb_board.specs.declared.event.ChangeKind.{ChangeKind}
use Rattle.bb_board.specs.declared.event.ChangeKind.TheVariants.{Create, Delete, Update, Link, Unlink, Enter, Leave}
use Rattle.bb_board.specs.declared.event.Event.{Event}
use Rattle.bb_board.specs.declared.event.Event.TheVariants as events
use Rattle.bb_board.specs.Events.{kind_of}
use Rattle.bb_rules.specs.declared.clause.Clause.{Clause}
use Rattle.bb_rules.specs.declared.clause.Clause.TheVariants as clauses

-- the two kinds of change are the same, with the same slot or space
abbrev pub is_same_kind : ChangeKind → ChangeKind → Bool
is_same_kind Create Create = true
is_same_kind Delete Delete = true
is_same_kind (Update slot) (Update other) = slot == other
is_same_kind (Link slot) (Link other) = slot == other
is_same_kind (Unlink slot) (Unlink other) = slot == other
is_same_kind (Enter space) (Enter other) = space == other
is_same_kind (Leave space) (Leave other) = space == other
is_same_kind _ _ = false

-- the clause names the event: both are quiescence, or the event is a change of the clause's kind and its class descends
-- from the clause's
abbrev pub matches : Schema → Clause → Event → Bool
matches s clauses.Quiescence events.Quiescence = true
matches s (clauses.Change kind class) (events.Change unit of change) =
    is_same_kind kind (kind_of change) && descends s of class
matches s _ _ = false

-- at least one of the clauses names the event
abbrev pub any_match : Schema → List Clause → Event → Bool
any_match s clauses event = list_any (λ c. matches s c event) clauses
