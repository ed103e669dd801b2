-- Events of a blackboard (GBBopen Reference Manual, events).
use Rattle.std.specs.Prelude.{ℕ}
use Rattle.bb_board.specs.declared.event.Change.{Change}
use Rattle.bb_board.specs.declared.event.Change.TheVariants as changes
use Rattle.bb_board.specs.declared.event.ChangeKind.{ChangeKind}
use Rattle.bb_board.specs.declared.event.ChangeKind.TheVariants as kinds
use Rattle.bb_board.specs.declared.event.Event.{Event}
use Rattle.bb_board.specs.declared.event.Event.TheVariants as events

-- the kind of a change: the change, for links and unlinks without the partner
abbrev pub kind_of : Change → ChangeKind
kind_of changes.Create = kinds.Create
kind_of changes.Delete = kinds.Delete
kind_of (changes.Update slot) = kinds.Update slot
kind_of (changes.Link slot partner) = kinds.Link slot
kind_of (changes.Unlink slot partner) = kinds.Unlink slot
kind_of (changes.Enter space) = kinds.Enter space
kind_of (changes.Leave space) = kinds.Leave space

-- the unit that changed, or 0 if none did
abbrev pub unit_of : Event → ℕ
unit_of (events.Change unit class change) = unit
unit_of events.Quiescence = 0
