-- How a plan finds the sources that an event concerns. No public clause cites it.
use Rattle.std.specs.Prelude.{◌≡◌, ℕ, List}
use Rattle.bb_board.specs.declared.event.Event.{Event}
use Rattle.bb_board.specs.declared.event.Event.TheVariants as events
use Rattle.bb_board.specs.Events.{kind_of}
use Rattle.bb_rules.specs.KindIndex.{ids_for}
use Rattle.bb_rules.specs.Parts.{Source}
use Rattle.bb_run_plan.specs.Concerned.{concerned}
use Rattle.bb_run_plan.specs.declared.concerned.Concerned.{Concerned}

-- the places kept for the kind of an event
abbrev pub places_for : Concerned → Event → List ℕ
places_for c (events.Change unit of change) = ids_for c.changes (kind_of change)
places_for c events.Quiescence = c.quiescence

-- for every event, the kept places are those of the sources that it concerns
abbrev pub AreConcerned : List Source → Concerned → Type 0
AreConcerned sources c = (event : Event) → places_for c event ≡ concerned event sources
