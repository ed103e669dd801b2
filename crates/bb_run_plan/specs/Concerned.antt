-- Which sources an event concerns, by its kind: those with a clause of that kind, of any class. No other source
-- responds to it.
use Rattle.std.specs.Prelude.{ℕ, ◌+◌, Bool, true, false, ◌||◌, List, [], ◌∷◌, Option, Some, None, if◌then◌else◌}
use Rattle.std.specs.List.{list_any}
use Rattle.bb_board.specs.declared.event.Event.{Event}
use Rattle.bb_board.specs.declared.event.Event.TheVariants as events
use Rattle.bb_board.specs.Events.{kind_of}
use Rattle.bb_rules.specs.declared.clause.Clause.{Clause}
use Rattle.bb_rules.specs.declared.clause.Clause.TheVariants as clauses
use Rattle.bb_rules.specs.declared.source.Reaction.{Reaction}
use Rattle.bb_rules.specs.Parts.{Source}
use Rattle.bb_rules.specs.Match.{is_same_kind}

-- the clause names the kind of this event
abbrev pub is_of_kind : Event → Clause → Bool
is_of_kind events.Quiescence clauses.Quiescence = true
is_of_kind (events.Change unit of change) (clauses.Change kind class) = is_same_kind kind (kind_of change)
is_of_kind _ _ = false

-- a clause of this list names the kind of this event
abbrev pub any_of_kind : Event → List Clause → Bool
any_of_kind event list = list_any (is_of_kind event) list

-- a clause of the reaction names the kind of this event, if there is a reaction
abbrev pub reaction_of_kind : Event → Option Reaction → Bool
reaction_of_kind event None = false
reaction_of_kind event (Some reaction) = any_of_kind event reaction.clauses

-- a clause that triggers the source, or one of its reactions, names the kind of this event
abbrev pub is_concerned : Event → Source → Bool
is_concerned event source =
    any_of_kind event source.triggers || reaction_of_kind event source.obviate || reaction_of_kind event source.retrigger

-- the places of the sources that the event concerns, in order, where the first source is at this place
unfoldable pub concerned_from : Event → (place : ℕ) → List Source → List ℕ
concerned_from event place [] = []
concerned_from event place (source ∷ sources) =
    if is_concerned event source then place ∷ concerned_from event (place + 1) sources
    else concerned_from event (place + 1) sources

-- the places of all sources that the event concerns
abbrev pub concerned : Event → List Source → List ℕ
concerned event sources = concerned_from event 0 sources
