-- Which of the pending activations a reaction is asked about. No public contract cites it.
use Rattle.std.specs.Prelude.{List, filter, if◌then◌else◌}
use Rattle.bb_trace.specs.Event.{Event}
use Rattle.bb_trace.specs.Events.{unit_of}
use Rattle.bb_rules.specs.declared.source.Reaction.{Reaction}
use Rattle.bb_agenda.specs.declared.focusing.activation.Activation.{Activation}
use Rattle.bb_agenda.specs.Agenda.{is_on}
use Rattle.bb_rules.specs.Own.{asks_own}

-- all, or only those for the event's unit if the reaction says no about every other unit
abbrev pub asked_about : Reaction → Event → List Activation → List Activation
asked_about reaction event waiting =
    if asks_own reaction.code.code then filter (is_on (unit_of event)) waiting else waiting
