-- The text of a run: one line for each note, ended by a line feed.
use Rattle.std.specs.Prelude.{ℕ, ℤ, Bool, List, [], ◌∷◌, ◌++◌, codes, unwrap_or, slice_get, option_map, cond}
use Rattle.std.specs.List.{flat_map}
use Rattle.std.specs.Fmt.{decimal, signed_decimal}
use Rattle.serde_json.specs.Data.{string}
use Rattle.serde_json.specs.Written.{compact_text}
use Rattle.bb_schema.specs.Schema.{Schema, name_of_class, name_of_label, name_of_slot, name_of_space}
use Rattle.bb_schema_classes.specs.declared.value.Value.{Value}
use Rattle.bb_schema_classes.specs.declared.value.Value.TheVariants as values
use Rattle.bb_board.specs.declared.event.Change.{Change}
use Rattle.bb_board.specs.declared.event.Change.TheVariants.{Create, Delete, Update, Link, Unlink, Enter, Leave}
use Rattle.bb_board.specs.declared.event.Event.{Event}
use Rattle.bb_board.specs.declared.event.Event.TheVariants as events
use Rattle.bb_board.specs.declared.note.Note.{Note as BoardNote}
use Rattle.bb_board.specs.declared.note.Note.TheVariants.{Event as happened, Said as said}
use Rattle.bb_board.specs.declared.note.Said.{Said}
use Rattle.bb_board.specs.declared.note.Said.TheVariants as saids
use Rattle.bb_agenda.specs.declared.focusing.activation.Activation.{Activation}
use Rattle.bb_machine.specs.Reasons.{reason_number}
use Rattle.bb_native.specs.declared.closing.Closing.{Closing}
use Rattle.bb_native.specs.Refusals.{refusal_number}
use Rattle.bb_rules.specs.Parts.{Source}
use Rattle.bb_trace.specs.End.{End}
use Rattle.bb_trace.specs.End as ends
use Rattle.bb_trace.specs.declared.note.Note.{Note}
use Rattle.bb_trace.specs.declared.note.Note.TheVariants.{Board, Triggered, Declined, Obviated, Retriggered}
use Rattle.bb_trace.specs.declared.note.Note.TheVariants.{Chosen, Invalid, Ended, Refused, NativeEnded, Finished, Closed}
use Rattle.bb_trace.specs.declared.note.Note.TheVariants.{Posted, PostEnded}
use Rattle.bb_run_plan.specs.Plan.{Plan}

-- the name of a class; empty if there is none
abbrev pub class_name : Schema → ℕ → List ℕ
class_name s c = unwrap_or (name_of_class s c) []

-- the name of the source at a place; empty if there is none
abbrev pub source_name : List Source → ℕ → List ℕ
source_name sources place = unwrap_or (option_map (λ source. source.name) (slice_get sources place)) []

-- `true` or `false`
abbrev pub bool_text : Bool → List ℕ
bool_text b = cond b (codes "true") (codes "false")

-- numbers in decimal, texts as JSON writes them, labels by name, intervals as `[low,high]`
abbrev pub value_text : Schema → Value → List ℕ
value_text s (values.Int z) = signed_decimal z
value_text s (values.Text t) = compact_text (string t)
value_text s (values.Bool b) = bool_text b
value_text s (values.Label set label) = unwrap_or (name_of_label s set label) []
value_text s (values.Interval low high) =
    codes "[" ++ signed_decimal low ++ codes "," ++ signed_decimal high ++ codes "]"

-- a value, or `#` and the number of a unit
abbrev pub said_text : Schema → Said → List ℕ
said_text s (saids.Value v) = value_text s v
said_text s (saids.Unit n) = codes "#" ++ decimal n

-- the name of a slot; empty if there is none
abbrev pub slot_name : Schema → ℕ → List ℕ
slot_name s slot = unwrap_or (name_of_slot s slot) []

-- `U.SLOT`: a slot of a unit
abbrev pub slot_text : Schema → (unit slot : ℕ) → List ℕ
slot_text s n slot = decimal n ++ codes "." ++ slot_name s slot

-- `U SPACE`: a unit and a space, whose name is empty if there is none
abbrev pub space_text : Schema → (unit space : ℕ) → List ℕ
space_text s n space = decimal n ++ codes " " ++ unwrap_or (name_of_space s space) []

-- `create U CLASS`, `delete U`, `set U.SLOT`, `link U.SLOT PARTNER`, `unlink U.SLOT PARTNER`, `enter U SPACE` or
-- `leave U SPACE`
abbrev pub change_text : Schema → (unit class : ℕ) → Change → List ℕ
change_text s n class Create = codes "create " ++ decimal n ++ codes " " ++ class_name s class
change_text s n class Delete = codes "delete " ++ decimal n
change_text s n class (Update slot) = codes "set " ++ slot_text s n slot
change_text s n class (Link slot partner) = codes "link " ++ slot_text s n slot ++ codes " " ++ decimal partner
change_text s n class (Unlink slot partner) = codes "unlink " ++ slot_text s n slot ++ codes " " ++ decimal partner
change_text s n class (Enter space) = codes "enter " ++ space_text s n space
change_text s n class (Leave space) = codes "leave " ++ space_text s n space

-- a change, or `quiescence`
abbrev pub event_text : Schema → Event → List ℕ
event_text s (events.Change n class change) = change_text s n class change
event_text s events.Quiescence = codes "quiescence"

-- an event, or `say` and the values
abbrev pub board_note_text : Schema → BoardNote → List ℕ
board_note_text s (happened event) = event_text s event
board_note_text s (said values) = codes "say" ++ flat_map (λ v. codes " " ++ said_text s v) values

-- `A SOURCE unit U rating R`: an activation by its number, with a rating
abbrev pub numbered_text : List Source → Activation → ℤ → List ℕ
numbered_text sources a r =
    decimal a.number ++ codes " " ++ source_name sources a.source ++ codes " unit " ++ decimal a.unit
    ++ codes " rating " ++ signed_decimal r

-- a new activation, with its base
abbrev pub trigger_text : List Source → Activation → List ℕ
trigger_text sources a = codes "trigger " ++ numbered_text sources a a.base

-- a trigger that the source declined
abbrev pub decline_text : List Source → (source unit : ℕ) → List ℕ
decline_text sources source unit = codes "decline " ++ source_name sources source ++ codes " unit " ++ decimal unit

-- the choice of a cycle
abbrev pub choice_text : List Source → (cycle : ℕ) → Activation → ℤ → List ℕ
choice_text sources cycle a r = codes "cycle " ++ decimal cycle ++ codes " act " ++ numbered_text sources a r

-- the end of an execution
abbrev pub ended_text : (steps found budget : ℕ) → List ℕ
ended_text steps found budget =
    codes "end steps " ++ decimal steps ++ codes " found " ++ decimal found ++ codes " budget " ++ decimal budget

-- a refused ask, and the number of the reason
abbrev pub refused_text : (ask number : ℕ) → List ℕ
refused_text ask number = codes "refused ask " ++ decimal ask ++ codes " " ++ decimal number

-- the end of a native's execution
abbrev pub native_ended_text : (asks : ℕ) → List ℕ
native_ended_text asks = codes "end native " ++ decimal asks

-- the end of asks from outside
abbrev pub post_ended_text : (asks : ℕ) → List ℕ
post_ended_text asks = codes "end post " ++ decimal asks

-- a native that was closed, and what it returned
abbrev pub closed_text : Closing → List ℕ
closed_text c = codes "closed " ++ c.name ++ codes " " ++ signed_decimal c.number

-- the end of the run; no trace has the last two, because no run is stuck and a run with a native due does not end
abbrev pub end_text : End → List ℕ
end_text ends.Quiescence = codes "finish quiescence"
end_text ends.Limit = codes "finish limit"
end_text ends.Full = codes "finish full"
end_text (ends.Due a) = codes "finish due " ++ decimal a.number
end_text (ends.Stuck reason) = codes "finish stuck " ++ decimal (reason_number reason)

-- the text of a note
abbrev pub note_text : Plan → Note → List ℕ
note_text plan (Board note) = board_note_text plan.schema note
note_text plan (Triggered a) = trigger_text plan.sources a
note_text plan (Declined source unit) = decline_text plan.sources source unit
note_text plan (Obviated number) = codes "obviate " ++ decimal number
note_text plan (Retriggered number base) =
    codes "retrigger " ++ decimal number ++ codes " " ++ signed_decimal base
note_text plan (Chosen cycle a r) = choice_text plan.sources cycle a r
note_text plan (Invalid number) = codes "invalid " ++ decimal number
note_text plan (Ended steps found budget) = ended_text steps found budget
note_text plan (Refused ask refusal) = refused_text ask (refusal_number refusal)
note_text plan (NativeEnded asks) = native_ended_text asks
note_text plan Posted = codes "post"
note_text plan (PostEnded asks) = post_ended_text asks
note_text plan (Finished end) = end_text end
note_text plan (Closed closing) = closed_text closing

-- a note's line, with its line feed
abbrev pub line : Plan → Note → List ℕ
line plan note = note_text plan note ++ 10 ∷ []

-- the lines of a segment
abbrev pub segment_text : Plan → List Note → List ℕ
segment_text plan notes = flat_map (line plan) notes

-- the lines of all segments
abbrev pub trace_text : Plan → List (List Note) → List ℕ
trace_text plan segments = flat_map (segment_text plan) segments
