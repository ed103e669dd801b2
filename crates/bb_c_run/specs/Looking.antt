-- What a host in another language sees of the blackboard of a held run.
use Rattle.std.specs.Prelude.{◌++◌, ◌==◌, ℕ, ℤ, Bool, false, List, drop, filter, length, slice_get, take, Option, Some, None}
use Rattle.std.specs.List.{list_any}
use Rattle.std.specs.Option.{option_map_or}
use Rattle.std.specs.Prelude.{option_and_then, option_map}
use Rattle.bb_board_document.specs.Document.{units_text}
use Rattle.bb_schema.specs.Schema.{class_named, descends, name_of_class, name_of_label, slot_named, space_named}
use Rattle.bb_units.specs.Units.{class_of, live_units, value_of}
use Rattle.bb_links.specs.Links.{ends}
use Rattle.bb_space.specs.Spaces.{spaces_of}
use Rattle.bb_run_held.specs.declared.pause.Pause.{Pause}
use Rattle.bb_run_held.specs.declared.pause.Pause.TheVariants.{Due}
use Rattle.bb_shell.specs.Plan.{Plan}
use Rattle.bb_run_held.specs.declared.running.Running.{Running}
use Rattle.bb_shell.specs.Sight.{Sight, sight_of}
use Rattle.bb_shell.specs.Value.{Value}
use Rattle.bb_shell.specs.Value.TheVariants as values
use Rattle.bb_c_run.specs.declared.no_native.NoNative.{NoNative}
use Rattle.bb_c_run.specs.declared.slot_kind.SlotKind.{SlotKind}
use Rattle.bb_c_run.specs.declared.slot_kind.SlotKind.TheVariants as kinds

-- the name of a unit's class, if there is such a unit
abbrev pub class_in : Sight → (unit : ℕ) → Option (List ℕ)
class_in seen n = option_and_then (λ class. name_of_class seen.schema class) (class_of seen.world.units n)

-- the slot of a unit that has this name
abbrev pub slot_in : Sight → (unit : ℕ) → (name : List ℕ) → Option ℕ
slot_in seen n name = option_and_then (λ class. slot_named seen.schema class name) (class_of seen.world.units n)

-- the value of an ordinary slot
abbrev pub value_in : Sight → (unit : ℕ) → (slot : List ℕ) → Option Value
value_in seen n name = option_and_then (λ slot. value_of seen.world.units n slot) (slot_in seen n name)

-- the partners of a unit by a slot, in order of addition; none by a slot that is not a link slot
abbrev pub partners_in : Sight → (unit : ℕ) → (slot : List ℕ) → Option (List ℕ)
partners_in seen n name = option_map (λ slot. ends seen.world.links n slot) (slot_in seen n name)

-- what a value holds, if it is of this kind
abbrev pub number_of : Value → Option ℤ
number_of (values.Int z) = Some z
number_of _ = None

abbrev pub truth_of : Value → Option Bool
truth_of (values.Bool b) = Some b
truth_of _ = None

abbrev pub interval_of : Value → Option (ℤ × ℤ)
interval_of (values.Interval low high) = Some (low, high)
interval_of _ = None

abbrev pub text_of : Value → Option (List ℕ)
text_of (values.Text t) = Some t
text_of _ = None

-- the kind of what an ordinary slot holds
abbrev pub kind_of : Value → SlotKind
kind_of (values.Int z) = kinds.Int
kind_of (values.Text t) = kinds.Text
kind_of (values.Bool b) = kinds.Bool
kind_of (values.Label set label) = kinds.Label
kind_of (values.Interval low high) = kinds.Interval

-- the kind of a slot of a unit: a slot that holds no value is a link slot
abbrev pub kind_in : Sight → (unit : ℕ) → (slot : List ℕ) → Option SlotKind
kind_in seen n name = option_map (λ slot. option_map_or kind_of (value_of seen.world.units n slot) kinds.Link) (slot_in seen n name)

-- the name of a label
abbrev pub label_name_of : Sight → Value → Option (List ℕ)
label_name_of seen (values.Label set label) = name_of_label seen.schema set label
label_name_of seen _ = None

-- the unit has this class, or one below it
abbrev pub is_of : Sight → (class unit : ℕ) → Bool
is_of seen class n = option_map_or (λ c. descends seen.schema c class) (class_of seen.world.units n) false

-- the units of a class and of the classes below it, in ascending number, if there is such a class
abbrev pub units_of : Sight → (name : List ℕ) → Option (List ℕ)
units_of seen name = option_map (λ class. filter (is_of seen class) (live_units seen.world.units)) (class_named seen.schema name)

-- the unit is in this space
abbrev pub is_in : Sight → (space unit : ℕ) → Bool
is_in seen space n = list_any (λ it. it == space) (spaces_of seen.world.spaces n)

-- the units in a space, in ascending number, if there is such a space
abbrev pub members_of : Sight → (name : List ℕ) → Option (List ℕ)
members_of seen name = option_map (λ space. filter (is_in seen space) (live_units seen.world.units)) (space_named seen.schema name)

-- a buffer filled with as much of a list as it has places for
abbrev pub filled : {X : Type 0} → List X → (room : List X) → List X
filled found room = take (length room) found ++ drop (length found) room

-- the same for a list that may be missing
abbrev pub filled_if : {X : Type 0} → Option (List X) → (room : List X) → List X
filled_if None room = room
filled_if (Some found) room = filled found room

-- ---- of a run

-- what can be seen of it, until it is finished
abbrev pub sight_in : {b : _} → Option (Running NoNative b) → Option Sight
sight_in None = None
sight_in (Some r) = Some (sight_of r.state.board)

abbrev pub class_at : {b : _} → Option (Running NoNative b) → (unit : ℕ) → Option (List ℕ)
class_at r n = option_and_then (λ seen. class_in seen n) (sight_in r)

abbrev pub value_at : {b : _} → Option (Running NoNative b) → (unit : ℕ) → (slot : List ℕ) → Option Value
value_at r n slot = option_and_then (λ seen. value_in seen n slot) (sight_in r)

abbrev pub label_name_at : {b : _} → Option (Running NoNative b) → (unit : ℕ) → (slot : List ℕ) → Option (List ℕ)
label_name_at r n slot = option_and_then (λ seen. option_and_then (label_name_of seen) (value_in seen n slot)) (sight_in r)

abbrev pub partners_at : {b : _} → Option (Running NoNative b) → (unit : ℕ) → (slot : List ℕ) → Option (List ℕ)
partners_at r n slot = option_and_then (λ seen. partners_in seen n slot) (sight_in r)

abbrev pub units_at : {b : _} → Option (Running NoNative b) → (class : List ℕ) → Option (List ℕ)
units_at r class = option_and_then (λ seen. units_of seen class) (sight_in r)

abbrev pub members_at : {b : _} → Option (Running NoNative b) → (space : List ℕ) → Option (List ℕ)
members_at r space = option_and_then (λ seen. members_of seen space) (sight_in r)

abbrev pub kind_at : {b : _} → Option (Running NoNative b) → (unit : ℕ) → (slot : List ℕ) → Option SlotKind
kind_at r n slot = option_and_then (λ seen. kind_in seen n slot) (sight_in r)

abbrev pub document_at : {b : _} → Option (Running NoNative b) → Option (List ℕ)
document_at r = option_map units_text (sight_in r)

-- ---- what is due

-- the unit for which a native is due, and the native's name, which is its source's
abbrev pub due_by : Plan → Pause → Option (ℕ × List ℕ)
due_by plan (Due a) = option_map (λ source. (a.unit, source.name)) (slice_get plan.sources a.source)
due_by plan pause = None

abbrev pub due_in : {b : _} → Option (Running NoNative b) → Option (ℕ × List ℕ)
due_in None = None
due_in (Some r) = due_by r.plan r.pause
