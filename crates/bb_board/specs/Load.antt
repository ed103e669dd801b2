-- The blackboard that a text means, or the text's first fault: the JSON, its form, then one walk over the units, one
-- over the links, and one over the members of spaces.
use Rattle.std.specs.Prelude.{ℕ, Bool, false, is_some, is_ok, List, find, Option, Some, None, option_map, option_and_then, Result, Ok, Err, if◌then◌else◌}
use Rattle.std.specs.FinMap as map
use Rattle.std.specs.Ordering.{nat_cmp}
use Rattle.std.specs.Cmp.Lexicographic.{slice_cmp}
use Rattle.std.specs.List.{list_all}
use Rattle.std.specs.Option.{option_map_or}
use Rattle.std.specs.Str.{bytes_eq}
use Rattle.bb_basis.specs.Results.{◌>>=◌, ok_or, map_err, try_fold, try_fold_at}
use Rattle.bb_schema_form.specs.UnitsDocument.{GivenDeclaration, UnitDeclaration, FirstLinkDeclaration, MemberDeclaration, units_document_of}
use Rattle.bb_schema_form.specs.UnitsDocument.{ValueDeclaration, int_value, text_value, bool_value, interval_value}
use Rattle.bb_schema_form.specs.declared.fault.DocumentFault.{DocumentFault}
use Rattle.bb_schema_form.specs.declared.fault.DocumentFault.TheVariants as documents
use Rattle.bb_schema_classes.specs.declared.kind.Kind.{Kind as SlotKind}
use Rattle.bb_schema_classes.specs.declared.kind.Kind.TheVariants as kinds
use Rattle.bb_schema_classes.specs.declared.value.Value.{Value}
use Rattle.bb_schema_classes.specs.declared.value.Value.TheVariants as values
use Rattle.bb_schema.specs.Schema.{Schema, class_named, slot_named, space_named, label_named, name_of_slot, kind_of_slot, default_of, slots_of}
use Rattle.bb_units.specs.Units.{is_full}
use Rattle.bb_board.specs.declared.units_fault.UnitsFault.{UnitsFault}
use Rattle.bb_board.specs.declared.units_fault.UnitsFault.TheVariants.{At, Memory}
use Rattle.bb_board.specs.declared.units_fault.UnitsFlaw.TheVariants.{Json, Shape, Twice, Unknown, Kind, Full}
use Rattle.bb_schema_form.specs.declared.place.ListKey.TheVariants as lists
use Rattle.bb_board.specs.State.{World}
use Rattle.bb_board.specs.World.{empty_world, class_at, after_create, after_set}
use Rattle.bb_board.specs.UnitsFaults.{here, inside, of_reason}
use Rattle.bb_board.specs.Links.{after_link}
use Rattle.bb_board.specs.May.{may_set, may_link}
use Rattle.bb_board.specs.Spaces.{may_enter, after_enter}
use Rattle.bb_board.specs.Board.{Board, with_world}

-- a fault of the document's form as a fault of first units
abbrev pub fault_of : DocumentFault → UnitsFault
fault_of documents.Json = here Json
fault_of (documents.Shape place) = At Shape place
fault_of documents.Memory = Memory

-- the walk over the units so far: the units by name, and the blackboard's state
pub record Progress : Type 0 where
  pub names : map.FinMap (slice_cmp nat_cmp) ℕ
  pub world : World

-- before the first entry: no names, and nothing was created
abbrev pub no_progress : Schema → Progress
no_progress s = record { names = map.empty; world = empty_world s }

-- one unit more, if there is room
unfoldable pub with_unit : World → ℕ → Result World UnitsFault
with_unit w class = if is_full w.units then Err (here Full) else Ok (after_create w class)

-- a name is that of an ordinary slot of a class
abbrev pub is_ordinary_in : Schema → ℕ → List ℕ → Bool
is_ordinary_in schema class name =
    option_map_or (λ slot. is_some (default_of schema slot)) (slot_named schema class name) false

-- every value is given for an ordinary slot of a class
abbrev pub are_slots : Schema → ℕ → List GivenDeclaration → Bool
are_slots schema class given = list_all (λ g. is_ordinary_in schema class g.slot) given

-- the first value given for a name
unfoldable pub given_for : List ℕ → List GivenDeclaration → Option ValueDeclaration
given_for name given = option_map (λ g. g.value) (find (λ g. bytes_eq name g.slot) given)

-- a given value as one of a slot's kind, whether the slot can hold it or not: a label is given by its name
unfoldable pub value_in : Schema → SlotKind → ValueDeclaration → Option Value
value_in schema kinds.Int (int_value z) = Some (values.Int z)
value_in schema kinds.Text (text_value t) = Some (values.Text t)
value_in schema kinds.Bool (bool_value b) = Some (values.Bool b)
value_in schema (kinds.Label set) (text_value t) =
    option_map (λ label. values.Label set label) (label_named schema set t)
value_in schema kinds.Interval (interval_value low high) = Some (values.Interval low high)
value_in schema _ _ = None

-- a given value as one of a slot
abbrev pub value_at : Schema → (slot : ℕ) → ValueDeclaration → Option Value
value_at schema slot given = option_and_then (λ kind. value_in schema kind given) (kind_of_slot schema slot)

-- a unit's slot set to the value given for it, if the slot can hold it
unfoldable pub with_value : Schema → (unit : ℕ) → World → (slot : ℕ) → ValueDeclaration → Result World UnitsFault
with_value schema n w slot given = do
  value ← ok_or (value_at schema slot given) (here Kind)
  if is_ok (may_set w n slot value) then Ok (after_set schema w n slot value) else Err (here Kind)

-- a unit's slot set to the value given for it, if one is given
abbrev pub if_given : Schema → (unit : ℕ) → World → (slot : ℕ) → Option ValueDeclaration → Result World UnitsFault
if_given schema n w slot None = Ok w
if_given schema n w slot (Some given) = with_value schema n w slot given

-- the value given for a slot
abbrev pub given_at : Schema → List GivenDeclaration → (slot : ℕ) → Option ValueDeclaration
given_at schema given slot = option_and_then (λ name. given_for name given) (name_of_slot schema slot)

-- a unit after one slot more, in class order
unfoldable pub slot_after : Schema → (unit : ℕ) → List GivenDeclaration → World → (slot : ℕ) → Result World UnitsFault
slot_after schema n given w slot = if_given schema n w slot (given_at schema given slot)

-- a new unit with the values that its entry gives: all are for ordinary slots, and they are set in class order
unfoldable pub with_values : Schema → (unit class : ℕ) → List GivenDeclaration → World → Result World UnitsFault
with_values schema n class given w =
    if are_slots schema class given then try_fold (slot_after schema n given) w (slots_of schema class) else Err (here Unknown)

-- the walk after one more unit, or the fault of its entry
unfoldable pub entry_after : Schema → Progress → UnitDeclaration → Result Progress UnitsFault
entry_after schema so_far entry = if map.contains_key so_far.names entry.name then Err (here Twice) else (do
  class ← ok_or (class_named schema entry.class) (here Unknown)
  created ← with_unit so_far.world class
  world ← with_values schema so_far.world.units.next class entry.slots created
  Ok (record { names = map.insert so_far.names entry.name so_far.world.units.next; world = world }))

-- a blackboard's state after one more link, or the fault of its entry: first a unit or a link slot that does not exist,
-- then a partner that is not of the class that the slot leads to
unfoldable pub link_after : Schema → map.FinMap (slice_cmp nat_cmp) ℕ → World → FirstLinkDeclaration → Result World UnitsFault
link_after schema names w entry = do
  n ← ok_or (map.get names entry.from) (here Unknown)
  m ← ok_or (map.get names entry.to) (here Unknown)
  slot ← ok_or (slot_named schema (class_at w n) entry.slot) (here Unknown)
  allowed ← map_err of_reason (may_link schema w n slot m)
  Ok (after_link schema w n slot m)

-- a blackboard's state after one more unit is in a space, or the fault of its entry: first a unit or a space that does
-- not exist, then a unit of a class that the space does not take
unfoldable pub member_after : Schema → map.FinMap (slice_cmp nat_cmp) ℕ → World → MemberDeclaration → Result World UnitsFault
member_after schema names w entry = do
  n ← ok_or (map.get names entry.unit) (here Unknown)
  space ← ok_or (space_named schema entry.space) (here Unknown)
  allowed ← map_err of_reason (may_enter schema w n space)
  Ok (after_enter schema w n space)

-- the state that a text means: what it makes of a blackboard with no units, first its units, then its links, then the
-- members of its spaces
unfoldable pub load : Schema → List ℕ → Result World UnitsFault
load schema text = do
  declared ← map_err fault_of (units_document_of text)
  units ← try_fold_at (inside lists.Units) (entry_after schema) 0 (no_progress schema) declared.units
  linked ← try_fold_at (inside lists.Links) (link_after schema units.names) 0 units.world declared.links
  try_fold_at (inside lists.Spaces) (member_after schema units.names) 0 linked declared.spaces

-- a blackboard with that state
abbrev pub loaded : Board → List ℕ → Result Board UnitsFault
loaded b text = load b.schema text >>= λ w. Ok (with_world b w)
