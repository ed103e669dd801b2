-- Units on the blackboard, as texts refer to them.
use Rattle.std.specs.Prelude.{ℕ, List, Ok, if◌then◌else◌}
use Rattle.bb_basis.specs.Results.{◌>>=◌, ok_or}
use Rattle.bb_schema.specs.Schema.{slot_named}
use Rattle.bb_links.specs.Links.{ends}
use Rattle.bb_lang.specs.Variable.{Variable}
use Rattle.bb_compile_scope.specs.Scope.{name_of}
use Rattle.bb_board.specs.Board.{Board}
use Rattle.bb_units.specs.Units.{is_live, value_of}
use Rattle.bb_board.specs.World.{class_at}
use Rattle.bb_machine.specs.Value.{value_from}
use Rattle.bb_machine.specs.declared.value.Value.{Value}
use Rattle.bb_theorem_meaning.specs.Meaning.{Meaning, Name, meaningless, nothing, named}
use Rattle.bb_theorem_meaning.specs.Values.{unit}

-- the unit of a name, which may have been deleted
abbrev pub unit_of : List Name → Variable → Meaning ℕ
unit_of names v = named (name_of v) names >>= unit

-- a unit, which must be live
abbrev pub live : Board → ℕ → Meaning ℕ
live b n = if is_live b.world.units n then Ok n else nothing

-- the unit that a value is, which must be live
abbrev pub live_value : Board → Value → Meaning ℕ
live_value b v = unit v >>= live b

abbrev pub live_unit : Board → List Name → Variable → Meaning ℕ
live_unit b names v = unit_of names v >>= live b

-- the slot with a name of a unit's class
abbrev pub slot_of : Board → (unit : ℕ) → (name : List ℕ) → Meaning ℕ
slot_of b n name = ok_or (slot_named b.schema (class_at b.world n) name) meaningless

-- the value that a unit has in a slot
unfoldable pub value_in : Board → List Name → Variable → (slot : List ℕ) → Meaning Value
value_in b names v name = do
  n ← live_unit b names v
  slot ← slot_of b n name
  value ← ok_or (value_of b.world.units n slot) meaningless
  Ok (value_from value)

-- the units that a unit is linked to, in order of addition
unfoldable pub linked_units : Board → List Name → Variable → (slot : List ℕ) → Meaning (List ℕ)
linked_units b names v name = do
  n ← live_unit b names v
  slot ← slot_of b n name
  Ok (ends b.world.links n slot)
