-- The units: which numbers are live, of which class, and with which values (GBBopen Reference Manual, unit instances).
use Rattle.std.specs.Prelude.{ℕ, ◌+◌, ◌^◌, Bool, false, ◌==◌, ◌&&◌, ◌||◌, is_some, nat_le, List, Option}
use Rattle.std.specs.Prelude.{option_and_then, option_map, Result, Ok, Err, if◌then◌else◌}
use Rattle.std.specs.List.{list_any}
use Rattle.std.specs.Option.{option_map_or}
use Rattle.std.specs.Ordering.{nat_cmp}
use Rattle.std.specs.FinMap as map
use Rattle.bb_schema_classes.specs.declared.value.Value.{Value}
use Rattle.bb_units.specs.declared.fault.CreateFault.{CreateFault}
use Rattle.bb_units.specs.declared.fault.CreateFault.TheVariants.{Full}
use Rattle.bb_units.specs.declared.unit.Unit.{Unit}
use Rattle.bb_units.specs.declared.units.TheConstants.{UNIT_LIMIT}
use Rattle.bb_units.specs.Values.{value_at, with_value}
use Rattle.bb_units.specs.Layout.{Layout, slots_of, default_at, can_hold, blank}

pub record Units : Type 0 where
  -- the number that the next unit gets; numbers begin at 1
  pub next : ℕ
  -- each live unit under its number: its class and the values of its slots
  pub units : map.FinMap nat_cmp Unit
  -- which slots the units of each class have
  pub layout : Layout

-- the units in a list of entries
abbrev pub units_of : List (ℕ × Unit) → map.FinMap nat_cmp Unit
units_of entries = map.from_entries entries

-- no units yet
abbrev pub no_units : Layout → Units
no_units l = record { next = 1; units = map.empty; layout = l }

-- whether the number names a live unit
abbrev pub is_live : Units → ℕ → Bool
is_live u n = map.contains_key u.units n

-- the numbers of the live units, ascending
abbrev pub live_units : Units → List ℕ
live_units u = map.keys u.units

-- the class of a unit
abbrev pub class_of : Units → ℕ → Option ℕ
class_of u n = option_map (λ x. x.class) (map.get u.units n)

-- the value of a slot of a unit, if the unit is live and has the slot
abbrev pub value_among : map.FinMap nat_cmp Unit → ℕ → ℕ → Option Value
value_among m n slot = option_and_then (λ x. value_at x.values slot) (map.get m n)

abbrev pub value_of : Units → ℕ → ℕ → Option Value
value_of u n slot = value_among u.units n slot

-- whether the unit is live, and the slot is an ordinary slot of its class
abbrev pub has_slot : Units → ℕ → ℕ → Bool
has_slot u n slot =
    option_map_or
    (λ x. list_any (λ s. s == slot) (slots_of u.layout x.class) && is_some (default_at u.layout.defaults slot))
    (map.get u.units n) false

-- whether the unit is live and has the ordinary slot, and the slot can hold the value
abbrev pub takes : Units → ℕ → ℕ → Value → Bool
takes u n slot value = is_some (value_of u n slot) && can_hold u.layout slot value

-- whether no unit can be created: the maximum are live, or the last number was given out
abbrev pub is_full : Units → Bool
is_full u = nat_le UNIT_LIMIT (map.len u.units) || nat_le (2 ^ 63) u.next

-- the number of a new unit, if one can be created
abbrev pub next_number : Units → Result ℕ CreateFault
next_number u = if is_full u then Err Full else Ok u.next

-- a unit of a class, with each slot at its default
abbrev pub new_unit : Layout → ℕ → Unit
new_unit l class = record { class = class; values = blank l class }

-- the units with a new one, under the next number
abbrev pub after_create : Units → ℕ → Units
after_create u class =
    record { next = u.next + 1; units = map.insert u.units u.next (new_unit u.layout class); layout = u.layout }

-- the units without a deleted one
abbrev pub after_delete : Units → ℕ → Units
after_delete u n = record { next = u.next; units = map.remove u.units n; layout = u.layout }

-- a unit with another value in a slot
abbrev pub with_slot : Unit → ℕ → Value → Unit
with_slot x slot value = record { class = x.class; values = with_value x.values slot value }

-- units with another value in a slot of one
abbrev pub with_value_of : map.FinMap nat_cmp Unit → ℕ → ℕ → Value → map.FinMap nat_cmp Unit
with_value_of m n slot value = option_map_or (λ x. map.insert m n (with_slot x slot value)) (map.get m n) m

-- the units with another value in a slot of one
abbrev pub after_set : Units → ℕ → ℕ → Value → Units
after_set u n slot value = record { next = u.next; units = with_value_of u.units n slot value; layout = u.layout }
