-- The invariant of the units.
use Rattle.std.specs.Prelude.{◌≡◌, ℕ, length, ◌<◌, ◌≤◌, ◌^◌, true, Some, IsTrue}
use Rattle.std.specs.FinMap as map
use Rattle.std.specs.Map.{keys_of}
use Rattle.bb_schema_classes.specs.declared.value.Value.{Value}
use Rattle.bb_units.specs.declared.unit.Unit.{Unit}
use Rattle.bb_units.specs.Values.{value_at}
use Rattle.bb_units.specs.Layout.{Layout, default_at, can_hold, blank}
use Rattle.bb_units.specs.Units.{Units, is_live}
use Rattle.bb_units.specs.declared.units.TheConstants.{UNIT_LIMIT}

-- every ordinary slot can hold its default
abbrev pub HoldsDefaults : Layout → Type 0
HoldsDefaults l = (slot : ℕ) (value : Value) → default_at l.defaults slot ≡ Some value → IsTrue (can_hold l slot value)

-- the class of the unit exists, and the unit has exactly the ordinary slots of its class, in class order, each with a
-- value that it can hold
pub record IsUnitOf (l : Layout) (x : Unit) : Type 0 where
  pub class : x.class < length l.slots
  pub slots : keys_of x.values ≡ keys_of (blank l x.class)
  pub values : (slot : ℕ) (value : Value) → value_at x.values slot ≡ Some value → IsTrue (can_hold l slot value)

pub record Fits (u : Units) : Type 0 where
  -- live units have numbers above 0 and below the next one
  pub numbers : (n : ℕ) → is_live u n ≡ true → (0 < n) × (n < u.next)
  pub begun : 0 < u.next
  pub last : u.next ≤ 2 ^ 63
  pub few : map.len u.units ≤ UNIT_LIMIT
  -- the initial values of new units
  pub defaults : HoldsDefaults u.layout
  pub units : (n : ℕ) (x : Unit) → map.get u.units n ≡ Some x → IsUnitOf u.layout x
