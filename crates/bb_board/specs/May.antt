-- When a change may be made, or the first reason why not.
use Rattle.std.specs.Prelude.{ℕ, Bool, true, false, not, is_some, nat_lt, ◌==◌, ◌&&◌, ◌||◌, Result, Ok, Err, if◌then◌else◌}
use Rattle.std.specs.Option.{option_map_or}
use Rattle.bb_schema_classes.specs.declared.value.Value.{Value}
use Rattle.bb_schema.specs.Schema.{Schema, owner_of, descends}
use Rattle.bb_schema.specs.Slots.{link_of}
use Rattle.bb_units.specs.Units.{is_live, class_of, has_slot, takes}
use Rattle.bb_board.specs.declared.reason.Reason.{Reason}
use Rattle.bb_board.specs.declared.reason.Reason.TheVariants.{Deleted, Slot, Kind, LinkClass, Space}
use Rattle.bb_board.specs.State.{World}
use Rattle.bb_board.specs.World.{class_at}

-- the numbers of the reasons
abbrev pub reason_number : Reason → ℕ
reason_number Deleted = 1
reason_number Slot = 2
reason_number Kind = 3
reason_number LinkClass = 4
reason_number Space = 5

-- a class has a slot: it is the one that declares the slot, or below it
abbrev pub class_has : Schema → (class slot : ℕ) → Bool
class_has s class slot = option_map_or (λ owner. descends s class owner) (owner_of s slot) false

-- a slot is a link slot that a class has
abbrev pub has_link : Schema → (class slot : ℕ) → Bool
has_link s class slot = is_some (link_of s.slots slot) && class_has s class slot

-- a slot is a link slot that leads to units of a class
abbrev pub leads_to : Schema → (slot class : ℕ) → Bool
leads_to s slot class = option_map_or (λ l. descends s class l.to) (link_of s.slots slot) false

-- a unit's slot may hold a value: the unit is live, the slot is an ordinary one of its class, and it can hold the value
abbrev pub may_set : World → (unit slot : ℕ) → Value → Result (Unit {0}) Reason
may_set w n slot value =
    if not (is_live w.units n) then Err Deleted
    else if not (has_slot w.units n slot) then Err Slot
    else if not (takes w.units n slot value) then Err Kind
    else Ok tt

-- a unit may be linked to another by a slot: both are live, the slot is a link slot of the unit's class, and the
-- other's class is the one that the slot leads to, or below it
abbrev pub may_link : Schema → World → (unit slot partner : ℕ) → Result (Unit {0}) Reason
may_link s w n slot m =
    if not (is_live w.units n && is_live w.units m) then Err Deleted
    else if not (has_link s (class_at w n) slot) then Err Slot
    else if not (leads_to s slot (class_at w m)) then Err LinkClass
    else Ok tt

-- a number is 0, or was given to a unit that, if it is still live, is of the class or one below it
abbrev pub was : Schema → World → (unit class : ℕ) → Bool
was s w n class =
    n == 0 || (nat_lt n w.units.next && option_map_or (λ c. descends s c class) (class_of w.units n) true)
