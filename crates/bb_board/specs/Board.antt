-- A blackboard (Hayes-Roth, 1985): its schema, its state, and whether a change was refused memory. After that every
-- change is refused.
use Rattle.std.specs.Prelude.{Bool, true, false, if◌then◌else◌}
use Rattle.bb_schema.specs.Schema.{Schema}
use Rattle.bb_units.specs.declared.fault.CreateFault.{CreateFault}
use Rattle.bb_units.specs.declared.fault.CreateFault.TheVariants as creates
use Rattle.bb_board.specs.declared.units_fault.UnitsFault.{UnitsFault}
use Rattle.bb_board.specs.State.{World}
use Rattle.bb_board.specs.UnitsFaults.{is_memory}
use Rattle.bb_board.specs.World.{empty_world, is_fresh as is_fresh_world}

pub record Board : Type 0 where
  pub schema : Schema
  pub world : World
  pub refused : Bool

-- a blackboard before anything was created
abbrev pub new_board : Schema → Board
new_board s = record { schema = s; world = empty_world s; refused = false }

-- a blackboard with another state
abbrev pub with_world : Board → World → Board
with_world b w = record { schema = b.schema; world = w; refused = b.refused }

-- a blackboard after a change was refused memory
abbrev pub when_refused : Board → Board
when_refused b = record { schema = b.schema; world = b.world; refused = true }

-- after a unit could not be created
abbrev pub after_create_fault : Board → CreateFault → Board
after_create_fault b creates.Full = b
after_create_fault b creates.Memory = when_refused b

-- after a document of first units was refused
abbrev pub after_units_fault : Board → UnitsFault → Board
after_units_fault b fault = if is_memory fault then when_refused b else b

-- nothing was created, and no note is left to take
abbrev pub is_fresh : Board → Bool
is_fresh b = is_fresh_world b.world
