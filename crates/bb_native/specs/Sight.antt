-- The view that a native has of a blackboard: its schema and its state, without its notes.
use Rattle.bb_schema.specs.Schema.{Schema}
use Rattle.bb_board.specs.State.{World}
use Rattle.bb_board.specs.World.{after_take}
use Rattle.bb_board.specs.Board.{Board}

pub record Sight : Type 0 where
  pub schema : Schema
  pub world : World

-- the view of a blackboard
abbrev pub sight_of : Board → Sight
sight_of b = record { schema = b.schema; world = after_take b.world }
