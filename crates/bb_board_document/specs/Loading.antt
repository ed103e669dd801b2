-- The blackboard that loads a text before anything was created.
use Rattle.std.specs.Prelude.{◌≡◌, ℕ, List, Ok}
use Rattle.bb_schema.specs.Schema.{Schema}
use Rattle.bb_board.specs.Load.{load}
use Rattle.bb_board.specs.State.{World}
use Rattle.bb_board.specs.World.{after_take}

-- the text is a document of initial units without a fault, and the blackboard that loads it is w after its notes are
-- taken
abbrev pub LoadsAs : Schema → (text : List ℕ) → World → Type 0
LoadsAs s text w = (v : World) × (load s text ≡ Ok v) × (after_take v ≡ w)
