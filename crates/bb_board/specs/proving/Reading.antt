-- The loader's walk so far, as definitions see it.
use Rattle.bb_board.specs.declared.loader.Progress.{Progress as Walk}
use Rattle.bb_board.specs.Load.{Progress}

-- the names so far, and the state of the blackboard
abbrev pub progress_of : Walk → Progress
progress_of walk = record { names = walk.names; world = walk.board.world }
