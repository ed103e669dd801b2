-- The state of a run, and a state with one part of it changed.
use Rattle.std.specs.Prelude.{List}
use Rattle.bb_trace.specs.Board.{Board}
use Rattle.bb_trace.specs.Native.{Native}
use Rattle.bb_agenda.specs.Agenda.{Agenda}

pub record State : Type 0 where
  pub board : Board
  pub agenda : Agenda
  -- the natives, in the order in which they were handed in
  pub natives : List Native

-- the state with another blackboard
abbrev pub with_board : State → Board → State
with_board s board = record s { board = board }

-- the state with another agenda
abbrev pub with_agenda : State → Agenda → State
with_agenda s agenda = record s { agenda = agenda }

-- the state with natives after calls
abbrev pub with_natives : State → List Native → State
with_natives s natives = record s { natives = natives }
