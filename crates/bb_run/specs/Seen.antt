-- How the definitions see the state of the run's code.
use Rattle.std.specs.Prelude.{map}
use Rattle.bb_trace.specs.Native.{Native}
use Rattle.bb_run.specs.State.{State}
use Rattle.bb_run.specs.declared.state.State.{State as Held}

-- the state as the definitions see it: natives by what they mean
abbrev pub seen : {N : Type 0} {b : _} → (N → Native) → Held N b → State
seen meaning s = record { board = s.board; agenda = s.agenda; natives = map meaning s.roster.natives.items }
