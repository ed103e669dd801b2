-- The number of each flaw of a history, and the fault of a line.
use Rattle.std.specs.Prelude.{ℕ, ◌+◌}
use Rattle.bb_moves.specs.declared.fault.MovesFlaw.{MovesFlaw}
use Rattle.bb_moves.specs.declared.fault.MovesFlaw.TheVariants.{Word, Place, Name, Number, Value, Label, End}
use Rattle.bb_moves.specs.declared.fault.MovesFault.{MovesFault}
use Rattle.bb_moves.specs.declared.fault.MovesFault.TheVariants.{At, Memory}
use Rattle.bb_moves.specs.declared.fault.Slip.{Slip}
use Rattle.bb_moves.specs.declared.fault.Slip.TheVariants as slips

abbrev pub flaw_number : MovesFlaw → ℕ
flaw_number Word = 1
flaw_number Place = 2
flaw_number Name = 3
flaw_number Number = 4
flaw_number Value = 5
flaw_number Label = 6
flaw_number End = 7

-- the fault of a line that has `before` lines before it; lines count from 1
abbrev pub fault_at : (before : ℕ) → Slip → MovesFault
fault_at before (slips.Flaw flaw) = At (before + 1) flaw
fault_at before slips.Memory = Memory
