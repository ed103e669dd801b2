-- The flaws of a code, and their numbers in refusals.
use Rattle.std.specs.Prelude.{ℕ}
use Rattle.bb_code.specs.declared.flaw.Flaw.{Flaw}
use Rattle.bb_code.specs.declared.flaw.Flaw.TheVariants.{Table, Jump, Loop, Frame, Depth, Kind, Dead, Slot, LinkClass}
use Rattle.bb_code.specs.declared.flaw.Flaw.TheVariants.{Space, Query, Effect, End, Memory}
use Rattle.bb_code.specs.declared.flaw.VerifyFault.{VerifyFault}

abbrev pub fault_number : Flaw → ℕ
fault_number Table = 1
fault_number Jump = 2
fault_number Loop = 3
fault_number Frame = 4
fault_number Depth = 5
fault_number Kind = 6
fault_number Dead = 7
fault_number Slot = 8
fault_number LinkClass = 9
fault_number Space = 10
fault_number Query = 11
fault_number Effect = 12
fault_number End = 13
fault_number Memory = 14

-- a flaw at a place
abbrev pub fault_at : ℕ → Flaw → VerifyFault
fault_at place flaw = record { place = place; flaw = flaw }

-- a call ran out of memory, which says nothing about the code
abbrev pub out_of_memory : VerifyFault
out_of_memory = fault_at 0 Memory
