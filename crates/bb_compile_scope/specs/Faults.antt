-- The numbers of the faults of sources in the compiler.
use Rattle.std.specs.Prelude.{ℕ, nat_lt, Option, Some, None, if◌then◌else◌}
use Rattle.bb_compile_scope.specs.declared.fault.TextFlaw.{TextFlaw}
use Rattle.bb_compile_scope.specs.declared.fault.TextFlaw.TheVariants.{Unknown, Kind, DeadName, LinkClass, Space, Effect, NoEnd, Limit}
use Rattle.bb_compile_scope.specs.declared.fault.CompileFault.{CompileFault}
use Rattle.bb_compile_scope.specs.declared.fault.CompileFault.TheVariants.{At, Memory}

-- the number of a flaw
abbrev pub flaw_number : TextFlaw → ℕ
flaw_number Unknown = 1
flaw_number Kind = 2
flaw_number DeadName = 3
flaw_number LinkClass = 4
flaw_number Space = 5
flaw_number Effect = 6
flaw_number NoEnd = 7
flaw_number Limit = 8

-- of the flaws seen so far and another one, the one with the lowest number
unfoldable pub lowest : Option TextFlaw → TextFlaw → TextFlaw
lowest None flaw = flaw
lowest (Some first) flaw = if nat_lt (flaw_number first) (flaw_number flaw) then first else flaw

-- the number of a fault
abbrev pub fault_number : CompileFault → ℕ
fault_number (At flaw place) = flaw_number flaw
fault_number Memory = 9
