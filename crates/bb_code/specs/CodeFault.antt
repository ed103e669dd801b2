-- The faults of bytes that are not a code.
use Rattle.std.specs.Prelude.{ℕ}
use Rattle.bb_code.specs.declared.fault.CodeFault.{CodeFault}
use Rattle.bb_code.specs.declared.fault.CodeFault.TheVariants.{Magic, Version, Short, Opcode, Operand, Limit, Trailing}
use Rattle.bb_code.specs.declared.fault.CodeFault.TheVariants.{Memory}

-- the number of each fault in refusals
abbrev pub fault_number : CodeFault → ℕ
fault_number Magic = 1
fault_number Version = 2
fault_number Short = 3
fault_number Opcode = 4
fault_number Operand = 5
fault_number Limit = 6
fault_number Trailing = 7
fault_number Memory = 8
