-- The numbers of faults.
use Rattle.std.specs.Prelude.{ℕ}
use Rattle.bb_pattern.specs.declared.fault.PatternFault.{PatternFault}
use Rattle.bb_pattern.specs.declared.fault.PatternFault.TheVariants.{Dimension, Operand, Space, Limit}

abbrev pub fault_number : PatternFault → ℕ
fault_number Dimension = 1
fault_number Operand = 2
fault_number Space = 3
fault_number Limit = 4
