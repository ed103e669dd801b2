-- The number of each fault of a pattern.
use Rattle.std.proofs.Common.{◌≡◌, refl}
use Rattle.bb_pattern.specs.declared.fault.PatternFault.TheVariants.{Dimension, Operand, Space, Limit}
use Rattle.bb_pattern.specs.Faults.{fault_number}

dimension : fault_number Dimension ≡ 1
dimension = refl

operand : fault_number Operand ≡ 2
operand = refl

space : fault_number Space ≡ 3
space = refl

limit : fault_number Limit ≡ 4
limit = refl
