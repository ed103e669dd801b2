-- The number of each fault of bytes that are not a code, as refusals have them.
use Rattle.std.proofs.Common.{◌≡◌, refl}
use Rattle.bb_code.specs.declared.fault.CodeFault.TheVariants.{Magic, Version, Short, Opcode, Operand, Limit}
use Rattle.bb_code.specs.declared.fault.CodeFault.TheVariants.{Trailing, Memory}
use Rattle.bb_code.specs.CodeFault.{fault_number}

magic : fault_number Magic ≡ 1
magic = refl

version : fault_number Version ≡ 2
version = refl

short : fault_number Short ≡ 3
short = refl

opcode : fault_number Opcode ≡ 4
opcode = refl

operand : fault_number Operand ≡ 5
operand = refl

limit : fault_number Limit ≡ 6
limit = refl

trailing : fault_number Trailing ≡ 7
trailing = refl

memory : fault_number Memory ≡ 8
memory = refl
