-- The number of each flaw of a code, as refusals have them.
use Rattle.std.proofs.Common.{◌≡◌, refl}
use Rattle.bb_code.specs.declared.flaw.Flaw.TheVariants.{Table, Jump, Loop, Frame, Depth, Kind, Dead, Slot, LinkClass}
use Rattle.bb_code.specs.declared.flaw.Flaw.TheVariants.{Space, Query, Effect, End, Memory}
use Rattle.bb_code.specs.Flaws.{fault_number}

table : fault_number Table ≡ 1
table = refl

jump : fault_number Jump ≡ 2
jump = refl

loop : fault_number Loop ≡ 3
loop = refl

frame : fault_number Frame ≡ 4
frame = refl

depth : fault_number Depth ≡ 5
depth = refl

kind : fault_number Kind ≡ 6
kind = refl

dead : fault_number Dead ≡ 7
dead = refl

slot : fault_number Slot ≡ 8
slot = refl

link_class : fault_number LinkClass ≡ 9
link_class = refl

space : fault_number Space ≡ 10
space = refl

query : fault_number Query ≡ 11
query = refl

effect : fault_number Effect ≡ 12
effect = refl

end : fault_number End ≡ 13
end = refl

memory : fault_number Memory ≡ 14
memory = refl
