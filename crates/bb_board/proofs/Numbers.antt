-- The number of each fault of first units, as refusals have them.
use Rattle.std.proofs.Common.{◌≡◌, refl}
use Rattle.bb_board.specs.declared.units_fault.UnitsFlaw.TheVariants.{Json, Shape, Unknown, Twice, Kind, LinkClass}
use Rattle.bb_board.specs.declared.units_fault.UnitsFlaw.TheVariants.{Space, Full}
use Rattle.bb_board.specs.UnitsFaults.{flaw_number}
use Rattle.bb_board.specs.declared.units_fault.UnitsFault.TheVariants.{Memory}
use Rattle.bb_board.specs.UnitsFaults.{fault_number}

json : flaw_number Json ≡ 1
json = refl

shape : flaw_number Shape ≡ 2
shape = refl

unknown : flaw_number Unknown ≡ 3
unknown = refl

twice : flaw_number Twice ≡ 4
twice = refl

kind : flaw_number Kind ≡ 5
kind = refl

link_class : flaw_number LinkClass ≡ 6
link_class = refl

space : flaw_number Space ≡ 7
space = refl

full : flaw_number Full ≡ 8
full = refl

memory : fault_number Memory ≡ 9
memory = refl
