-- The number of each refusal of an ask, as the trace has them.
use Rattle.std.proofs.Common.{◌≡◌, refl}
use Rattle.bb_native.specs.declared.refusal.Refusal.TheVariants.{Deleted, Slot, Kind, LinkClass, Space, Class}
use Rattle.bb_native.specs.Refusals.{refusal_number}

deleted : refusal_number Deleted ≡ 1
deleted = refl

slot : refusal_number Slot ≡ 2
slot = refl

kind : refusal_number Kind ≡ 3
kind = refl

link_class : refusal_number LinkClass ≡ 4
link_class = refl

space : refusal_number Space ≡ 5
space = refl

class : refusal_number Class ≡ 6
class = refl
