-- The number of each fault of a source, as refusals have them.
use Rattle.std.proofs.Common.{◌≡◌, ℕ, refl}
use Rattle.bb_rules.specs.declared.fault.RuleFault.TheVariants.{Slot, Space, Part, Memory, Class, Twice, Limit, Native}
use Rattle.bb_rules.specs.declared.place.ClassPlace.{ClassPlace}
use Rattle.bb_rules.specs.declared.place.ClausePlace.{ClausePlace}
use Rattle.bb_rules.specs.Faults.{fault_number}

slot : (place : ClausePlace) → fault_number (Slot place) ≡ 1
slot place = refl

space : (place : ClausePlace) → fault_number (Space place) ≡ 2
space place = refl

part : fault_number Part ≡ 3
part = refl

memory : fault_number Memory ≡ 4
memory = refl

class : (place : ClassPlace) → fault_number (Class place) ≡ 5
class place = refl

twice : (place : ℕ) → fault_number (Twice place) ≡ 6
twice place = refl

limit : (place : ℕ) → fault_number (Limit place) ≡ 7
limit place = refl

native : (place : ℕ) → fault_number (Native place) ≡ 8
native place = refl
