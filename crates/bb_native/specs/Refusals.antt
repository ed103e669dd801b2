-- Why asks are not applied: the numbers of refusals, and the denials for reasons and faults of the blackboard.
use Rattle.std.specs.Prelude.{ℕ}
use Rattle.bb_units.specs.declared.fault.CreateFault.{CreateFault}
use Rattle.bb_units.specs.declared.fault.CreateFault.TheVariants as creates
use Rattle.bb_board.specs.declared.reason.Reason.{Reason}
use Rattle.bb_board.specs.declared.reason.Reason.TheVariants as reasons
use Rattle.bb_native.specs.declared.refusal.Refusal.{Refusal}
use Rattle.bb_native.specs.declared.refusal.Refusal.TheVariants.{Deleted, Slot, Kind, LinkClass, Space, Class}
use Rattle.bb_native.specs.declared.denial.Denial.{Denial}
use Rattle.bb_native.specs.declared.denial.Denial.TheVariants.{Refused, Full, Memory}

-- the numbers of the refusals
abbrev pub refusal_number : Refusal → ℕ
refusal_number Deleted = 1
refusal_number Slot = 2
refusal_number Kind = 3
refusal_number LinkClass = 4
refusal_number Space = 5
refusal_number Class = 6

-- the refusal of an ask for a change that may not be made
abbrev pub refusal_of : Reason → Refusal
refusal_of reasons.Deleted = Deleted
refusal_of reasons.Slot = Slot
refusal_of reasons.Kind = Kind
refusal_of reasons.LinkClass = LinkClass
refusal_of reasons.Space = Space

-- the denial of an ask for a change that may not be made
abbrev pub denial_of : Reason → Denial
denial_of reason = Refused (refusal_of reason)

-- the denial of an ask for a unit that could not be created
abbrev pub denial_of_create : CreateFault → Denial
denial_of_create creates.Full = Full
denial_of_create creates.Memory = Memory
