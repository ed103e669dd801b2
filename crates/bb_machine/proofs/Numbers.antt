-- The number of each reason why the machine is stuck.
use Rattle.std.proofs.Common.{◌≡◌, refl}
use Rattle.bb_machine.specs.declared.outcome.Stuck.TheVariants.{Missing, Kind, Deleted, LinkClass, Outside, Slot, Turns}
use Rattle.bb_machine.specs.Reasons.{reason_number}

missing : reason_number Missing ≡ 1
missing = refl

kind : reason_number Kind ≡ 2
kind = refl

deleted : reason_number Deleted ≡ 3
deleted = refl

link_class : reason_number LinkClass ≡ 4
link_class = refl

outside : reason_number Outside ≡ 5
outside = refl

slot : reason_number Slot ≡ 6
slot = refl

turns : reason_number Turns ≡ 7
turns = refl
