-- The numbers in traces for why an execution could not continue.
use Rattle.std.specs.Prelude.{ℕ}
use Rattle.bb_machine.specs.declared.outcome.Stuck.{Stuck}
use Rattle.bb_machine.specs.declared.outcome.Stuck.TheVariants.{Missing, Kind, Deleted, LinkClass, Outside, Slot, Turns}

abbrev pub reason_number : Stuck → ℕ
reason_number Missing = 1
reason_number Kind = 2
reason_number Deleted = 3
reason_number LinkClass = 4
reason_number Outside = 5
reason_number Slot = 6
reason_number Turns = 7
