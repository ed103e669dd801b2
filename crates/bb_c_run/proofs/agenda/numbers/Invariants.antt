use Rattle.std.proofs.Common.{◌≡◌, ◌++◌}
use Rattle.bb_agenda.specs.Agenda.{numbers_pending}
use Rattle.bb_c_run.proofs.agenda.numbers.Given as goal

abbrev pub invariant-loop-number : goal.invariant-loop-number
invariant-loop-number l = l.list.items ++ l.number-iterator ≡ numbers_pending l.agenda
