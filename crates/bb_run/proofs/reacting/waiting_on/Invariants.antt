use Rattle.bb_agenda.specs.Agenda.{pending_on}
use Rattle.bb_run.proofs.responding.WaitingLemmas.{Finds}
use Rattle.bb_run.proofs.reacting.waiting_on.Given as goal

abbrev pub invariant-loop-number : goal.invariant-loop-number
invariant-loop-number l = Finds (pending_on l.fn.agenda l.fn.place l.fn.unit) l.waiting.items l.number-iterator
