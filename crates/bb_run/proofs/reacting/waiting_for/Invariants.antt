use Rattle.bb_agenda.specs.Agenda.{pending_for}
use Rattle.bb_run.proofs.responding.WaitingLemmas.{Finds}
use Rattle.bb_run.proofs.reacting.waiting_for.Given as goal

abbrev pub invariant-loop-number : goal.invariant-loop-number
invariant-loop-number l = Finds (pending_for l.fn.agenda l.fn.place) l.waiting.items l.number-iterator
