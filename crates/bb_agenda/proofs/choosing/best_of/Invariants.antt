use Rattle.bb_agenda.specs.proving.Best.{rate_by, BestOf}
use Rattle.bb_agenda.proofs.choosing.best_of.Given as goal

abbrev pub invariant-loop-place : goal.invariant-loop-place
invariant-loop-place l = BestOf (rate_by l.steering) l.orders l.place l.best
