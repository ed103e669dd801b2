use Rattle.bb_run.proofs.keeping.ReadLemmas.{plan_reads}
use Rattle.bb_run.proofs.whole.first_agenda.Goals as goal

pub returns-clause-may : goal.returns-clause-may
returns-clause-may c = record { reading = plan_reads c.args.plan.now c.sources.ensures.sound; given = λ n live. (c.fits.ensures.units.numbers n live).1 }
