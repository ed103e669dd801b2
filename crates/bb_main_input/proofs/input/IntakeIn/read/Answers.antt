use Rattle.bb_main_input.proofs.ReadLemmas.{keeps-consumes}
use Rattle.bb_main_input.proofs.input.IntakeIn.read.Goals as goal

pub returns-in-Ok-clause-bytes : goal.returns-in-Ok-clause-bytes
returns-in-Ok-clause-bytes g c = keeps-consumes (g.R.Read.remaining c.args.self.now.reader) (g.R.Read.remaining c.loop.self.reader) _ _ c.loop.invariant.kept c.in-Ok.ensures.bytes.0
