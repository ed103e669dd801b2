use Rattle.std.proofs.Common.{refl}
use Rattle.bb_main.specs.Natives.{program_natives}
use Rattle.bb_main.specs.declared.serving.TheConstants.{MEMORY}
use Rattle.bb_main.proofs.ServeLemmas.{serves-nothing}
use Rattle.bb_main.proofs.serving.program.Goals as goal

pub returns-in_default-clause-answer : goal.returns-in_default-clause-answer
returns-in_default-clause-answer g c =
    rw c.requires.reader (serves-nothing program_natives c.args.options.mode c.args.options.limit c.args.options.floor (g.R.In.remaining c.args.reader.now) (g.O.Out.taken c.args.writer.now) MEMORY refl)
