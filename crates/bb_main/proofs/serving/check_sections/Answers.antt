-- The lines of a check are one piece of the answer.
use Rattle.std.proofs.Common.{map}
use Rattle.bb_shell.specs.Check.{sources_in}
use Rattle.bb_shell.specs.Fitting.{native_names}
use Rattle.bb_main.proofs.ServeLemmas.{served_check}
use Rattle.bb_main.proofs.serving.check_sections.Goals as goal

pub returns-in-Ok-clause-answer : goal.returns-in-Ok-clause-answer
returns-in-Ok-clause-answer g c =
    (served_check (sources_in (native_names (map g.N.NativeSource.meaning c.args.natives.items)) c.args.sections.schema.now c.args.sections.sources.now c.args.sections.bundle.now) c.in-Ok.checked.done c.advise.result.status
    (g.O.Out.taken c.args.writer.now) (g.O.Out.taken c.check_sources.new.out) c.advise.ensures.status c.in-Ok.ensures.text)
