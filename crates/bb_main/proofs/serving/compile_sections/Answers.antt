-- The bundle is one piece of the answer.
use Rattle.bb_shell.specs.Compile.{bundle_in}
use Rattle.bb_main.proofs.ServeLemmas.{served_compile}
use Rattle.bb_main.proofs.serving.compile_sections.Goals as goal

pub returns-in-Ok-clause-answer : goal.returns-in-Ok-clause-answer
returns-in-Ok-clause-answer g c =
    rw c.quiet.ensures.status (served_compile (bundle_in c.args.sections.schema.now c.args.sections.sources.now) c.in-Ok.done c.done_status.result
    (g.O.Out.taken c.args.writer.now) (g.O.Out.taken c.compile_texts.new.out) c.done_status.ensures c.in-Ok.ensures.text)
