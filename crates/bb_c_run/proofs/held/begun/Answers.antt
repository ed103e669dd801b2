use Rattle.std.proofs.Common.{[], ◌++◌, List, Ok, Some, ap, subst, ℕ, ◌∙◌}
use Rattle.bb_run_held.specs.Making.{Begins}
use Rattle.bb_run_held.specs.Moves.{started}
use Rattle.bb_shell.specs.Native.{Native}
use Rattle.bb_shell.specs.TraceText.{trace_text}
use Rattle.bb_c_run.specs.Sitting.{standing, unread}
use Rattle.bb_c_run.proofs.held.begun.Goals as goal

pub returns-in-Ok-clause-begun : goal.returns-in-Ok-clause-begun
returns-in-Ok-clause-begun c =
    let s = c.args.shell in let r = c.in-Ok.running in
    let begins = subst (λ (ns : List Native). Begins s.plan (started s.plan s.board ns) standing (Some (unread c.new-trace.result)) (Some (unread c.of_hosted.new.out)) (Ok r)) c.requires c.in-Ok.ensures.begun in
    let told = begins.1 ∙ ap (λ (before : List ℕ). before ++ trace_text s.plan (started s.plan s.board []).emitted) c.new-trace.ensures.none in
    ((c.in-Ok.ensures.kept.0, begins.0, c.in-Ok.ensures.kept.1), told, c.new.ensures.items)
