use Rattle.std.proofs.Common.{[], ◌++◌, List, Ok, Some, ap, map, subst, ℕ, ◌∙◌}
use Rattle.bb_moves.specs.Meant.{meant, replayed}
use Rattle.bb_run_held.specs.Making.{Begins}
use Rattle.bb_run_held.specs.Moves.{started}
use Rattle.bb_shell.specs.Native.{Native}
use Rattle.bb_shell.specs.TraceText.{trace_text}
use Rattle.bb_c_run.specs.Sitting.{standing, unread}
use Rattle.bb_c_run.proofs.held.history.replayed.Goals as goal

pub returns-in-Ok-clause-resumed : goal.returns-in-Ok-clause-resumed
returns-in-Ok-clause-resumed c =
    let s = c.args.shell in let r = c.in-Ok.running in let moves = map meant c.args.moves.items in
    let begins = subst (λ (ns : List Native). Begins s.plan (replayed s.plan (started s.plan s.board ns) moves) standing (Some (unread c.new-trace.result)) (Some (unread c.replay_hosted.new.out)) (Ok r)) c.requires c.in-Ok.ensures.begun in
    let told = begins.1 ∙ ap (λ (before : List ℕ). before ++ trace_text s.plan (replayed s.plan (started s.plan s.board []) moves).emitted) c.new-trace.ensures.none in
    ((c.in-Ok.ensures.kept.0, begins.0, c.in-Ok.ensures.kept.1), told, c.new.ensures.items)
