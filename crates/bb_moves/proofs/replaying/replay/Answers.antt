use Rattle.std.proofs.Common.{map, subst}
use Rattle.std.proofs.lemmas.Result.{err_from_is_err_and}
use Rattle.bb_run_held.specs.Making.{Begins, stands}
use Rattle.bb_run_held.specs.Moves.{played, started}
use Rattle.bb_shell.specs.Seen.{seen}
use Rattle.bb_moves.specs.Meant.{meant}
use Rattle.bb_moves.proofs.PlayLemmas.{start_cut, then_begun}
use Rattle.bb_moves.proofs.replaying.replay.Goals as goal

pub returns-in_err-running-clause-begun : goal.returns-in_err-running-clause-begun
returns-in_err-running-clause-begun g c =
    let p = err_from_is_err_and c.from_residual.result c.from_residual.ensures.1 in
    let plan = c.args.shell.plan in
    let start = started plan c.args.shell.board (map g.N.NativeSource.meaning c.args.shell.roster.natives.items) in
    rw (p.1, p.2) (start_cut plan start (map meant c.args.moves.items) (g.O.Out.taken c.args.out.now) (g.O.Out.taken c.of_shell.new.out) c.in_err-running.field-0.0 c.in_err-running.ensures.begun)

pub returns-clause-begun : goal.returns-clause-begun
returns-clause-begun g c =
    let plan = c.args.shell.plan in
    let meaning = g.N.NativeSource.meaning in
    let taken = g.O.Out.taken in
    let start = started plan c.args.shell.board (map meaning c.args.shell.roster.natives.items) in
    let moves = map meant c.args.moves.items in
    let begun = c.in_ok-running.running in
    let t = stands (seen meaning begun.state) begun.made begun.pause in
    let made : Begins plan (played plan moves t) (λ r. stands (seen meaning r.state) r.made r.pause) (taken c.of_shell.new.out) (taken c.go_on.new.out) c.go_on.result =
    subst (λ p. Begins p (played p moves t) (λ r. stands (seen meaning r.state) r.made r.pause) (taken c.of_shell.new.out) (taken c.go_on.new.out) c.go_on.result) c.in_ok-running.ensures.kept.0 c.go_on.ensures.begun in
    then_begun plan start moves t (taken c.args.out.now) (taken c.of_shell.new.out) (taken c.go_on.new.out) (λ r. stands (seen meaning r.state) r.made r.pause) c.go_on.result c.in_ok-running.ensures.begun.0 c.in_ok-running.ensures.begun.1 made
