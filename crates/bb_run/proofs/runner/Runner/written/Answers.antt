use Rattle.std.proofs.Common.{[], refl, subst}
use Rattle.std.proofs.lemmas.Result.{err_from_is_err_and}
use Rattle.bb_run.specs.Emitting.{MakesBy, at, at_page}
use Rattle.bb_run.proofs.emitting.TurnLemmas.{cut_written, emitted_fails, emitted_written}
use Rattle.bb_run.proofs.runner.Runner.written.Goals as goal

pub returns-in_err-flush-in-Ok-clause-writes : goal.returns-in_err-flush-in-Ok-clause-writes
returns-in_err-flush-in-Ok-clause-writes g c =
    let q = err_from_is_err_and c.from_residual.result c.from_residual.ensures.1 in
    let here = at g.O.Out.taken c.args.self.now in
    rw (q.1, q.2) (λ end_of plan start p s made.
    emitted_fails here (g.O.Out.taken c.flush.new.out) c.in-Ok.end here.page c.flush.new.self c.in_err-flush-in-Ok.field-0.0 refl c.in_err-flush-in-Ok.ensures.written end_of plan start p s (subst (MakesBy end_of plan (at_page start []) here p s) c.in-Ok.is made))

pub returns-in_ok-flush-in-Ok-clause-writes : goal.returns-in_ok-flush-in-Ok-clause-writes
returns-in_ok-flush-in-Ok-clause-writes g c = λ end_of plan start p s made.
    let here = at g.O.Out.taken c.args.self.now in
    emitted_written here (g.O.Out.taken c.flush.new.out) c.in-Ok.end c.in_ok-flush-in-Ok.ensures.written.0 end_of plan start p s (subst (MakesBy end_of plan (at_page start []) here p s) c.in-Ok.is made)

pub returns-in-Err-clause-writes : goal.returns-in-Err-clause-writes
returns-in-Err-clause-writes g c = λ end_of plan start p s made.
    let here = at g.O.Out.taken c.args.self.now in
    cut_written here (g.O.Out.taken c.cut_short.new.self.out.now) c.in-Err.halt c.cut_short.result c.cut_short.ensures.cut end_of plan start p s (subst (MakesBy end_of plan (at_page start []) here p s) c.in-Err.is made)
