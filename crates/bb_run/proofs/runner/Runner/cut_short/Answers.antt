use Rattle.std.proofs.Common.{subst}
use Rattle.bb_run.specs.Emitting.{EmittedUntil, at}
use Rattle.bb_run.proofs.emitting.WholeLemmas.{given_up}
use Rattle.bb_run.proofs.runner.Runner.cut_short.Goals as goal

pub returns-in-Memory-clause-cut : goal.returns-in-Memory-clause-cut
returns-in-Memory-clause-cut g c = λ plan start segments emitted.
    let here = at g.O.Out.taken c.args.self.now in
    given_up plan start (g.O.Out.taken c.give_up.new.self.out.now) here segments c.give_up.result (subst (EmittedUntil plan start here segments) c.in-Memory.is emitted) c.give_up.ensures.written
