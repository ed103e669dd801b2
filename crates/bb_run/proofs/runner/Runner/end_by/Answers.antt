use Rattle.std.proofs.Common.{[], subst}
use Rattle.bb_run.specs.Emitting.{Finishes, at, at_page}
use Rattle.bb_run.proofs.emitting.WholeLemmas.{cut_ends, made_ends}
use Rattle.bb_run.proofs.runner.Runner.end_by.Goals as goal

pub returns-in-Ok-clause-ends : goal.returns-in-Ok-clause-ends
returns-in-Ok-clause-ends g c = λ start p s closes made.
    let here = at g.O.Out.taken c.args.self.now in
    made_ends c.args.plan.now here (g.O.Out.taken c.conclude.new.self.out.now) start p s c.args.closed c.in-Ok.end c.conclude.result closes (subst (Finishes c.args.plan.now (at_page start []) here p s) c.in-Ok.is made) c.conclude.ensures.concludes c.conclude.ensures.end

pub returns-in-Err-clause-ends : goal.returns-in-Err-clause-ends
returns-in-Err-clause-ends g c = λ start p s closes made.
    let here = at g.O.Out.taken c.args.self.now in
    cut_ends c.args.plan.now here (g.O.Out.taken c.cut_short.new.self.out.now) start p s c.in-Err.halt c.cut_short.result (subst (Finishes c.args.plan.now (at_page start []) here p s) c.in-Err.is made) c.cut_short.ensures.cut
