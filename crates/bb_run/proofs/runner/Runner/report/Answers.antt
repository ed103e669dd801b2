use Rattle.std.proofs.lemmas.Result.{err_from_is_err_and}
use Rattle.bb_run.specs.Seen.{seen}
use Rattle.bb_run.specs.Emitting.{at}
use Rattle.bb_run.proofs.emitting.EmitLemmas.{report_cut, report_made, report_over}
use Rattle.bb_run.proofs.runner.Runner.report.Goals as goal

pub returns-in_err-emit-clause-made : goal.returns-in_err-emit-clause-made
returns-in_err-emit-clause-made g c =
    let p = err_from_is_err_and c.from_residual.result c.from_residual.ensures.1 in
    rw (p.1, p.2) (report_cut c.args.plan.now (at g.O.Out.taken c.args.self.now) (at g.O.Out.taken c.emit.new.self) c.args.notes.now (seen g.N.NativeSource.meaning c.args.state.now) c.args.end c.in_err-emit.field-0.0 c.in_err-emit.ensures.emitted)

pub returns-in-Some-clause-made : goal.returns-in-Some-clause-made
returns-in-Some-clause-made g c =
    report_over c.args.plan.now (at g.O.Out.taken c.args.self.now) (at g.O.Out.taken c.emit.new.self) c.args.notes.now (seen g.N.NativeSource.meaning c.args.state.now) c.args.end c.in-Some.end c.in-Some.is c.in_ok-emit.ensures.emitted

pub returns-clause-made : goal.returns-clause-made
returns-clause-made g c =
    report_made c.args.plan.now (at g.O.Out.taken c.args.self.now) (at g.O.Out.taken c.emit.new.self) c.args.notes.now (seen g.N.NativeSource.meaning c.args.state.now) c.args.end
    (at g.O.Out.taken c.process_all.new.self) (seen g.N.NativeSource.meaning c.process_all.new.state) c.process_all.result c.in_default.is c.in_ok-emit.ensures.emitted c.process_all.ensures.made
