use Rattle.std.proofs.Common.{sym}
use Rattle.std.proofs.lemmas.Result.{err_from_is_err_and}
use Rattle.bb_run.specs.Seen.{seen}
use Rattle.bb_run.specs.Emitting.{at}
use Rattle.bb_run.proofs.keeping.KnowLemmas.{quiet_known}
use Rattle.bb_run.proofs.emitting.EmitLemmas.{wait_cut}
use Rattle.bb_run.proofs.runner.Runner.decide.Goals as goal

pub returns-in_err-end-clause-waited : goal.returns-in_err-end-clause-waited
returns-in_err-end-clause-waited g c =
    let p = err_from_is_err_and c.from_residual.result c.from_residual.ensures.1 in
    rw (p.1, p.2) (wait_cut c.args.plan.now (at g.O.Out.taken c.args.self.now) (at g.O.Out.taken c.quiesce.new.self) (seen g.N.NativeSource.meaning c.args.state.now) (seen g.N.NativeSource.meaning c.quiesce.new.state) c.in_err-end.field-0.0 (sym c.in_default.ensures) c.in_err-end.ensures.made)

pub choose-requires-2 : goal.choose-requires-2
choose-requires-2 g c = record {
  knows = quiet_known c.args.plan.now (at g.O.Out.taken c.args.self.now) (at g.O.Out.taken c.quiesce.new.self) (seen g.N.NativeSource.meaning c.args.state.now) (seen g.N.NativeSource.meaning c.quiesce.new.state) c.in_ok-end.field-0 c.requires.knows c.in_ok-end.ensures.made;
}
