use Rattle.std.proofs.lemmas.Result.{err_from_is_err_and}
use Rattle.bb_run.specs.Seen.{seen}
use Rattle.bb_run.specs.Emitting.{at}
use Rattle.bb_run.proofs.keeping.KnowLemmas.{quiet_known}
use Rattle.bb_run.proofs.emitting.TurnLemmas.{rest_cut}
use Rattle.bb_run.proofs.runner.Runner.rest.Goals as goal

pub returns-in_err-end-clause-made : goal.returns-in_err-end-clause-made
returns-in_err-end-clause-made g c =
    let p = err_from_is_err_and c.from_residual.result c.from_residual.ensures.1 in
    rw (p.1, p.2) (rest_cut c.args.plan.now (at g.O.Out.taken c.args.self.now) (at g.O.Out.taken c.quiesce.new.self) (seen g.N.NativeSource.meaning c.args.state.now) (seen g.N.NativeSource.meaning c.quiesce.new.state) c.in_err-end.field-0.0 c.in_err-end.ensures.made)

pub choose-requires : goal.choose-requires
choose-requires g c = record {
  knows = quiet_known c.args.plan.now (at g.O.Out.taken c.args.self.now) (at g.O.Out.taken c.quiesce.new.self) (seen g.N.NativeSource.meaning c.args.state.now) (seen g.N.NativeSource.meaning c.quiesce.new.state) c.in_ok-end.field-0 c.requires.knows c.in_ok-end.ensures.made;
}
