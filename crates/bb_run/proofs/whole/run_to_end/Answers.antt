use Rattle.std.proofs.Common.{map, subst, sym}
use Rattle.std.proofs.lemmas.Result.{err_from_is_err_and}
use Rattle.bb_run.specs.Run.{run}
use Rattle.bb_run.specs.Serving.{MayServe}
use Rattle.bb_run.specs.Unstuck.{NotDue}
use Rattle.bb_run.proofs.emitting.WholeLemmas.{none_written}
use Rattle.bb_run.proofs.natives.DueLemmas.{run_not_due}
use Rattle.bb_run.proofs.serving.SteadyLemmas.{may_serve}
use Rattle.bb_run.proofs.serving.UnstuckRuns.{run_is_unstuck}
use Rattle.bb_run.proofs.whole.run_to_end.Goals as goal

pub make_run-ended-requires-clause-serves : goal.make_run-ended-requires-clause-serves
make_run-ended-requires-clause-serves g c =
    subst (MayServe c.args.plan.now) (sym c.in_ok-state.ensures.board)
    (may_serve c.args.plan.now c.args.start.board c.schema.ensures c.fits.ensures c.requires.made c.sources.ensures.sound c.requires.of_schema c.fits-2.ensures)

pub returns-in_err-state-clause-written : goal.returns-in_err-state-clause-written
returns-in_err-state-clause-written g c =
    let p = err_from_is_err_and c.from_residual.result c.from_residual.ensures.1 in
    rw (p.1, p.2) (none_written c.args.plan.now (g.O.Out.taken c.args.out.now) (run c.args.plan.now c.args.start.board (map g.N.NativeSource.meaning c.args.start.roster.natives.items) c.args.limit).emitted)

pub of-requires : goal.of-requires
of-requires g c =
    let ends = rw (c.in_ok-state.ensures.board, c.in_ok-state.ensures.natives, c.in-Ok.is) at c.make_run-ended.ensures.end in
    record {
      not_due = subst NotDue ends (run_not_due c.args.plan.now c.args.start.board (map g.N.NativeSource.meaning c.args.start.roster.natives.items) c.from.result c.requires.acts);
    }

pub returns-in_err-state-clause-unstuck : goal.returns-in_err-state-clause-unstuck
returns-in_err-state-clause-unstuck g c =
    let may = may_serve c.args.plan.now c.args.start.board c.schema.ensures c.fits.ensures c.requires.made c.sources.ensures.sound c.requires.of_schema c.fits-2.ensures in
    run_is_unstuck c.args.plan.now may.sound (map g.N.NativeSource.meaning c.args.start.roster.natives.items) c.args.start.board c.args.limit may.fits

pub returns-in-Ok-clause-unstuck : goal.returns-in-Ok-clause-unstuck
returns-in-Ok-clause-unstuck g c =
    let may = may_serve c.args.plan.now c.args.start.board c.schema.ensures c.fits.ensures c.requires.made c.sources.ensures.sound c.requires.of_schema c.fits-2.ensures in
    run_is_unstuck c.args.plan.now may.sound (map g.N.NativeSource.meaning c.args.start.roster.natives.items) c.args.start.board c.args.limit may.fits

pub returns-clause-unstuck : goal.returns-clause-unstuck
returns-clause-unstuck g c =
    let may = may_serve c.args.plan.now c.args.start.board c.schema.ensures c.fits.ensures c.requires.made c.sources.ensures.sound c.requires.of_schema c.fits-2.ensures in
    run_is_unstuck c.args.plan.now may.sound (map g.N.NativeSource.meaning c.args.start.roster.natives.items) c.args.start.board c.args.limit may.fits
