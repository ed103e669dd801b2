use Rattle.std.proofs.Common.{[], None, ap, map, subst}
use Rattle.std.proofs.lemmas.Result.{err_from_is_err_and}
use Rattle.bb_agenda.specs.Agenda.{Agenda}
use Rattle.bb_run.specs.State.{with_agenda}
use Rattle.bb_run.specs.Processing.{reported}
use Rattle.bb_run.specs.Run.{noted, start}
use Rattle.bb_run.specs.Seen.{seen}
use Rattle.bb_run.specs.Emitting.{Makes, at}
use Rattle.bb_run.proofs.emitting.SegmentLemmas.{cut_by_memory}
use Rattle.bb_run.proofs.serving.ServeCycles.{noted_serves}
use Rattle.bb_run.proofs.emitting.EmitLemmas.{reported_as}
use Rattle.bb_run.proofs.runner.Runner.begin.Goals as goal

pub returns-clause-made : goal.returns-clause-made
returns-clause-made g c =
    let a = at g.O.Out.taken c.args.self.now in
    let b = at g.O.Out.taken c.report.new.self in
    let s = (seen g.N.NativeSource.meaning c.args.state.now) in
    subst (λ (agenda : Agenda). Makes c.args.plan.now a b (reported c.args.plan.now (noted (with_agenda s agenda) [] None)) (seen g.N.NativeSource.meaning c.report.new.state) c.report.result) c.requires.new
    (reported_as c.args.plan.now a b (noted s [] None) c.new-notes.result.items c.take_noted.new.notes.items c.deref.result.now (seen g.N.NativeSource.meaning c.take_noted.new.state) (seen g.N.NativeSource.meaning c.report.new.state) None c.report.result
    c.deref.ensures.value c.new-notes.ensures.items (c.in_ok-take_noted.ensures None) c.report.ensures.made)

pub returns-in_err-take_noted-clause-made : goal.returns-in_err-take_noted-clause-made
returns-in_err-take_noted-clause-made g c =
    let p = err_from_is_err_and c.from_residual.result c.from_residual.ensures.1 in
    rw (p.1, p.2) (cut_by_memory c.args.plan.now (at g.O.Out.taken c.args.self.now) (start c.args.plan.now c.args.state.now.board (map g.N.NativeSource.meaning c.args.state.now.roster.natives.items)).emitted)

pub report-requires-clause-serves : goal.report-requires-clause-serves
report-requires-clause-serves g c =
    let s = seen g.N.NativeSource.meaning c.args.state.now in
    (noted_serves c.args.plan.now c.args.state.now.board s.natives c.requires.serves s (seen g.N.NativeSource.meaning c.take_noted.new.state) c.new-notes.result.items c.take_noted.new.notes.items c.deref.result.now (ap (λ (agenda : Agenda). with_agenda s agenda) c.requires.new)
    c.new-notes.ensures.items c.deref.ensures.value (c.in_ok-take_noted.ensures None)).0

pub report-requires-clause-events : goal.report-requires-clause-events
report-requires-clause-events g c =
    let s = seen g.N.NativeSource.meaning c.args.state.now in
    (noted_serves c.args.plan.now c.args.state.now.board s.natives c.requires.serves s (seen g.N.NativeSource.meaning c.take_noted.new.state) c.new-notes.result.items c.take_noted.new.notes.items c.deref.result.now (ap (λ (agenda : Agenda). with_agenda s agenda) c.requires.new)
    c.new-notes.ensures.items c.deref.ensures.value (c.in_ok-take_noted.ensures None)).1
