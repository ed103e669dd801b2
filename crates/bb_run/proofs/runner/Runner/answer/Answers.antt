use Rattle.std.proofs.lemmas.Result.{err_from_is_err_and}
use Rattle.bb_trace.specs.declared.note.Note.TheVariants.{NativeEnded}
use Rattle.bb_run.specs.Run.{asked}
use Rattle.bb_run.specs.Seen.{seen}
use Rattle.bb_run.specs.Emitting.{at}
use Rattle.bb_run.specs.Turns.{answering}
use Rattle.bb_run.proofs.emitting.SegmentLemmas.{cut_by_memory}
use Rattle.bb_run.proofs.serving.ServeCycles.{answered_serves}
use Rattle.bb_run.proofs.emitting.EmitLemmas.{reported_as}
use Rattle.bb_run.proofs.runner.Runner.answer.Goals as goal

pub returns-in_err-end-clause-made : goal.returns-in_err-end-clause-made
returns-in_err-end-clause-made g c =
    let p = err_from_is_err_and c.from_residual.result c.from_residual.ensures.1 in
    rw (p.1, p.2) (cut_by_memory c.args.plan.now (at g.O.Out.taken c.args.self.now) (answering c.args.plan.now c.args.asks.items (seen g.N.NativeSource.meaning c.args.state.now)).emitted)

pub returns-clause-made : goal.returns-clause-made
returns-clause-made g c =
    reported_as c.args.plan.now (at g.O.Out.taken c.args.self.now) (at g.O.Out.taken c.report.new.self) (asked (λ n. NativeEnded n) c.args.asks.items (seen g.N.NativeSource.meaning c.args.state.now)) c.new-notes.result.items c.apply_answer.new.notes.items c.deref.result.now (seen g.N.NativeSource.meaning c.apply_answer.new.state) (seen g.N.NativeSource.meaning c.report.new.state) c.in_ok-end.end c.report.result
    c.deref.ensures.value c.new-notes.ensures.items c.in_ok-end.ensures c.report.ensures.made

pub report-requires-clause-serves : goal.report-requires-clause-serves
report-requires-clause-serves g c =
    (answered_serves c.args.plan.now (seen g.N.NativeSource.meaning c.args.state.now) c.requires.serves c.args.asks.items c.new-notes.result.items c.apply_answer.new.notes.items c.deref.result.now (seen g.N.NativeSource.meaning c.apply_answer.new.state) c.in_ok-end.end
    c.new-notes.ensures.items c.deref.ensures.value c.in_ok-end.ensures).0

pub report-requires-clause-events : goal.report-requires-clause-events
report-requires-clause-events g c =
    (answered_serves c.args.plan.now (seen g.N.NativeSource.meaning c.args.state.now) c.requires.serves c.args.asks.items c.new-notes.result.items c.apply_answer.new.notes.items c.deref.result.now (seen g.N.NativeSource.meaning c.apply_answer.new.state) c.in_ok-end.end
    c.new-notes.ensures.items c.deref.ensures.value c.in_ok-end.ensures).1
