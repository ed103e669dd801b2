use Rattle.std.proofs.Common.{[]}
use Rattle.std.proofs.lemmas.Result.{err_from_is_err_and}
use Rattle.bb_run.specs.Processing.{processing, response}
use Rattle.bb_run.specs.Seen.{seen}
use Rattle.bb_run.specs.Emitting.{at}
use Rattle.bb_run.proofs.emitting.SegmentLemmas.{cut_by_memory}
use Rattle.bb_run.proofs.emitting.EmitLemmas.{response_cut, response_emitted}
use Rattle.bb_run.proofs.runner.Runner.process.Goals as goal

pub returns-in_err-end-clause-made : goal.returns-in_err-end-clause-made
returns-in_err-end-clause-made g c =
    let p = err_from_is_err_and c.from_residual.result c.from_residual.ensures.1 in
    rw (p.1, p.2) (cut_by_memory c.args.plan.now (at g.O.Out.taken c.args.self.now) (processing c.args.plan.now c.args.event (seen g.N.NativeSource.meaning c.args.state.now)).emitted)

pub returns-in_err-emit-clause-made : goal.returns-in_err-emit-clause-made
returns-in_err-emit-clause-made g c =
    let p = err_from_is_err_and c.from_residual-in_err-emit.result c.from_residual-in_err-emit.ensures.1 in
    rw (p.1, p.2) (response_cut c.args.plan.now (at g.O.Out.taken c.args.self.now) (at g.O.Out.taken c.emit.new.self) (response c.args.plan.now c.args.event (seen g.N.NativeSource.meaning c.args.state.now)) [] c.new-notes.result.items c.respond.new.notes.items c.deref.result.now (seen g.N.NativeSource.meaning c.respond.new.state) c.in_ok-end.end c.in_err-emit.field-0.0
    c.deref.ensures.value c.new-notes.ensures.items c.in_ok-end.ensures c.in_err-emit.ensures.emitted)

pub returns-clause-made : goal.returns-clause-made
returns-clause-made g c =
    response_emitted c.args.plan.now (at g.O.Out.taken c.args.self.now) (at g.O.Out.taken c.emit.new.self) (response c.args.plan.now c.args.event (seen g.N.NativeSource.meaning c.args.state.now)) [] c.new-notes.result.items c.respond.new.notes.items c.deref.result.now (seen g.N.NativeSource.meaning c.respond.new.state) c.in_ok-end.end
    c.deref.ensures.value c.new-notes.ensures.items c.in_ok-end.ensures c.in_ok-emit.ensures.emitted
