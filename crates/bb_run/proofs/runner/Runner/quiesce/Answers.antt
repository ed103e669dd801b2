use Rattle.std.proofs.Common.{◌∙◌, ◌∷◌, ◌++◌, [], List, ap}
use Rattle.std.proofs.lemmas.Result.{err_from_is_err_and}
use Rattle.bb_trace.specs.Event.TheVariants.{Quiescence}
use Rattle.bb_trace.specs.BoardNote.TheVariants.{Event}
use Rattle.bb_trace.specs.declared.note.Note.{Note}
use Rattle.bb_trace.specs.declared.note.Note.TheVariants.{Board}
use Rattle.bb_run.specs.Processing.{response}
use Rattle.bb_run.specs.Run.{quiet}
use Rattle.bb_run.specs.Seen.{seen}
use Rattle.bb_run.specs.Emitting.{at}
use Rattle.bb_run.proofs.emitting.SegmentLemmas.{cut_by_memory}
use Rattle.bb_run.proofs.emitting.EmitLemmas.{response_cut, response_emitted}
use Rattle.bb_run.proofs.runner.Runner.quiesce.Goals as goal

pub returns-in_err-push-clause-made : goal.returns-in_err-push-clause-made
returns-in_err-push-clause-made g c =
    let p = err_from_is_err_and c.from_residual.result c.from_residual.ensures.1 in
    rw (p.1, p.2) (cut_by_memory c.args.plan.now (at g.O.Out.taken c.args.self.now) (quiet c.args.plan.now (seen g.N.NativeSource.meaning c.args.state.now)).emitted)

pub returns-in_err-end-clause-made : goal.returns-in_err-end-clause-made
returns-in_err-end-clause-made g c =
    let p = err_from_is_err_and c.from_residual-in_err-end.result c.from_residual-in_err-end.ensures.1 in
    rw (p.1, p.2) (cut_by_memory c.args.plan.now (at g.O.Out.taken c.args.self.now) (quiet c.args.plan.now (seen g.N.NativeSource.meaning c.args.state.now)).emitted)

pub returns-in_err-emit_now-clause-made : goal.returns-in_err-emit_now-clause-made
returns-in_err-emit_now-clause-made g c =
    let p = err_from_is_err_and c.from_residual-in_err-emit_now.result c.from_residual-in_err-emit_now.ensures.1 in
    rw (p.1, p.2) (response_cut c.args.plan.now (at g.O.Out.taken c.args.self.now) (at g.O.Out.taken c.emit_now.new.self) (response c.args.plan.now Quiescence (seen g.N.NativeSource.meaning c.args.state.now)) (Board (Event Quiescence) ∷ []) c.push.new.self.items c.respond.new.notes.items c.deref.result.now (seen g.N.NativeSource.meaning c.respond.new.state) c.in_ok-end.end c.in_err-emit_now.field-0.0
    c.deref.ensures.value (c.in_ok-push.ensures.items ∙ ap (λ (t : List Note). t ++ Board (Event Quiescence) ∷ []) c.new-notes.ensures.items) c.in_ok-end.ensures c.in_err-emit_now.ensures.emitted)

pub returns-clause-made : goal.returns-clause-made
returns-clause-made g c =
    response_emitted c.args.plan.now (at g.O.Out.taken c.args.self.now) (at g.O.Out.taken c.emit_now.new.self) (response c.args.plan.now Quiescence (seen g.N.NativeSource.meaning c.args.state.now)) (Board (Event Quiescence) ∷ []) c.push.new.self.items c.respond.new.notes.items c.deref.result.now (seen g.N.NativeSource.meaning c.respond.new.state) c.in_ok-end.end
    c.deref.ensures.value (c.in_ok-push.ensures.items ∙ ap (λ (t : List Note). t ++ Board (Event Quiescence) ∷ []) c.new-notes.ensures.items) c.in_ok-end.ensures c.in_ok-emit_now.ensures.emitted
