use Rattle.std.proofs.Common.{◌≡◌, ◌∙◌, ◌∷◌, ◌++◌, [], List, ap, refl}
use Rattle.std.proofs.lemmas.Result.{err_from_is_err_and}
use Rattle.bb_trace.specs.declared.note.Note.{Note}
use Rattle.bb_trace.specs.declared.note.Note.TheVariants.{Posted, PostEnded}
use Rattle.bb_run.specs.Run.{asked}
use Rattle.bb_run.specs.Seen.{seen}
use Rattle.bb_run.specs.Emitting.{at}
use Rattle.bb_run.specs.Emission.{after_emitted}
use Rattle.bb_run.specs.Turns.{posting}
use Rattle.bb_run.proofs.emitting.SegmentLemmas.{cut_by_memory}
use Rattle.bb_run.proofs.serving.ServeCycles.{posted_is, posted_serves}
use Rattle.bb_run.proofs.emitting.EmitLemmas.{reported_as}
use Rattle.bb_run.proofs.runner.Runner.post.Goals as goal

pub returns-in_err-push-clause-made : goal.returns-in_err-push-clause-made
returns-in_err-push-clause-made g c =
    let p = err_from_is_err_and c.from_residual.result c.from_residual.ensures.1 in
    rw (p.1, p.2) (cut_by_memory c.args.plan.now (at g.O.Out.taken c.args.self.now) (posting c.args.plan.now c.args.asks.items (seen g.N.NativeSource.meaning c.args.state.now)).emitted)

pub returns-in_err-end-clause-made : goal.returns-in_err-end-clause-made
returns-in_err-end-clause-made g c =
    let p = err_from_is_err_and c.from_residual-in_err-end.result c.from_residual-in_err-end.ensures.1 in
    rw (p.1, p.2) (cut_by_memory c.args.plan.now (at g.O.Out.taken c.args.self.now) (posting c.args.plan.now c.args.asks.items (seen g.N.NativeSource.meaning c.args.state.now)).emitted)

pub returns-clause-made : goal.returns-clause-made
returns-clause-made g c =
    let r = asked (λ n. PostEnded n) c.args.asks.items (seen g.N.NativeSource.meaning c.args.state.now) in
    let t = seen g.N.NativeSource.meaning c.apply_posted.new.state in
    let begun : c.push.new.self.items ≡ Posted ∷ [] = c.in_ok-push.ensures.items ∙ ap (λ (ns : List Note). ns ++ Posted ∷ []) c.new-notes.ensures.items in
    reported_as c.args.plan.now (at g.O.Out.taken c.args.self.now) (at g.O.Out.taken c.report.new.self) (after_emitted (Posted ∷ []) r) [] c.apply_posted.new.notes.items c.deref.result.now t (seen g.N.NativeSource.meaning c.report.new.state) c.in_ok-end.end c.report.result
    c.deref.ensures.value refl (posted_is r c.push.new.self.items c.apply_posted.new.notes.items t c.in_ok-end.end begun c.in_ok-end.ensures) c.report.ensures.made

pub report-requires-clause-serves : goal.report-requires-clause-serves
report-requires-clause-serves g c =
    let begun : c.push.new.self.items ≡ Posted ∷ [] = c.in_ok-push.ensures.items ∙ ap (λ (ns : List Note). ns ++ Posted ∷ []) c.new-notes.ensures.items in
    (posted_serves c.args.plan.now (seen g.N.NativeSource.meaning c.args.state.now) c.requires.serves c.args.asks.items c.push.new.self.items c.apply_posted.new.notes.items c.deref.result.now (seen g.N.NativeSource.meaning c.apply_posted.new.state) c.in_ok-end.end begun c.deref.ensures.value c.in_ok-end.ensures).0

pub report-requires-clause-events : goal.report-requires-clause-events
report-requires-clause-events g c =
    let begun : c.push.new.self.items ≡ Posted ∷ [] = c.in_ok-push.ensures.items ∙ ap (λ (ns : List Note). ns ++ Posted ∷ []) c.new-notes.ensures.items in
    (posted_serves c.args.plan.now (seen g.N.NativeSource.meaning c.args.state.now) c.requires.serves c.args.asks.items c.push.new.self.items c.apply_posted.new.notes.items c.deref.result.now (seen g.N.NativeSource.meaning c.apply_posted.new.state) c.in_ok-end.end begun c.deref.ensures.value c.in_ok-end.ensures).1
