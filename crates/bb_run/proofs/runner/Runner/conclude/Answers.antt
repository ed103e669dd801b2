use Rattle.std.proofs.Common.{◌≡◌, ◌∷◌, [], ◌++◌, ◌∙◌, List, Err, map, ap, subst}
use Rattle.std.proofs.lemmas.Result.{err_from_is_err_and}
use Rattle.bb_trace.specs.TraceText.{segment_text}
use Rattle.bb_trace.specs.declared.note.Note.{Note}
use Rattle.bb_trace.specs.declared.note.Note.TheVariants.{Closed, Finished}
use Rattle.bb_run.specs.Emitting.{GivesUp, at}
use Rattle.bb_run.proofs.emitting.SegmentLemmas.{emitted_first_more}
use Rattle.bb_run.proofs.emitting.WholeLemmas.{concluded, given_up}
use Rattle.bb_run.proofs.runner.Runner.conclude.Goals as goal

pub returns-in_default-clause-concludes : goal.returns-in_default-clause-concludes
returns-in_default-clause-concludes g c = λ start emitted h.
    let here = at g.O.Out.taken c.args.self.now in
    let last : List (List Note) = (Finished c.args.end ∷ map (λ x. Closed x) c.args.closed) ∷ [] in
    given_up c.args.plan.now start (g.O.Out.taken c.give_up.new.self.out.now) here (emitted ++ last) c.give_up.result (emitted_first_more c.args.plan.now start here emitted last h) c.give_up.ensures.written

pub returns-in-Err-clause-concludes : goal.returns-in-Err-clause-concludes
returns-in-Err-clause-concludes g c = λ start emitted h.
    let here = at g.O.Out.taken c.args.self.now in
    let given = g.O.Out.taken c.give_up-in-Err.new.self.out.now in
    let last : List (List Note) = (Finished c.args.end ∷ map (λ x. Closed x) c.args.closed) ∷ [] in
    given_up c.args.plan.now start given here (emitted ++ last) c.give_up-in-Err.result (emitted_first_more c.args.plan.now start here emitted last h)
    (subst (λ page. GivesUp here.taken given page c.give_up-in-Err.result) c.in-Err.ensures.err c.give_up-in-Err.ensures.written)

pub returns-in_err-flush-clause-concludes : goal.returns-in_err-flush-clause-concludes
returns-in_err-flush-clause-concludes g c =
    let p = err_from_is_err_and c.from_residual.result c.from_residual.ensures.1 in
    let here = at g.O.Out.taken c.args.self.now in
    let last : List Note = Finished c.args.end ∷ map (λ x. Closed x) c.args.closed in
    let grown : c.add_segment.new.self ≡ here.page ++ segment_text c.args.plan.now last = c.in-Ok-add_segment.ensures.added ∙ ap (λ (ns : List Note). here.page ++ segment_text c.args.plan.now ns) (c.deref.ensures.value ∙ c.in-Ok.ensures) in
    rw (p.1, p.2) (concluded c.args.plan.now here (g.O.Out.taken c.flush.new.out) c.add_segment.new.self c.flush.new.self last (Err c.in_err-flush.field-0.0) grown c.in_err-flush.ensures.written)
