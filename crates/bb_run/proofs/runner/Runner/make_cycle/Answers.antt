use Rattle.std.proofs.Common.{◌≡◌, ◌∙◌, ℤ, ◌∷◌, [], List, None, Some, ap, option_map, Option, subst, sym}
use Rattle.std.proofs.lemmas.Result.{err_from_is_err_and}
use Rattle.std.specs.Prelude.{option_and_then, slice_get}
use Rattle.bb_agenda.specs.Rating.{rating_in}
use Rattle.bb_trace.specs.Board.{Board as Blackboard}
use Rattle.bb_rules.specs.Parts.{Source}
use Rattle.bb_trace.specs.declared.note.Note.{Note}
use Rattle.bb_run.specs.State.{with_board}
use Rattle.bb_run.specs.Run.{acting, chosen_with, cycle, if_valid, rating, validity}
use Rattle.bb_run.specs.Unstuck.{SuitsSource}
use Rattle.bb_run.specs.Seen.{seen}
use Rattle.bb_run.specs.Emitting.{CutIn, IsResponse, IsEmitted, Makes, Validates, at}
use Rattle.bb_run.proofs.emitting.SegmentLemmas.{cut_by_memory}
use Rattle.bb_run.proofs.serving.ServeCycles.{can_validate, chosen_serves}
use Rattle.bb_run.proofs.emitting.EmitLemmas.{HasEmitted, choice_cut, choice_over, choice_emitted, idle_emitted, makes_last}
use Rattle.bb_run.proofs.keeping.WeighLemmas.{rating_known}
use Rattle.bb_run.proofs.runner.Runner.make_cycle.Goals as goal

pub returns-in_err-verdict-clause-made : goal.returns-in_err-verdict-clause-made
returns-in_err-verdict-clause-made g c =
    let p = err_from_is_err_and c.from_residual.result c.from_residual.ensures.1 in
    rw (p.1, p.2) (cut_by_memory c.args.plan.now (at g.O.Out.taken c.args.self.now) (cycle c.args.plan.now c.args.number c.args.activation (seen g.N.NativeSource.meaning c.args.state.now)).emitted)

pub returns-in_err-end-clause-made : goal.returns-in_err-end-clause-made
returns-in_err-end-clause-made g c =
    let p = err_from_is_err_and c.from_residual-in_err-end.result c.from_residual-in_err-end.ensures.1 in
    rw (p.1, p.2) (cut_by_memory c.args.plan.now (at g.O.Out.taken c.args.self.now) (cycle c.args.plan.now c.args.number c.args.activation (seen g.N.NativeSource.meaning c.args.state.now)).emitted)

pub returns-in_err-emit-clause-made : goal.returns-in_err-emit-clause-made
returns-in_err-emit-clause-made g c =
    let p = err_from_is_err_and c.from_residual-in_err-emit.result c.from_residual-in_err-emit.ensures.1 in
    let a = at g.O.Out.taken c.args.self.now in
    let b = at g.O.Out.taken c.emit.new.self in
    let source = option_map (λ s. s.now) c.source_at-source.result in
    let there = sym (c.source_at-source.ensures ∙ ap (λ (ss : List Source). slice_get ss c.args.activation.source) c.sources.ensures.sources) in
    let valid = subst (λ o. Validates (validity o c.args.activation c.args.state.now.board) c.in_ok-verdict.verdict c.validate.new.board) c.revalidation.ensures c.in_ok-verdict.ensures in
    let rated = subst (λ (r : ℤ). IsResponse (chosen_with c.args.number c.args.activation r c.in_ok-verdict.verdict (with_board (seen g.N.NativeSource.meaning c.args.state.now) c.validate.new.board)) c.new-notes.result.items c.take_choice.new.notes.items (seen g.N.NativeSource.meaning c.take_choice.new.state) c.in_ok-end.end)
    (rating_known c.args.plan.now (seen g.N.NativeSource.meaning c.args.state.now) c.requires.knows.foci c.args.activation) c.in_ok-end.ensures in
    let noted = subst (λ (ns : List Note). IsResponse (chosen_with c.args.number c.args.activation (rating c.args.plan.now (seen g.N.NativeSource.meaning c.args.state.now) c.args.activation) c.in_ok-verdict.verdict (with_board (seen g.N.NativeSource.meaning c.args.state.now) c.validate.new.board)) ns c.take_choice.new.notes.items (seen g.N.NativeSource.meaning c.take_choice.new.state) c.in_ok-end.end) c.new-notes.ensures.items rated in
    rw (p.1, p.2) (choice_cut c.args.plan.now a b c.args.number c.args.activation (seen g.N.NativeSource.meaning c.args.state.now) source c.in_ok-verdict.verdict c.validate.new.board there valid c.take_choice.new.notes.items (seen g.N.NativeSource.meaning c.take_choice.new.state) c.in_ok-end.end noted c.in_err-emit.field-0.0
    (subst (λ (ns : List Note). CutIn c.args.plan.now a b (ns ∷ []) c.in_err-emit.field-0.0) c.deref.ensures.value c.in_err-emit.ensures.emitted))

pub returns-in-Some-clause-made : goal.returns-in-Some-clause-made
returns-in-Some-clause-made g c =
    let a = at g.O.Out.taken c.args.self.now in
    let b = at g.O.Out.taken c.emit.new.self in
    let source = option_map (λ s. s.now) c.source_at-source.result in
    let there = sym (c.source_at-source.ensures ∙ ap (λ (ss : List Source). slice_get ss c.args.activation.source) c.sources.ensures.sources) in
    let valid = subst (λ o. Validates (validity o c.args.activation c.args.state.now.board) c.in_ok-verdict.verdict c.validate.new.board) c.revalidation.ensures c.in_ok-verdict.ensures in
    let rated = subst (λ (r : ℤ). IsResponse (chosen_with c.args.number c.args.activation r c.in_ok-verdict.verdict (with_board (seen g.N.NativeSource.meaning c.args.state.now) c.validate.new.board)) c.new-notes.result.items c.take_choice.new.notes.items (seen g.N.NativeSource.meaning c.take_choice.new.state) c.in_ok-end.end)
    (rating_known c.args.plan.now (seen g.N.NativeSource.meaning c.args.state.now) c.requires.knows.foci c.args.activation) c.in_ok-end.ensures in
    let noted = subst (λ (ns : List Note). IsResponse (chosen_with c.args.number c.args.activation (rating c.args.plan.now (seen g.N.NativeSource.meaning c.args.state.now) c.args.activation) c.in_ok-verdict.verdict (with_board (seen g.N.NativeSource.meaning c.args.state.now) c.validate.new.board)) ns c.take_choice.new.notes.items (seen g.N.NativeSource.meaning c.take_choice.new.state) c.in_ok-end.end) c.new-notes.ensures.items rated in
    choice_over c.args.plan.now a b c.args.number c.args.activation (seen g.N.NativeSource.meaning c.args.state.now) source c.in_ok-verdict.verdict c.validate.new.board there valid c.take_choice.new.notes.items (seen g.N.NativeSource.meaning c.take_choice.new.state) c.in_ok-end.end noted c.in-Some.end c.in-Some.is
    (subst (λ (ns : List Note). IsEmitted c.args.plan.now a b (ns ∷ [])) c.deref.ensures.value c.in_ok-emit.ensures.emitted)

pub returns-in-Some-if_valid-clause-made : goal.returns-in-Some-if_valid-clause-made
returns-in-Some-if_valid-clause-made g c =
    let a = at g.O.Out.taken c.args.self.now in
    let b = at g.O.Out.taken c.emit.new.self in
    let d = at g.O.Out.taken c.act.new.self in
    let t = (seen g.N.NativeSource.meaning c.take_choice.new.state) in
    let source = option_map (λ s. s.now) c.source_at-source.result in
    let there = sym (c.source_at-source.ensures ∙ ap (λ (ss : List Source). slice_get ss c.args.activation.source) c.sources.ensures.sources) in
    let valid = subst (λ o. Validates (validity o c.args.activation c.args.state.now.board) c.in_ok-verdict.verdict c.validate.new.board) c.revalidation.ensures c.in_ok-verdict.ensures in
    let rated = subst (λ (r : ℤ). IsResponse (chosen_with c.args.number c.args.activation r c.in_ok-verdict.verdict (with_board (seen g.N.NativeSource.meaning c.args.state.now) c.validate.new.board)) c.new-notes.result.items c.take_choice.new.notes.items (seen g.N.NativeSource.meaning c.take_choice.new.state) c.in_ok-end.end)
    (rating_known c.args.plan.now (seen g.N.NativeSource.meaning c.args.state.now) c.requires.knows.foci c.args.activation) c.in_ok-end.ensures in
    let noted = subst (λ (ns : List Note). IsResponse (chosen_with c.args.number c.args.activation (rating c.args.plan.now (seen g.N.NativeSource.meaning c.args.state.now) c.args.activation) c.in_ok-verdict.verdict (with_board (seen g.N.NativeSource.meaning c.args.state.now) c.validate.new.board)) ns c.take_choice.new.notes.items t c.in_ok-end.end) c.new-notes.ensures.items rated in
    let emitted = choice_emitted c.args.plan.now a b c.args.number c.args.activation (seen g.N.NativeSource.meaning c.args.state.now) source c.in_ok-verdict.verdict c.validate.new.board there valid c.take_choice.new.notes.items t c.in_ok-end.end noted c.in_default.is
    (subst (λ (ns : List Note). IsEmitted c.args.plan.now a b (ns ∷ [])) c.deref.ensures.value c.in_ok-emit.ensures.emitted)
    in
    let acts : Some c.in-Some-if_valid.source.now ≡ if_valid c.in_ok-verdict.verdict source = c.in-Some-if_valid.ensures in
    makes_last (λ e. e) c.args.plan.now a b d (cycle c.args.plan.now c.args.number c.args.activation (seen g.N.NativeSource.meaning c.args.state.now)) (acting c.args.plan.now (if_valid c.in_ok-verdict.verdict source) c.args.activation t) (seen g.N.NativeSource.meaning c.act.new.state) c.act.result emitted
    (subst (λ o. Makes c.args.plan.now b d (acting c.args.plan.now o c.args.activation t) (seen g.N.NativeSource.meaning c.act.new.state) c.act.result) acts c.act.ensures.made)

pub returns-clause-made : goal.returns-clause-made
returns-clause-made g c =
    let a = at g.O.Out.taken c.args.self.now in
    let b = at g.O.Out.taken c.emit.new.self in
    let t = (seen g.N.NativeSource.meaning c.take_choice.new.state) in
    let source = option_map (λ s. s.now) c.source_at-source.result in
    let there = sym (c.source_at-source.ensures ∙ ap (λ (ss : List Source). slice_get ss c.args.activation.source) c.sources.ensures.sources) in
    let valid = subst (λ o. Validates (validity o c.args.activation c.args.state.now.board) c.in_ok-verdict.verdict c.validate.new.board) c.revalidation.ensures c.in_ok-verdict.ensures in
    let rated = subst (λ (r : ℤ). IsResponse (chosen_with c.args.number c.args.activation r c.in_ok-verdict.verdict (with_board (seen g.N.NativeSource.meaning c.args.state.now) c.validate.new.board)) c.new-notes.result.items c.take_choice.new.notes.items (seen g.N.NativeSource.meaning c.take_choice.new.state) c.in_ok-end.end)
    (rating_known c.args.plan.now (seen g.N.NativeSource.meaning c.args.state.now) c.requires.knows.foci c.args.activation) c.in_ok-end.ensures in
    let noted = subst (λ (ns : List Note). IsResponse (chosen_with c.args.number c.args.activation (rating c.args.plan.now (seen g.N.NativeSource.meaning c.args.state.now) c.args.activation) c.in_ok-verdict.verdict (with_board (seen g.N.NativeSource.meaning c.args.state.now) c.validate.new.board)) ns c.take_choice.new.notes.items t c.in_ok-end.end) c.new-notes.ensures.items rated in
    let emitted = choice_emitted c.args.plan.now a b c.args.number c.args.activation (seen g.N.NativeSource.meaning c.args.state.now) source c.in_ok-verdict.verdict c.validate.new.board there valid c.take_choice.new.notes.items t c.in_ok-end.end noted c.in_default.is
    (subst (λ (ns : List Note). IsEmitted c.args.plan.now a b (ns ∷ [])) c.deref.ensures.value c.in_ok-emit.ensures.emitted)
    in
    let none : None ≡ if_valid c.in_ok-verdict.verdict source = c.in-None.ensures in
    idle_emitted c.args.plan.now a b (cycle c.args.plan.now c.args.number c.args.activation (seen g.N.NativeSource.meaning c.args.state.now)) t
    (subst (λ o. HasEmitted c.args.plan.now a b (cycle c.args.plan.now c.args.number c.args.activation (seen g.N.NativeSource.meaning c.args.state.now)) (acting c.args.plan.now o c.args.activation t)) (sym none) emitted)

pub validate-requires : goal.validate-requires
validate-requires g c =
    let there = sym (c.source_at-source.ensures ∙ ap (λ (ss : List Source). slice_get ss c.args.activation.source) c.sources.ensures.sources) in
    record {
      begins = λ asked is.
          can_validate c.args.plan.now (seen g.N.NativeSource.meaning c.args.state.now) c.requires.serves c.args.activation c.requires.suits asked
          (ap (option_and_then (λ (t : Source). t.revalidate)) there ∙ (sym c.revalidation.ensures ∙ is));
    }

pub act-requires-clause-serves : goal.act-requires-clause-serves
act-requires-clause-serves g c =
    let there = sym (c.source_at-source.ensures ∙ ap (λ (ss : List Source). slice_get ss c.args.activation.source) c.sources.ensures.sources) in
    let valid = subst (λ o. Validates (validity o c.args.activation c.args.state.now.board) c.in_ok-verdict.verdict c.validate.new.board) c.revalidation.ensures c.in_ok-verdict.ensures in
    let own = subst (λ (o : Option Source). Validates (validity (option_and_then (λ (t : Source). t.revalidate) o) c.args.activation c.args.state.now.board) c.in_ok-verdict.verdict c.validate.new.board) (sym there) valid in
    (chosen_serves c.args.plan.now (seen g.N.NativeSource.meaning c.args.state.now) c.requires.serves c.args.activation c.requires.suits c.args.number (rating_in c.args.state.now.agenda c.args.activation) c.in_ok-verdict.verdict c.validate.new.board
    c.new-notes.result.items c.take_choice.new.notes.items (seen g.N.NativeSource.meaning c.take_choice.new.state) c.in_ok-end.end own c.in_ok-end.ensures).0

pub act-requires-clause-suits : goal.act-requires-clause-suits
act-requires-clause-suits g c =
    let there = sym (c.source_at-source.ensures ∙ ap (λ (ss : List Source). slice_get ss c.args.activation.source) c.sources.ensures.sources) in
    let valid = subst (λ o. Validates (validity o c.args.activation c.args.state.now.board) c.in_ok-verdict.verdict c.validate.new.board) c.revalidation.ensures c.in_ok-verdict.ensures in
    let own = subst (λ (o : Option Source). Validates (validity (option_and_then (λ (t : Source). t.revalidate) o) c.args.activation c.args.state.now.board) c.in_ok-verdict.verdict c.validate.new.board) (sym there) valid in
    subst (λ (b : Blackboard). SuitsSource c.args.plan.now b c.args.activation)
    (sym (chosen_serves c.args.plan.now (seen g.N.NativeSource.meaning c.args.state.now) c.requires.serves c.args.activation c.requires.suits c.args.number (rating_in c.args.state.now.agenda c.args.activation) c.in_ok-verdict.verdict c.validate.new.board
    c.new-notes.result.items c.take_choice.new.notes.items (seen g.N.NativeSource.meaning c.take_choice.new.state) c.in_ok-end.end own c.in_ok-end.ensures).1)
    c.requires.suits
