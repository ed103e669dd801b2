use Rattle.std.proofs.Common.{◌∙◌, sym}
use Rattle.std.proofs.lemmas.Result.{err_from_is_err_and}
use Rattle.std.specs.Vec.Iter.{into_iter_items}
use Rattle.bb_basis.proofs.TryFoldLemmas.{try_fold_next, try_fold_error, try_fold_end}
use Rattle.bb_refusal.specs.declared.input_fault.InputFault.TheVariants.{Memory}
use Rattle.bb_shell.specs.Fitting.{names_in}
use Rattle.bb_shell.specs.proving.Gathering.{resolution_as, with_code}
use Rattle.bb_shell.proofs.GatherLemmas.{none_gathered, one_gathered}
use Rattle.bb_shell.proofs.sources.gather_all.Goals as goal

pub returns-in_err-draft : goal.returns-in_err-draft
returns-in_err-draft c =
    let p = err_from_is_err_and c.from_residual.result c.from_residual.ensures.1 in
    let n = names_in c.args.natives.now in
    let s = c.args.schema.now in
    let g = resolution_as c.loop-code.resolution in
    rw (p.1, p.2) (try_fold_error Memory (with_code n s) g _ _ c.in-Some.code c.in_err-draft.field-0.0 _ c.in-Some.ensures.steps.0
    (none_gathered n s g c.in-Some.code c.into_draft.result c.in_err-draft.field-0.0 c.into_draft.ensures.value c.in_err-draft.ensures) c.loop-code.invariant)

pub loop-code-preserved : goal.loop-code-preserved
loop-code-preserved c =
    let n = names_in c.args.natives.now in
    let s = c.args.schema.now in
    let g = resolution_as c.loop-code.resolution in
    try_fold_next (with_code n s) g _ _ _ c.in-Some.code _ c.in-Some.ensures.steps.0
    (one_gathered n s g _ c.in-Some.code c.into_draft.result c.in_ok-draft.draft c.into_draft.ensures.value c.in_ok-draft.ensures c.in_ok-resolution.ensures) c.loop-code.invariant

pub returns : goal.returns
returns c = try_fold_end (with_code (names_in c.args.natives.now) c.args.schema.now) (resolution_as c.loop-code.resolution) (into_iter_items c.loop-code.code-iterator) _ (sym c.loop-code.code-iterator.rest.ok.0 ∙ c.in-None.ensures.steps.0) c.loop-code.invariant
