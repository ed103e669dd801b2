use Rattle.std.proofs.Common.{◌∙◌, sym}
use Rattle.std.proofs.lemmas.Result.{err_from_is_err_and}
use Rattle.std.specs.Vec.Iter.{into_iter_items}
use Rattle.bb_basis.proofs.TryFoldLemmas.{try_fold_next, try_fold_error, try_fold_end}
use Rattle.bb_shell.specs.Fitting.{names_in, source_after}
use Rattle.bb_shell.specs.declared.fitting.Unfit.TheVariants.{Memory}
use Rattle.bb_shell.proofs.fitting.fit_all.Goals as goal

pub loop-source-preserved : goal.loop-source-preserved
loop-source-preserved c = try_fold_next (source_after (names_in c.args.natives.now)) c.loop-source.source_set c.add.new.self _ _ c.in-Some.source _ c.in-Some.ensures.steps.0 c.in_ok-add.ensures c.loop-source.invariant

pub returns-in_err-add : goal.returns-in_err-add
returns-in_err-add c =
    let p = err_from_is_err_and c.from_residual.result c.from_residual.ensures.1 in
    rw (p.1, p.2) (try_fold_error Memory (source_after (names_in c.args.natives.now)) c.loop-source.source_set _ _ c.in-Some.source c.in_err-add.field-0.0 _ c.in-Some.ensures.steps.0 c.in_err-add.ensures c.loop-source.invariant)

pub returns : goal.returns
returns c = try_fold_end (source_after (names_in c.args.natives.now)) c.loop-source.source_set (into_iter_items c.loop-source.source-iterator) _ (sym c.loop-source.source-iterator.rest.ok.0 ∙ c.in-None.ensures.steps.0) c.loop-source.invariant
