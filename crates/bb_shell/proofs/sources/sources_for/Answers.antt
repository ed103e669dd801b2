use Rattle.std.proofs.Common.{inr, ap, ◌∙◌}
use Rattle.std.proofs.lemmas.Result.{err_from_is_err_and}
use Rattle.bb_shell.specs.declared.fitting.Unfit.TheVariants as unfits
use Rattle.bb_shell.specs.declared.sources.Resolution.TheVariants as resolutions
use Rattle.bb_shell.specs.Fitting.{names_in}
use Rattle.bb_shell.proofs.GatherLemmas.{ends_as, fails_as}
use Rattle.bb_shell.proofs.sources.sources_for.Goals as goal

pub returns-in_err-source_set-clause-given : goal.returns-in_err-source_set-clause-given
returns-in_err-source_set-clause-given c =
    let p = err_from_is_err_and c.from_residual.result c.from_residual.ensures.1 in
    rw (p.1, p.2) (fails_as (names_in c.args.natives.now) c.args.schema.now c.args.codes.items c.in_err-source_set.field-0.0 c.in_err-source_set.ensures)

pub returns-in-Fit-clause-given : goal.returns-in-Fit-clause-given
returns-in-Fit-clause-given c =
    rw c.into_sources.ensures.sources (ends_as (names_in c.args.natives.now) c.args.schema.now c.args.codes.items c.in_ok-source_set.field-0 (resolutions.Fit c.in-Fit.source_set) c.in_ok-source_set.ensures c.in-Fit.is)

pub returns-in-Unfit-Source-clause-given : goal.returns-in-Unfit-Source-clause-given
returns-in-Unfit-Source-clause-given c =
    let w = c.in-Unfit-Source in
    inr (ends_as (names_in c.args.natives.now) c.args.schema.now c.args.codes.items c.in_ok-source_set.field-0 (resolutions.Unfit (unfits.Source w.name w.fault)) c.in_ok-source_set.ensures (w.is ∙ ap (λ u. resolutions.Unfit u) w.field-0-is))

pub returns-in-Unresolved-clause-given : goal.returns-in-Unresolved-clause-given
returns-in-Unresolved-clause-given c =
    inr (ends_as (names_in c.args.natives.now) c.args.schema.now c.args.codes.items c.in_ok-source_set.field-0 (resolutions.Unresolved c.in-Unresolved.fault) c.in_ok-source_set.ensures c.in-Unresolved.is)
