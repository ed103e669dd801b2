use Rattle.std.proofs.lemmas.Result.{err_from_is_err_and}
use Rattle.std.proofs.lemmas.Int.{to_z-of_z}
use Rattle.std.proofs.Common.{w64, ◌∙◌, subst}
use Rattle.std.specs.Prelude.{All}
use Rattle.bb_schema.specs.Schema.{Schema}
use Rattle.bb_rules.specs.Law.{IsMade}
use Rattle.bb_shell.specs.Fitting.{names_in}
use Rattle.bb_shell.proofs.MadeLemmas.{given_made}
use Rattle.bb_shell.proofs.MeaningLemmas.{schema_fails, units_fail, sources_fail, means}
use Rattle.bb_shell.proofs.texts.read_input.Goals as goal

pub returns-in_err-schema-clause-means : goal.returns-in_err-schema-clause-means
returns-in_err-schema-clause-means c =
    let p = err_from_is_err_and c.from_residual.result c.from_residual.ensures.1 in
    rw (p.1, p.2) (schema_fails (names_in c.args.natives.now) c.args.texts.now.schema.now c.args.texts.now.units.now c.args.texts.now.sources.now c.args.texts.now.bundle.now c.args.floor c.in_err-schema.field-0.0 c.in_err-schema.ensures)

pub returns-in_err-shared-clause-means : goal.returns-in_err-shared-clause-means
returns-in_err-shared-clause-means c =
    let p = err_from_is_err_and c.from_residual-in_err-shared.result c.from_residual-in_err-shared.ensures.1 in
    rw (p.1, p.2) (units_fail (names_in c.args.natives.now) c.args.texts.now.schema.now c.args.texts.now.units.now c.args.texts.now.sources.now c.args.texts.now.bundle.now c.args.floor c.in_ok-schema.schema c.in_err-shared.field-0.0 c.in_ok-schema.ensures c.in_err-shared.ensures.means)

pub returns-in_err-sources-clause-means : goal.returns-in_err-sources-clause-means
returns-in_err-sources-clause-means c =
    let p = err_from_is_err_and c.from_residual-in_err-sources.result c.from_residual-in_err-sources.ensures.1 in
    rw (p.1, p.2) (sources_fail (names_in c.args.natives.now) c.args.texts.now.schema.now c.args.texts.now.units.now c.args.texts.now.sources.now c.args.texts.now.bundle.now c.args.floor c.in_ok-schema.schema c.in_ok-shared.board c.in_err-sources.field-0.0 c.get.result.now (c.get.ensures ∙ c.in_ok-shared.ensures.schema) c.in_ok-schema.ensures c.in_ok-shared.ensures.means c.in_err-sources.ensures.given)

pub returns-clause-means : goal.returns-clause-means
returns-clause-means c =
    rw (c.in_ok-plan.ensures, to_z-of_z w64 c.args.floor c.ranges.floor, c.in_ok-shared.ensures.schema) (means (names_in c.args.natives.now) c.args.texts.now.schema.now c.args.texts.now.units.now c.args.texts.now.sources.now c.args.texts.now.bundle.now c.args.floor c.in_ok-schema.schema c.in_ok-shared.board c.in_ok-sources.sources.items c.get.result.now (c.get.ensures ∙ c.in_ok-shared.ensures.schema) c.in_ok-schema.ensures c.in_ok-shared.ensures.means c.in_ok-sources.ensures.given)

pub returns-clause-made : goal.returns-clause-made
returns-clause-made c =
    rw c.in_ok-plan.ensures (subst (λ (s : Schema). All (IsMade s) c.in_ok-sources.sources.items) c.get.ensures (given_made (names_in c.args.natives.now) c.get.result.now c.args.texts.now.sources.now c.args.texts.now.bundle.now c.in_ok-sources.sources.items c.in_ok-sources.ensures.given))
