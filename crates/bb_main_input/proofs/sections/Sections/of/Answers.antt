use Rattle.std.proofs.Common.{length, sym, ◌∙◌, refl}
use Rattle.std.proofs.lemmas.Bool.{eqb-true}
use Rattle.std.proofs.lemmas.Result.{err_from_is_err_and}
use Rattle.bb_main_input.proofs.HeaderLemmas.{some_from}
use Rattle.bb_main_input.proofs.OrderLemmas.{alone-end, alone-more, bundle-taken, sections-finish, sections-lacks, sources-taken, units-taken}
use Rattle.bb_main_input.proofs.sections.Sections.of.Goals as goal

pub returns-in_err-schema : goal.returns-in_err-schema
returns-in_err-schema c =
    let p = err_from_is_err_and c.from_residual.result c.from_residual.ensures.1 in
    let lacks = rw c.in_err-schema.ensures.ok_part at c.section.ensures in
    let is = rw c.in_err-schema.ensures.ok_part at c.in_err-schema.ensures.value in
    rw (p.1, p.2, sections-lacks c.args.text.now lacks) (cc)

pub returns-then-not-is_empty : goal.returns-then-not-is_empty
returns-then-not-is_empty c =
    let taken = rw c.in_ok-schema.ensures.ok_part at c.section.ensures in
    let units = units-taken c.in_ok-schema.rest.now c.section-2.result _ c.unwrap_or.result c.unwrap_or.ensures c.section-2.ensures taken.2 refl refl in
    let sources = sources-taken c.unwrap_or.result.1.now c.section-3.result _ c.unwrap_or-2.result c.unwrap_or-2.ensures c.section-3.ensures units.begins refl refl in
    let bundle = bundle-taken c.unwrap_or-2.result.1.now c.section-4.result _ c.unwrap_or-3.result c.unwrap_or-3.ensures c.section-4.ensures sources.begins refl refl in
    sym (sections-finish c.args.text.now c.in_ok-schema.schema.now c.in_ok-schema.rest.now c.unwrap_or.result c.unwrap_or-2.result c.unwrap_or-3.result taken.0 taken.1 units sources bundle
    ∙ alone-more _ c.unwrap_or-3.result.1.now bundle.begins (some_from (length c.unwrap_or-3.result.1.now) c.if-not-is_empty.ensures))

pub returns : goal.returns
returns c =
    let taken = rw c.in_ok-schema.ensures.ok_part at c.section.ensures in
    let units = units-taken c.in_ok-schema.rest.now c.section-2.result _ c.unwrap_or.result c.unwrap_or.ensures c.section-2.ensures taken.2 refl refl in
    let sources = sources-taken c.unwrap_or.result.1.now c.section-3.result _ c.unwrap_or-2.result c.unwrap_or-2.ensures c.section-3.ensures units.begins refl refl in
    let bundle = bundle-taken c.unwrap_or-2.result.1.now c.section-4.result _ c.unwrap_or-3.result c.unwrap_or-3.ensures c.section-4.ensures sources.begins refl refl in
    sym (sections-finish c.args.text.now c.in_ok-schema.schema.now c.in_ok-schema.rest.now c.unwrap_or.result c.unwrap_or-2.result c.unwrap_or-3.result taken.0 taken.1 units sources bundle
    ∙ alone-end _ c.unwrap_or-3.result.1.now (eqb-true (length c.unwrap_or-3.result.1.now) 0 (sym c.if-not-is_empty.ensures)))
