use Rattle.std.proofs.lemmas.Result.{err_from_is_err_and}
use Rattle.bb_rules.proofs.StepLemmas.{all_found, obviating_fails, retriggering_fails}
use Rattle.bb_rules.proofs.found.Found.with_classes.Goals as goal

pub returns-in_err-obviating : goal.returns-in_err-obviating
returns-in_err-obviating g c =
    let p = err_from_is_err_and c.from_residual-in_err-obviating.result c.from_residual-in_err-obviating.ensures.1 in
    rw (p.1, p.2) (obviating_fails c.args.schema.now c.args.classes c.args.draft.now c.as_slice.result.now c.in_ok-triggers.triggers c.in_err-obviating.field-0.0 c.as_slice.ensures c.in_ok-triggers.ensures c.in_err-obviating.ensures)

pub returns-in_err-retriggering : goal.returns-in_err-retriggering
returns-in_err-retriggering g c =
    let p = err_from_is_err_and c.from_residual-in_err-retriggering.result c.from_residual-in_err-retriggering.ensures.1 in
    rw (p.1, p.2) (retriggering_fails c.args.schema.now c.args.classes c.args.draft.now c.as_slice.result.now c.in_ok-triggers.triggers c.in_ok-obviating.obviating c.in_err-retriggering.field-0.0 c.as_slice.ensures c.in_ok-triggers.ensures c.in_ok-obviating.ensures c.in_err-retriggering.ensures)

pub returns : goal.returns
returns g c = all_found c.args.schema.now c.args.classes c.args.draft.now c.as_slice.result.now c.in_ok-triggers.triggers c.in_ok-obviating.obviating c.in_ok-retriggering.retriggering c.as_slice.ensures c.in_ok-triggers.ensures c.in_ok-obviating.ensures c.in_ok-retriggering.ensures
