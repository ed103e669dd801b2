use Rattle.std.proofs.lemmas.Result.{err_from_is_err_and}
use Rattle.bb_shell.proofs.AcceptLemmas.{classes_fail, codes_told}
use Rattle.bb_shell.proofs.accepting.accept.Goals as goal

pub returns-in_err-name : goal.returns-in_err-name
returns-in_err-name c =
    let p = err_from_is_err_and c.from_residual.result c.from_residual.ensures.1 in
    rw (p.1, p.2) (classes_fail c.args.schema.now c.args.draft c.in_err-name.field-0.0 c.in_err-name.ensures.classes)

pub returns : goal.returns
returns c =
    codes_told c.args.schema.now c.args.draft c.in_ok-name.name c.in_ok-name.classes c.accept_draft.result c.in_source.result c.in_ok-name.ensures.name c.in_ok-name.ensures.classes c.accept_draft.ensures c.in_source.ensures
