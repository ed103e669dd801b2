use Rattle.std.proofs.lemmas.Result.{err_from_is_err_and}
use Rattle.bb_board.proofs.CreateLemmas.{with_unit-ok, with_unit-err}
use Rattle.bb_board.proofs.loader.create.Goals as goal

pub returns-clause-gives : goal.returns-clause-gives
returns-clause-gives c = rw c.in_ok-create.ensures.created (with_unit-ok c.args.board.now.world c.args.class c.in_ok-create.field-0 c.in_ok-create.ensures.number)

pub returns-in_err-create-clause-gives : goal.returns-in_err-create-clause-gives
returns-in_err-create-clause-gives c =
    let p = err_from_is_err_and c.from_residual.result c.from_residual.ensures.1 in
    rw (p.1, p.2) (with_unit-err c.args.board.now.world c.args.class c.in_err-create.field-0.0 c.in_err-create.ensures.number)
