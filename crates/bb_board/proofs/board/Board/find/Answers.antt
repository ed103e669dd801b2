use Rattle.std.proofs.Common.{◌≡◌, ◌≤◌, ℕ, List, length, subst, sym}
use Rattle.std.proofs.lemmas.Result.{IfOk-weaker}
use Rattle.bb_units.specs.declared.units.TheConstants.{UNIT_LIMIT}
use Rattle.bb_query.specs.Answer.{answers, answer}
use Rattle.bb_board.proofs.FewLemmas.{few_pass}
use Rattle.bb_board.proofs.board.Board.find.Goals as goal

pub returns-clause-few : goal.returns-clause-few
returns-clause-few c =
    let s = c.get-schema.result.now in
    let w = c.self.inside.state in
    let few = few_pass w.units (answers s w.units w.spaces c.args.query.now c.args.operands.now) c.self.invariant.1.units in
    IfOk-weaker c.find.result (λ found. found.items ≡ answer s w.units w.spaces c.args.query.now c.args.operands.now) (λ found. length found.items ≤ UNIT_LIMIT)
    (λ found is. subst (λ (xs : List ℕ). length xs ≤ UNIT_LIMIT) (sym is) few) c.find.ensures
