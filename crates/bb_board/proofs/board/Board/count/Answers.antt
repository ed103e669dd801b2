use Rattle.std.proofs.Common.{◌≡◌, ◌≤◌, ℕ, length, subst, sym}
use Rattle.std.proofs.lemmas.Result.{IfOk-weaker}
use Rattle.bb_units.specs.declared.units.TheConstants.{UNIT_LIMIT}
use Rattle.bb_query.specs.Answer.{answers, answer}
use Rattle.bb_board.proofs.FewLemmas.{few_pass}
use Rattle.bb_board.proofs.board.Board.count.Goals as goal

pub returns-clause-few : goal.returns-clause-few
returns-clause-few c =
    let s = c.get-schema.result.now in
    let w = c.self.inside.state in
    let few = few_pass w.units (answers s w.units w.spaces c.args.query.now c.args.operands.now) c.self.invariant.1.units in
    IfOk-weaker c.count.result (λ n. n ≡ length (answer s w.units w.spaces c.args.query.now c.args.operands.now)) (λ n. n ≤ UNIT_LIMIT)
    (λ n is. subst (λ (k : ℕ). k ≤ UNIT_LIMIT) (sym is) few) c.count.ensures
