use Rattle.std.proofs.lemmas.Result.{IfOk-weaker}
use Rattle.bb_board.proofs.FewLemmas.{few_ends}
use Rattle.bb_board.proofs.board.Board.links.Goals as goal

pub returns-clause-few : goal.returns-clause-few
returns-clause-few c =
    IfOk-weaker c.ends.result _ _ (λ found is. rw is (few_ends c.self.inside.schema c.self.inside.state c.self.invariant.0 c.self.invariant.1 c.args.unit c.args.slot)) c.ends.ensures
