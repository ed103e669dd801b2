use Rattle.bb_board.proofs.DeletingLemmas.{rising_live}
use Rattle.bb_board.proofs.state.State.delete_all.Goals as goal

pub forget-requires : goal.forget-requires
forget-requires c = rising_live c.args.self.now.units c.args.units.now c.requires.rising c.requires.live
