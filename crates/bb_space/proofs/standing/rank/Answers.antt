use Rattle.std.proofs.Common.{rules}
use Rattle.bb_space.proofs.StandingLemmas.{rank_is}
use Rattle.bb_space.proofs.standing.rank.Goals as goal

pub returns : goal.returns
returns c = let is = rank_is c.args.space c.args.list.now in search rules
