use Rattle.std.proofs.Common.{◌≤◌, length, sym, subst, arith}
use Rattle.bb_space.proofs.StandingLemmas.{rank_within}
use Rattle.bb_space.proofs.standing.put_at.Goals as goal

pub insert-requires : goal.insert-requires
insert-requires c =
    let within : c.rank-at.result ≤ length c.deref.result.now = subst (λ k. k ≤ length c.deref.result.now) (sym c.rank-at.ensures) (rank_within c.args.space c.deref.result.now) in
    omega (arith, within, c.deref.ensures.len)
