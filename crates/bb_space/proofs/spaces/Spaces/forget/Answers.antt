use Rattle.std.proofs.Common.{subst, sym}
use Rattle.bb_space.specs.proving.Standing.{AreStanding}
use Rattle.bb_space.specs.proving.Indexed.{seen}
use Rattle.bb_space.proofs.StandingLemmas.{standing_forgotten}
use Rattle.bb_space.proofs.spaces.Spaces.forget.Goals as goal

pub invariant_of-self : goal.invariant_of-self
invariant_of-self c = (
  c.leave_each.ensures.indexed,
  subst (λ t. AreStanding t c.take-list.new.self) (sym c.leave_each.ensures.left)
      (standing_forgotten (seen c.self.inside.spaces.items) c.args.unit c.self.inside.standing c.take-list.new.self c.self.invariant.1 c.take-list.ensures.others),
)
