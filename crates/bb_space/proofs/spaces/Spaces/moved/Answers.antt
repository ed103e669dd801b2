use Rattle.bb_space.specs.proving.Indexed.{seen}
use Rattle.bb_space.proofs.StandingLemmas.{standing_moved}
use Rattle.bb_space.proofs.spaces.Spaces.moved.Goals as goal

pub invariant_of-self : goal.invariant_of-self
invariant_of-self c =
    (c.move_one.ensures.indexed, standing_moved c.move_one.result (seen c.self.inside.spaces.items) (seen c.move_one.new.spaces.items) c.self.inside.standing c.args.space c.args.unit c.args.values c.move_one.ensures.moved c.move_one.ensures.err c.self.invariant.1)
