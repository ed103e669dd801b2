use Rattle.bb_space.specs.proving.Indexed.{seen}
use Rattle.bb_space.proofs.StandingLemmas.{standing_moves}
use Rattle.bb_space.proofs.spaces.Spaces.moved_all.Goals as goal

pub invariant_of-self : goal.invariant_of-self
invariant_of-self c =
    (c.move_all.ensures.indexed, standing_moves c.move_all.result (seen c.self.inside.spaces.items) (seen c.move_all.new.spaces.items) c.self.inside.standing c.args.unit c.args.moves.items c.move_all.ensures.moved c.move_all.ensures.err c.self.invariant.1)
