use Rattle.std.proofs.Common.{◌<◌, length, refl, subst, sym}
use Rattle.bb_space.specs.proving.Standing.{AreStanding}
use Rattle.bb_space.proofs.ListLemmas.{seen_count, seen_within}
use Rattle.bb_space.specs.proving.Indexed.{seen}
use Rattle.bb_space.proofs.StandingLemmas.{standing_left}
use Rattle.bb_space.proofs.spaces.Spaces.leave.Goals as goal

pub invariant_of-self : goal.invariant_of-self
invariant_of-self c =
    let items = c.self.inside.spaces.items in
    let within : c.args.space < length items = seen_within items c.args.self.now c.args.space c.self.view_is c.requires in
    let lt : c.args.space < length (seen items).spaces = subst (λ k. c.args.space < k) (sym (seen_count items (seen items) refl)) within in (
      c.leave.ensures.indexed,
      subst (λ t. AreStanding t c.remove.new.self) (sym c.leave.ensures.left)
          (standing_left (seen items) c.self.inside.standing c.args.space c.args.unit lt c.self.invariant.1 c.remove.new.self c.remove.ensures),
    )
