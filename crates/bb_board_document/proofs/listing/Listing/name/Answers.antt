use Rattle.std.proofs.Common.{◌∙◌, sym, subst}
use Rattle.std.specs.List.Sorted.{IsStrictlySortedBy}
use Rattle.std.specs.Ordering.{nat_cmp}
use Rattle.bb_space.proofs.Laws.{keys_rise}
use Rattle.bb_board_document.proofs.listing.Listing.name.Goals as goal

pub lower-requires : goal.lower-requires
lower-requires c =
    subst (IsStrictlySortedBy nat_cmp) (sym (c.deref.ensures.value ∙ c.self.invariant)) (keys_rise c.self.inside.view.now.world.units.units)
