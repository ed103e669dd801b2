use Rattle.std.proofs.Common.{rules, arith, sym, ap, ◌∙◌}
use Rattle.bb_pattern.specs.View.{tree_of}
use Rattle.bb_pattern.proofs.Parts.{parts_below_and, parts_below_or, no_room_after}
use Rattle.bb_pattern.proofs.+room.Goals as goal

pub pattern::Pattern::room_after-rooms_after-requires : goal.pattern::Pattern::room_after-rooms_after-requires
pattern::Pattern::room_after-rooms_after-requires t c =
    let below = parts_below_and c.args.self.now c.in-And.parts.items c.as_slice.result.now (sym (ap tree_of c.in-And.is) ∙ c.self.view_is) c.as_slice.ensures.value in
    (omega (arith, below), tt)

pub pattern::Pattern::room_after-rooms_after-requires-in-Or : goal.pattern::Pattern::room_after-rooms_after-requires-in-Or
pattern::Pattern::room_after-rooms_after-requires-in-Or t c =
    let below = parts_below_or c.args.self.now c.in-Or.parts.items c.as_slice-in-Or.result.now (sym (ap tree_of c.in-Or.is) ∙ c.self.view_is) c.as_slice-in-Or.ensures.value in
    (omega (arith, below), tt)

pub pattern::Pattern::room_after-returns-then-room-eq0 : goal.pattern::Pattern::room_after-returns-then-room-eq0
pattern::Pattern::room_after-returns-then-room-eq0 t c = no_room_after c.args.self.now c.args.room (search rules)
