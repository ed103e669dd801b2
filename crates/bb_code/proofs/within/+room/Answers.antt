use Rattle.std.proofs.Common.{rules, arith, sym, ap, ◌∙◌}
use Rattle.bb_pattern.specs.View.{tree_of}
use Rattle.bb_pattern.proofs.Laws.{parts_below_and, parts_below_or, no_room_after}
use Rattle.bb_code.proofs.within.+room.Goals as goal

pub room_after-rooms_after-requires : goal.room_after-rooms_after-requires
room_after-rooms_after-requires t c =
    let below = parts_below_and c.args.pattern.now c.in-And.parts.items c.as_slice.result.now (sym (ap tree_of c.in-And.is) ∙ c.node.ensures) c.as_slice.ensures.value in
    (omega (arith, below), tt)

pub room_after-rooms_after-requires-in-Or : goal.room_after-rooms_after-requires-in-Or
room_after-rooms_after-requires-in-Or t c =
    let below = parts_below_or c.args.pattern.now c.in-Or.parts.items c.as_slice-in-Or.result.now (sym (ap tree_of c.in-Or.is) ∙ c.node.ensures) c.as_slice-in-Or.ensures.value in
    (omega (arith, below), tt)

pub room_after-returns-then-room-eq0-clause-left : goal.room_after-returns-then-room-eq0-clause-left
room_after-returns-then-room-eq0-clause-left t c = no_room_after c.args.pattern.now c.args.room (search rules)
