use Rattle.std.proofs.Common.{◌<◌, ◌≤◌, ◌∙◌, sym, length, arith}
use Rattle.bb_board_document.proofs.FirstLemmas.{not_first, one_first, last_first}
use Rattle.bb_board_document.proofs.link.first_slots.Goals as goal

pub loop-slot-preserved-then-not-comes_first : goal.loop-slot-preserved-then-not-comes_first
loop-slot-preserved-then-not-comes_first c =
    let slots = c.args.schema.now.slots in
    let lt : c.loop-slot.slot < length slots = omega (arith, c.loop-slot-test.true, c.slot_count-slot-end.ensures.count) in
    not_first slots c.loop-slot.slot c.loop-slot.slots.items _ c.loop-slot.invariant (sym c.comes_first.ensures ∙ c.if-not-comes_first.true) lt

pub loop-slot-preserved : goal.loop-slot-preserved
loop-slot-preserved c =
    let slots = c.args.schema.now.slots in
    let lt : c.loop-slot.slot < length slots = omega (arith, c.loop-slot-test.true, c.slot_count-slot-end.ensures.count) in
    one_first slots c.loop-slot.slot c.loop-slot.slots.items _ c.loop-slot.invariant c.push.new.self.items (sym c.comes_first.ensures ∙ c.if-not-comes_first.false) lt c.in_ok-push.ensures.items

pub returns : goal.returns
returns c =
    let all : length c.args.schema.now.slots ≤ c.loop-slot.slot = omega (arith, c.loop-slot-test.false, c.slot_count-slot-end.ensures.count) in
    last_first c.args.schema.now.slots c.loop-slot.slot c.loop-slot.slots.items _ c.loop-slot.invariant all
