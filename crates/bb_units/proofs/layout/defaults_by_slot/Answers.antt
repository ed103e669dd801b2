use Rattle.std.proofs.Common.{◌∙◌, sym, ap, subst, ◌<◌, Some}
use Rattle.bb_schema.specs.Slots.{default_in}
use Rattle.bb_schema.specs.declared.slot.Slot.{Slot}
use Rattle.bb_units.proofs.LayoutLemmas.{made_one_more, option_there}
use Rattle.bb_units.proofs.layout.defaults_by_slot.Goals as goal

pub loop-slot-preserved : goal.loop-slot-preserved
loop-slot-preserved c =
    let f = λ (t : Slot). default_in t.content in
    let there = option_there f c.args.schema.now.slots c.loop-slot.slot (subst (λ n. c.loop-slot.slot < n) c.slot_count-slot-end.ensures.count c.loop-slot-test.true) in
    rw c.in_ok-push.ensures.items (made_one_more f c.args.schema.now.slots c.loop-slot.slot c.in_ok-default_of.field-0 c.loop-slot.defaults.items (there ∙ ap (λ d. Some d) (sym c.in_ok-default_of.ensures)) c.loop-slot.invariant)
