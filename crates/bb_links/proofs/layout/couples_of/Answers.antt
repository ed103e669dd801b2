use Rattle.std.proofs.Common.{◌<◌, ◌≤◌, ◌∙◌, ap, sym, length, arith}
use Rattle.bb_links.specs.declared.couple.Singular.{Singular}
use Rattle.bb_links.specs.Couples.{no_pairs}
use Rattle.bb_links.specs.Layout.{is_single}
use Rattle.bb_links.proofs.LayoutLemmas.{not_first, one_first, last_first}
use Rattle.bb_links.proofs.layout.couples_of.Goals as goal

pub loop-slot-preserved-then-not-comes_first : goal.loop-slot-preserved-then-not-comes_first
loop-slot-preserved-then-not-comes_first c =
    let slots = c.args.schema.now.slots in
    let lt : c.loop-slot.slot < length slots = omega (arith, c.loop-slot-test.true, c.slot_count-slot-end.ensures.count) in
    not_first slots c.loop-slot.slot c.loop-slot.couples.items _ (sym c.comes_first.ensures ∙ c.if-not-comes_first.true) lt c.loop-slot.invariant

pub loop-slot-preserved : goal.loop-slot-preserved
loop-slot-preserved c =
    let slots = c.args.schema.now.slots in
    let lt : c.loop-slot.slot < length slots = omega (arith, c.loop-slot-test.true, c.slot_count-slot-end.ensures.count) in
    let singular : Singular = record { a = c.is_single.result; b = c.is_single-in-loop-slot.result } in
    let one = c.new.ensures ∙ (ap (λ a. no_pairs (record { a = a; b = c.is_single-in-loop-slot.result })) c.is_single.ensures
    ∙ ap (λ b. no_pairs (record { a = is_single slots c.loop-slot.slot; b = b })) (c.is_single-in-loop-slot.ensures ∙ ap (is_single slots) c.inverse.ensures)) in
    one_first slots c.loop-slot.slot c.loop-slot.couples.items c.push.new.self.items c.new.result _ (sym c.comes_first.ensures ∙ c.if-not-comes_first.false) lt c.loop-slot.invariant one c.in_ok-push.ensures.items

pub returns : goal.returns
returns c =
    let all : length c.args.schema.now.slots ≤ c.loop-slot.slot = omega (arith, c.loop-slot-test.false, c.slot_count-slot-end.ensures.count) in
    last_first c.args.schema.now.slots c.loop-slot.slot c.loop-slot.couples.items _ all c.loop-slot.invariant
