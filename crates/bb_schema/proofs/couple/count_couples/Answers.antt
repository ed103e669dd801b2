use Rattle.std.proofs.Common.{refl, ◌≡◌, ◌∙◌, sym, ap, add-one, arith, suc, cond, Bool}
use Rattle.bb_schema.proofs.CoupleLemmas.{counts_go_on, counts_end, counted_on, firsts_none, firsts_more, firsts_all}
use Rattle.bb_schema.proofs.couple.count_couples.Goals as goal
use Rattle.bb_schema.proofs.couple.count_couples.Goals.{then-comes_first, else-comes_first}

pub loop-number-init : goal.loop-number-init
loop-number-init c = record { bound = omega arith; total = firsts_none c.args.slots.now; counted = rw c.new-couples_before.ensures.items refl }

pub loop-number-preserved : goal.loop-number-preserved
loop-number-preserved c =
    let next : c.if-comes_first.count ≡ counted_on c.loop-number.count c.loop-number.number c.index-slots-number.result =
    elim c.if-comes_first.branch [
      | then-comes_first w ↦ w.count-is ∙ (add-one c.loop-number.count ∙ ap (λ (b : Bool). cond b (suc c.loop-number.count) c.loop-number.count) (sym w.if-comes_first.true ∙ c.comes_first.ensures))
      | else-comes_first w ↦ w.count-is ∙ ap (λ (b : Bool). cond b (suc c.loop-number.count) c.loop-number.count) (sym w.if-comes_first.false ∙ c.comes_first.ensures)
    ] in
    record {
      bound = elim c.if-comes_first.branch [ then-comes_first w ↦ omega arith | else-comes_first w ↦ omega arith ];
      total = firsts_more c.args.slots.now c.loop-number.number c.loop-number.count c.if-comes_first.count c.index-slots-number.result c.loop-number-test.true c.index-slots-number.is next c.loop-number.invariant.total;
      counted = counts_go_on c.args.slots.now c.loop-number.couples_before.items c.push.new.self.items c.loop-number.number c.loop-number.count c.if-comes_first.count c.index-slots-number.result _ c.loop-number-test.true c.index-slots-number.is c.in_ok-push.ensures.items next c.loop-number.invariant.counted;
    }

pub returns : goal.returns
returns c = record {
  before = counts_end c.args.slots.now c.loop-number.couples_before.items c.loop-number.number c.loop-number.count _ c.loop-number-test.false c.loop-number.invariant.counted;
  all = firsts_all c.args.slots.now c.loop-number.number c.loop-number.count c.loop-number-test.false c.loop-number.invariant.total;
}
