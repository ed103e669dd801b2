use Rattle.std.proofs.Common.{◌≡◌, ◌∙◌, ℕ, ap, arith, List, map}
use Rattle.std.specs.List.{range_with_len}
use Rattle.bb_schema.specs.Heirs.{owned_classes}
use Rattle.bb_schema.specs.proving.Struck.{first_row}
use Rattle.bb_schema.proofs.RelationLemmas.{made_one}
use Rattle.bb_schema.proofs.struck.first_rows.Goals as goal

pub loop-class-preserved : goal.loop-class-preserved
loop-class-preserved c =
    made_one (λ k. first_row c.count-count.result (owned_classes c.args.lineage.now c.args.slots.now k) k) c.loop-class.rows.items c.push.new.self.items c.loop-class.class _
    c.in_ok-push.ensures.items (c.from.ensures ∙ (c.in_ok-row.ensures
    ∙ ap (λ (owned : List ℕ). first_row c.count-count.result owned c.loop-class.class) (c.deref.ensures.value ∙ c.in_ok-owned.ensures))) c.loop-class.invariant

pub returns : goal.returns
returns c =
    let last : c.loop-class.class ≡ c.count-count.result = omega (arith, c.loop-class-test.false, c.loop-class.auto.class-end) in
    c.loop-class.invariant
    ∙ (ap (λ (n : ℕ). map (λ k. first_row c.count-count.result (owned_classes c.args.lineage.now c.args.slots.now k) k) (range_with_len 0 n)) last
    ∙ ap (λ (n : ℕ). map (λ k. first_row n (owned_classes c.args.lineage.now c.args.slots.now k) k) (range_with_len 0 n)) c.count-count.ensures.count)
