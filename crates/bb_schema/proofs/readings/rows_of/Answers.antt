use Rattle.std.proofs.Common.{◌≡◌, ◌∙◌, ap, arith, ℕ, Bool, length, map}
use Rattle.std.specs.List.{range_with_len}
use Rattle.bb_schema.specs.proving.Relation.{row_has}
use Rattle.bb_schema_classes.specs.Firsts.{row_if}
use Rattle.bb_schema.proofs.RelationLemmas.{made_one}
use Rattle.bb_schema.proofs.readings.rows_of.Goals as goal

pub loop-first-preserved : goal.loop-first-preserved
loop-first-preserved c =
    made_one (λ first. row_if (row_has c.args.read.now first) c.args.dims.now first) c.loop-first.rows.items c.push.new.self.items c.loop-first.first _ c.in_ok-push.ensures.items
    (c.from.ensures ∙ (c.in_ok-row.ensures ∙ ap (λ (b : Bool). row_if b c.args.dims.now c.loop-first.first) c.row_has.ensures)) c.loop-first.invariant

pub returns : goal.returns
returns c =
    let last : c.loop-first.first ≡ length c.args.read.now = omega (arith, c.loop-first-test.false, c.loop-first.auto.first-end) in
    c.loop-first.invariant ∙ ap (λ (n : ℕ). map (λ first. row_if (row_has c.args.read.now first) c.args.dims.now first) (range_with_len 0 n)) last
