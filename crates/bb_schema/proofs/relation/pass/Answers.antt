use Rattle.std.proofs.Common.{◌∙◌, ap, List, Bool, map}
use Rattle.bb_schema.specs.proving.Relation.{through}
use Rattle.bb_schema.proofs.RelationLemmas.{made_more, made_all}
use Rattle.bb_schema.proofs.relation.pass.Goals as goal

pub loop-row-preserved : goal.loop-row-preserved
loop-row-preserved c =
    made_more (λ row. through row c.row_at-other.result.now c.args.number) c.args.rows.now c.loop-row.joined.items c.push.new.self.items c.loop-row.row-index c.row-item.result _ c.loop-row-test.true c.row-item.is
    c.in_ok-push.ensures.items (c.from.ensures ∙ (c.in_ok-next.ensures ∙ ap (λ (row : List Bool). through row c.row_at-other.result.now c.args.number) c.as_slice.ensures)) c.loop-row.invariant

pub returns : goal.returns
returns c =
    made_all (λ row. through row c.row_at-other.result.now c.args.number) c.args.rows.now c.loop-row.joined.items c.loop-row.row-index c.loop-row-test.false c.loop-row.invariant
    ∙ ap (λ (other : List Bool). map (λ row. through row other c.args.number) c.args.rows.now) c.row_at-other.ensures
