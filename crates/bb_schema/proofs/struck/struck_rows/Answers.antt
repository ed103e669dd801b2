use Rattle.std.proofs.Common.{◌∙◌, ap, Bool, List, length}
use Rattle.bb_schema.specs.proving.Struck.{members, struck_row}
use Rattle.bb_schema.proofs.RelationLemmas.{made_more, made_all}
use Rattle.bb_schema.proofs.struck.struck_rows.Goals as goal

pub loop-row-preserved : goal.loop-row-preserved
loop-row-preserved c =
    made_more (λ row. struck_row c.args.lineage.now (members (length c.args.lineage.now) row)) c.args.closed.now c.loop-row.rows.items c.push.new.self.items c.loop-row.row-index c.row-item.result _ c.loop-row-test.true c.row-item.is
    c.in_ok-push.ensures.items (c.from.ensures ∙ (c.in_ok-struck.ensures
    ∙ ap (struck_row c.args.lineage.now) (c.deref.ensures.value ∙ (c.in_ok-heirs.ensures ∙ ap (λ (row : List Bool). members (length c.args.lineage.now) row) c.as_slice.ensures)))) c.loop-row.invariant

pub returns : goal.returns
returns c = made_all (λ row. struck_row c.args.lineage.now (members (length c.args.lineage.now) row)) c.args.closed.now c.loop-row.rows.items c.loop-row.row-index c.loop-row-test.false c.loop-row.invariant
