use Rattle.std.proofs.Common.{ap, Bool, List}
use Rattle.bb_schema.specs.proving.Struck.{all_marked, first_row}
use Rattle.bb_schema.proofs.RelationLemmas.{mark_next, mark_end}
use Rattle.bb_schema.proofs.struck.first_row.Goals as goal

pub loop-to-init : goal.loop-to-init
loop-to-init c = ap (λ (row : List Bool). all_marked row c.args.owned.now) c.in_ok-row.ensures

pub loop-to-preserved : goal.loop-to-preserved
loop-to-preserved c =
    mark_next c.loop-to.row.items c.mark.new.row.items c.args.owned.now c.loop-to.to-index (first_row c.args.count c.args.owned.now c.args.class) c.loop-to-test.true
    c.mark.ensures c.loop-to.invariant

pub returns : goal.returns
returns c = mark_end c.loop-to.row.items c.args.owned.now c.loop-to.to-index (first_row c.args.count c.args.owned.now c.args.class) c.loop-to-test.false c.loop-to.invariant
