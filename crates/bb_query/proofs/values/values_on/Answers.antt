use Rattle.std.proofs.Common.{◌<◌, List, length, subst}
use Rattle.bb_schema.specs.declared.space.Dim.{Dim}
use Rattle.bb_schema.specs.Schema.{dims_of}
use Rattle.bb_query.proofs.ValueLemmas.{passed_dim, told_dim}
use Rattle.bb_query.proofs.values.values_on.Goals as goal

pub loop-dim-preserved-in_default : goal.loop-dim-preserved-in_default
loop-dim-preserved-in_default c =
    let lt : c.loop-dim.dim < length (dims_of c.args.schema.now c.args.space) = subst (λ (ds : List Dim). c.loop-dim.dim < length ds) c.dims-dim-end.ensures c.loop-dim-test.true in
    passed_dim c.args.schema.now c.args.units.now c.args.unit c.args.class c.args.space c.loop-dim.values c.loop-dim.dim c.slot_read-slot.result c.value_in.result _ lt c.slot_read-slot.ensures c.value_in.ensures
    c.in_default.is c.loop-dim.invariant

pub loop-dim-preserved : goal.loop-dim-preserved
loop-dim-preserved c =
    let lt : c.loop-dim.dim < length (dims_of c.args.schema.now c.args.space) = subst (λ (ds : List Dim). c.loop-dim.dim < length ds) c.dims-dim-end.ensures c.loop-dim-test.true in
    told_dim c.args.schema.now c.args.units.now c.args.unit c.args.class c.args.space c.loop-dim.values c.push.new.self c.loop-dim.dim c.slot_read-slot.result c.value_in.result c.in-Some.value _ lt c.slot_read-slot.ensures c.value_in.ensures
    c.in-Some.is c.in_ok-push.ensures.ok c.loop-dim.invariant
