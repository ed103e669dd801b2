use Rattle.std.proofs.Common.{map, refl}
use Rattle.std.proofs.lemmas.Result.{err_from_is_err_and}
use Rattle.serde_json.specs.View.{view}
use Rattle.bb_schema_form.specs.declared.fault.DocumentFault.TheVariants.{Memory}
use Rattle.bb_schema_form.specs.Faults.{inside}
use Rattle.bb_basis.specs.Results.{try_map_at}
use Rattle.bb_basis.proofs.ListLemmas.{map-last}
use Rattle.bb_basis.proofs.PlacedLemmas.{placed_err, placed_ok}
use Rattle.bb_basis.proofs.MapAtLemmas.{map_at_error, map_at_next, map_at_end}
use Rattle.bb_schema_form.proofs.entry.entries.Goals as goal

pub returns-in_err-entry : goal.returns-in_err-entry
returns-in_err-entry g c =
    let p = err_from_is_err_and c.from_residual.result c.from_residual.ensures.1 in
    let at = inside c.args.list in
    rw (p.1, p.2) (map_at_error Memory at g.E.Entry.form view (map g.E.Entry.declared c.loop-index.entries.items) c.args.values.now c.loop-index.index c.index-values-index.result c.in_err-entry.field-0.0 (try_map_at at g.E.Entry.form 0 (map view c.args.values.now)) c.loop-index-test.true c.index-values-index.is
    (placed_err Memory Memory (at c.loop-index.index) g.E.Entry.declared c.of.result (g.E.Entry.form (view c.index-values-index.result)) c.in_err-entry.field-0.0 refl c.of.ensures c.in_err-entry.ensures) c.loop-index.invariant)

pub loop-index-preserved : goal.loop-index-preserved
loop-index-preserved g c =
    let at = inside c.args.list in
    rw (c.in_ok-push.ensures.items, map-last g.E.Entry.declared c.loop-index.entries.items c.in_ok-entry.entry)
    (map_at_next at g.E.Entry.form view (map g.E.Entry.declared c.loop-index.entries.items) c.args.values.now c.loop-index.index c.index-values-index.result (g.E.Entry.declared c.in_ok-entry.entry) (try_map_at at g.E.Entry.form 0 (map view c.args.values.now)) c.loop-index-test.true c.index-values-index.is
    (placed_ok Memory (at c.loop-index.index) g.E.Entry.declared c.of.result (g.E.Entry.form (view c.index-values-index.result)) c.in_ok-entry.entry c.of.ensures c.in_ok-entry.ensures) c.loop-index.invariant)

pub returns : goal.returns
returns g c = map_at_end (inside c.args.list) g.E.Entry.form view (map g.E.Entry.declared c.loop-index.entries.items) c.args.values.now c.loop-index.index _ c.loop-index-test.false c.loop-index.invariant
