use Rattle.std.proofs.lemmas.Result.{err_from_is_err_and}
use Rattle.bb_basis.proofs.IntoMapLemmas.{into_map_error, into_map_next, into_map_end, next_one, length_drop_all}
use Rattle.bb_schema.specs.Resolution.{resolved_slot}
use Rattle.bb_schema_classes.specs.declared.fault.SchemaFault.TheVariants.{Memory}
use Rattle.bb_schema.proofs.resolve.resolve_slots.Goals as goal

pub returns-in_err-resolve_slot : goal.returns-in_err-resolve_slot
returns-in_err-resolve_slot c =
    let p = err_from_is_err_and c.from_residual.result c.from_residual.ensures.1 in
    rw (p.1, p.2) (into_map_error Memory (resolved_slot c.args.classes.now c.args.drafts.now) c.loop-draft.slots.items _ _ c.draft-item.result c.in_err-resolve_slot.field-0.0 _
    (next_one c.args.drafts.now c.loop-draft.draft-index c.draft-item.result c.loop-draft-test.true c.draft-item.is) c.in_err-resolve_slot.ensures c.loop-draft.invariant)

pub loop-draft-preserved : goal.loop-draft-preserved
loop-draft-preserved c = rw c.in_ok-push.ensures.items (into_map_next (resolved_slot c.args.classes.now c.args.drafts.now) c.loop-draft.slots.items _ _ c.draft-item.result c.in_ok-resolve_slot.field-0 _
    (next_one c.args.drafts.now c.loop-draft.draft-index c.draft-item.result c.loop-draft-test.true c.draft-item.is) c.in_ok-resolve_slot.ensures c.loop-draft.invariant)

pub returns : goal.returns
returns c = into_map_end (resolved_slot c.args.classes.now c.args.drafts.now) c.loop-draft.slots.items _ _ (length_drop_all c.args.drafts.now c.loop-draft.draft-index c.loop-draft-test.false) c.loop-draft.invariant
