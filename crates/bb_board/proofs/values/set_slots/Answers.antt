use Rattle.std.proofs.Common.{◌+◌, ◌∙◌, drop, get_or, map}
use Rattle.std.proofs.lemmas.List.{get_or_default}
use Rattle.std.proofs.lemmas.Result.{err_from_is_err_and}
use Rattle.bb_basis.proofs.IntoMapLemmas.{next_one, length_drop_all}
use Rattle.bb_basis.proofs.TryFoldLemmas.{try_fold_next, try_fold_error, try_fold_end}
use Rattle.bb_schema_form.specs.UnitsDocument.{given_declaration}
use Rattle.bb_board.specs.Load.{slot_after}
use Rattle.bb_board.specs.declared.units_fault.UnitsFault.TheVariants.{Memory}
use Rattle.bb_board.proofs.values.set_slots.Goals as goal

pub returns-in_err-set_slot-clause-gives : goal.returns-in_err-set_slot-clause-gives
returns-in_err-set_slot-clause-gives c =
    let p = err_from_is_err_and c.from_residual.result c.from_residual.ensures.1 in
    let i = c.loop-slot.slot-index in
    rw (p.1, p.2) (try_fold_error Memory (slot_after c.args.schema.now c.args.unit (map given_declaration c.args.given.now)) c.loop-slot.board.world (drop i c.args.slots.now) (drop (i + 1) c.args.slots.now)
    (get_or c.args.slots.now i 0) c.in_err-set_slot.field-0.0 _ (next_one c.args.slots.now i (get_or c.args.slots.now i 0) c.loop-slot-test.true (get_or_default c.args.slots.now i 0 (get_or c.args.slots.now i 0) c.loop-slot-test.true)) c.in_err-set_slot.ensures.gives c.loop-slot.invariant.0)

pub loop-slot-preserved : goal.loop-slot-preserved
loop-slot-preserved c =
    let i = c.loop-slot.slot-index in (
      try_fold_next (slot_after c.args.schema.now c.args.unit (map given_declaration c.args.given.now)) c.loop-slot.board.world c.set_slot.new.board.world (drop i c.args.slots.now) (drop (i + 1) c.args.slots.now)
          (get_or c.args.slots.now i 0) _ (next_one c.args.slots.now i (get_or c.args.slots.now i 0) c.loop-slot-test.true (get_or_default c.args.slots.now i 0 (get_or c.args.slots.now i 0) c.loop-slot-test.true)) c.in_ok-set_slot.ensures.gives c.loop-slot.invariant.0,
      c.in_ok-set_slot.ensures.schema ∙ c.loop-slot.invariant.1,
      c.in_ok-set_slot.ensures.refused ∙ c.loop-slot.invariant.2,
    )

pub returns-clause-gives : goal.returns-clause-gives
returns-clause-gives c =
    try_fold_end (slot_after c.args.schema.now c.args.unit (map given_declaration c.args.given.now)) c.loop-slot.board.world (drop c.loop-slot.slot-index c.args.slots.now) _
    (length_drop_all c.args.slots.now c.loop-slot.slot-index c.loop-slot-test.false) c.loop-slot.invariant.0
