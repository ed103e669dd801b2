use Rattle.std.proofs.Common.{◌≡◌, drop, map}
use Rattle.bb_basis.specs.Results.{try_fold}
use Rattle.bb_schema_form.specs.UnitsDocument.{given_declaration}
use Rattle.bb_board.specs.Load.{slot_after}
use Rattle.bb_board.proofs.values.set_slots.Given as goal

abbrev pub invariant-loop-slot : goal.invariant-loop-slot
invariant-loop-slot l =
    (try_fold (slot_after l.schema l.unit (map given_declaration l.given)) l.board.world (drop l.slot-index l.slots)
    ≡ try_fold (slot_after l.fn.schema l.fn.unit (map given_declaration l.fn.given)) l.fn.board.world l.fn.slots)
    × (l.board.schema ≡ l.fn.board.schema)
    × (l.board.refused ≡ l.fn.board.refused)
