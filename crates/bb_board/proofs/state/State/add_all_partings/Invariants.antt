use Rattle.std.proofs.Common.{◌≡◌, ◌++◌, drop}
use Rattle.std.specs.List.{flat_map}
use Rattle.bb_board.specs.proving.Deleted.{slot_partings}
use Rattle.bb_board.proofs.state.State.add_all_partings.Given as goal

abbrev pub invariant-loop-slot : goal.invariant-loop-slot
invariant-loop-slot l =
    l.notes.items ++ flat_map (slot_partings l.schema l.self l.deleted.gone.now l.deleted.unit) (drop l.slot-index l.slots)
    ≡ l.fn.notes.items ++ flat_map (slot_partings l.fn.schema l.fn.self l.fn.deleted.gone.now l.fn.deleted.unit) l.fn.slots
