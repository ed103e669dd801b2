use Rattle.std.proofs.Common.{◌≡◌, drop}
use Rattle.std.specs.List.{flat_map, fold}
use Rattle.bb_board.specs.proving.Found.{found_more, parts_by}
use Rattle.bb_board.proofs.state.State.add_parts.Given as goal

abbrev pub invariant-loop-slot : goal.invariant-loop-slot
invariant-loop-slot l =
    fold found_more l.found (flat_map (parts_by l.schema l.self l.unit) (drop l.slot-index l.slots))
    ≡ fold found_more l.fn.found (flat_map (parts_by l.fn.schema l.fn.self l.fn.unit) l.fn.slots)
