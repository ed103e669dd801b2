use Rattle.std.proofs.Common.{◌≡◌, ◌++◌, [], take, drop}
use Rattle.bb_board.specs.proving.Deleted.{all_deletion_notes}
use Rattle.bb_board.proofs.state.State.deletion_notes.Given as goal

abbrev pub invariant-loop-index : goal.invariant-loop-index
invariant-loop-index l =
    l.notes.items ++ all_deletion_notes l.schema l.self (take l.index l.units) (drop l.index l.units)
    ≡ all_deletion_notes l.fn.schema l.fn.self [] l.fn.units
