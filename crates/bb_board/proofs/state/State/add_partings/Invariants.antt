use Rattle.std.proofs.Common.{◌≡◌, ◌++◌, drop, filter}
use Rattle.std.specs.List.{flat_map}
use Rattle.bb_board.specs.Links.{parting}
use Rattle.bb_board.specs.proving.Deleted.{is_turn}
use Rattle.bb_board.proofs.state.State.add_partings.Given as goal

abbrev pub invariant-loop-partner : goal.invariant-loop-partner
invariant-loop-partner l =
    l.notes.items ++ flat_map (parting l.schema l.self l.deleted.unit l.end.1) (filter (is_turn l.deleted.gone.now l.end.0 l.deleted.unit) (drop l.partner-index l.partners))
    ≡ l.fn.notes.items ++ flat_map (parting l.fn.schema l.fn.self l.fn.deleted.unit l.fn.end.1) (filter (is_turn l.fn.deleted.gone.now l.fn.end.0 l.fn.deleted.unit) l.fn.partners)
