use Rattle.std.proofs.Common.{◌≡◌, true, drop}
use Rattle.std.specs.List.{list_all}
use Rattle.bb_basis.specs.Results.{try_map}
use Rattle.bb_basis.proofs.IntoMapLemmas.{joined}
use Rattle.bb_board.specs.Fits.{is_said_of}
use Rattle.bb_machine.specs.Changing.{said_due}
use Rattle.bb_machine.proofs.changing.all_said.Given as goal

abbrev pub invariant-loop-value : goal.invariant-loop-value
invariant-loop-value l =
    (joined l.said.items (try_map (said_due l.board) (drop l.value-index l.values)) ≡ try_map (said_due l.board) l.values)
    × (list_all (is_said_of l.board.schema) l.said.items ≡ true)
