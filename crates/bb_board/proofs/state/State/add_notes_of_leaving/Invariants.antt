use Rattle.std.proofs.Common.{◌≡◌, ◌++◌, map, drop}
use Rattle.bb_board.specs.declared.event.Change.TheVariants.{Leave}
use Rattle.bb_board.specs.World.{event, class_at}
use Rattle.bb_board.specs.Spaces.{leavings}
use Rattle.bb_board.proofs.state.State.add_notes_of_leaving.Given as goal

abbrev pub invariant-loop-space : goal.invariant-loop-space
invariant-loop-space l =
    l.notes.items ++ map (λ space. event l.unit (class_at l.self l.unit) (Leave space)) (drop l.space-index l.spaces) ≡ l.fn.notes.items ++ leavings l.self l.unit
