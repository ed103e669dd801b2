use Rattle.std.proofs.Common.{◌≡◌, ◌-◌, length, drop}
use Rattle.bb_machine.specs.Sequence.{from_live}
use Rattle.bb_machine.proofs.sequence.first_live.Given as goal

abbrev pub invariant-loop-place : goal.invariant-loop-place
invariant-loop-place l = from_live l.board.world.units (drop l.place l.units) ≡ from_live l.board.world.units (drop l.start l.units)

abbrev pub decreases-loop-place : goal.decreases-loop-place
decreases-loop-place l = length l.units - l.place
