use Rattle.std.proofs.Common.{◌-◌}
use Rattle.bb_units.specs.declared.units.TheConstants.{UNIT_LIMIT}
use Rattle.bb_board.proofs.PartLemmas.{AreParts}
use Rattle.bb_board.proofs.state.State.with_parts.Given as goal

abbrev pub invariant-loop-whole : goal.invariant-loop-whole
invariant-loop-whole l = AreParts l.schema l.self l.unit l.found l.place

abbrev pub decreases-loop-whole : goal.decreases-loop-whole
decreases-loop-whole l = UNIT_LIMIT - l.place
