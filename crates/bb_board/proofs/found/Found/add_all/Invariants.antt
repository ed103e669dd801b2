use Rattle.std.proofs.Common.{◌≡◌, drop}
use Rattle.std.specs.List.{fold}
use Rattle.bb_board.specs.proving.Found.{found_more}
use Rattle.bb_board.proofs.found.Found.add_all.Given as goal

abbrev pub invariant-loop-unit : goal.invariant-loop-unit
invariant-loop-unit l = fold found_more l.self (drop l.unit-index l.units) ≡ fold found_more l.fn.self l.fn.units
