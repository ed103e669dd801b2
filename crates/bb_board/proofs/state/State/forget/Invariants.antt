use Rattle.std.proofs.Common.{◌≡◌, drop}
use Rattle.bb_board.specs.proving.Deleted.{AreLive, forgotten}
use Rattle.bb_board.proofs.state.State.forget.Given as goal

abbrev pub invariant-loop-unit : goal.invariant-loop-unit
invariant-loop-unit l = record {
  live : AreLive l.self.units (drop l.unit-index l.units);
  rest : forgotten l.self (drop l.unit-index l.units) ≡ forgotten l.fn.self l.fn.units;
}
