use Rattle.std.proofs.Common.{◌≡◌}
use Rattle.std.specs.List.{fold, range_with_len}
use Rattle.bb_run_plan.specs.Foci.{told_unit, with_foci}
use Rattle.bb_run_plan.proofs.foci.tell_all.Given as goal

abbrev pub invariant-loop-unit : goal.invariant-loop-unit
invariant-loop-unit l = record {
  same : l.agenda ≡ with_foci l.fn.agenda l.agenda.foci;
  emitted : l.agenda.foci ≡ fold (told_unit l.board.schema l.board.world.units) l.fn.agenda.foci (range_with_len 0 l.unit);
}
