use Rattle.std.proofs.Common.{◌≡◌, length}
use Rattle.bb_lint.specs.proving.Admitted.{AreAdmitted}
use Rattle.bb_lint.proofs.finds.admitted_by_space.Given as goal

abbrev pub invariant-loop-space : goal.invariant-loop-space
invariant-loop-space l = record {
  so_far : length l.lists.items ≡ l.space;
  right : AreAdmitted l.schema l.lists.items;
}
