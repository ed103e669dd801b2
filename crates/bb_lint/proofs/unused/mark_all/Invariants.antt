use Rattle.std.proofs.Common.{◌≡◌, drop}
use Rattle.bb_lint.specs.Unused.{all_named}
use Rattle.bb_lint.proofs.unused.mark_all.Given as goal

abbrev pub invariant-loop-op : goal.invariant-loop-op
invariant-loop-op l = all_named l.table.items (drop l.op-index l.ops) ≡ all_named l.fn.table.items l.ops
