use Rattle.std.proofs.Common.{◌≡◌, ◌++◌, take, drop}
use Rattle.bb_compile_scope.specs.LocalKinds.{paired, left_kind}
use Rattle.bb_compile_scope.proofs.local_kinds.leave_each.Given as goal

abbrev pub invariant-loop-i : goal.invariant-loop-i
invariant-loop-i l = l.kinds ≡ paired left_kind (take l.i l.before) (take l.i l.fn.kinds) ++ drop l.i l.fn.kinds
