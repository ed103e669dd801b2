use Rattle.std.proofs.Common.{◌≡◌, ◌++◌, map, take, drop}
use Rattle.bb_verify_effect.specs.Kinds.{struck}
use Rattle.bb_verify_effect.proofs.kind.mark_stale.Given as goal

abbrev pub invariant-loop-i : goal.invariant-loop-i
invariant-loop-i l = l.kinds ≡ map (struck l.schema l.deleted) (take l.i l.fn.kinds) ++ drop l.i l.fn.kinds
