use Rattle.std.proofs.Common.{ℕ, ◌<◌, slice_index_or}
use Rattle.bb_code.specs.declared.op.Op.{Op}
use Rattle.bb_code.specs.Code.{IsOp}
use Rattle.bb_code.proofs.within.are_ops.Given as goal

-- the ops so far may stand in a code
abbrev pub invariant-loop-op : goal.invariant-loop-op
invariant-loop-op l = (k : ℕ) (d : Op) → k < l.op-index → IsOp (slice_index_or l.ops k d)
