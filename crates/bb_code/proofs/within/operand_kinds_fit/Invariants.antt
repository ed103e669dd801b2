use Rattle.std.proofs.Common.{ℕ, ◌<◌, slice_index_or}
use Rattle.bb_pattern.specs.declared.value.OperandKind.{OperandKind}
use Rattle.bb_code.specs.Code.{IsOperandKind}
use Rattle.bb_code.proofs.within.operand_kinds_fit.Given as goal

-- the kinds so far fit
abbrev pub invariant-loop-kind : goal.invariant-loop-kind
invariant-loop-kind l = (k : ℕ) (d : OperandKind) → k < l.kind-index → IsOperandKind (slice_index_or l.kinds k d)
