use Rattle.std.proofs.Common.{ℕ, ◌<◌, slice_index_or}
use Rattle.bb_code.specs.declared.frame.Kind.{Kind}
use Rattle.bb_code.specs.Code.{IsKind}
use Rattle.bb_code.proofs.within.kinds_fit.Given as goal

-- the kinds so far fit
abbrev pub invariant-loop-kind : goal.invariant-loop-kind
invariant-loop-kind l = (k : ℕ) (d : Kind) → k < l.kind-index → IsKind (slice_index_or l.kinds k d)
