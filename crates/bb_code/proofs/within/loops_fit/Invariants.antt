use Rattle.std.proofs.Common.{ℕ, ◌<◌, slice_index_or}
use Rattle.bb_code.specs.declared.frame.Loop.{Loop}
use Rattle.bb_code.specs.Code.{IsLoop}
use Rattle.bb_code.proofs.within.loops_fit.Given as goal

-- the loops so far fit
abbrev pub invariant-loop-l : goal.invariant-loop-l
invariant-loop-l l = (k : ℕ) (d : Loop) → k < l.l-index → IsLoop (slice_index_or l.loops k d)
