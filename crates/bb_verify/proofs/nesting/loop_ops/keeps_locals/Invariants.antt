use Rattle.std.proofs.Common.{◌≡◌, drop}
use Rattle.bb_code.specs.Each.{each}
use Rattle.bb_verify.specs.nesting.Loops.{keeps_local}
use Rattle.bb_verify.proofs.nesting.loop_ops.keeps_locals.Given as goal

abbrev pub invariant-loop-l : goal.invariant-loop-l
invariant-loop-l l = each (keeps_local l.code l.place l.local) (drop l.l-index l.loops) ≡ each (keeps_local l.code l.place l.local) l.loops
