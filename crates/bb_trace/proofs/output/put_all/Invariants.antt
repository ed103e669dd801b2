use Rattle.std.proofs.Common.{◌≡◌, false, length}
use Rattle.bb_trace.proofs.OutLemmas.{Sent}
use Rattle.bb_trace.proofs.output.put_all.Given as goal

abbrev pub invariant-loop-rest : goal.invariant-loop-rest
invariant-loop-rest g l = record {
  told : Sent (g.O.Out.taken l.fn.out) (g.O.Out.taken l.out) l.rest l.bytes;
  open_still : g.O.Out.has_failed l.out ≡ false;
}

abbrev pub decreases-loop-rest : goal.decreases-loop-rest
decreases-loop-rest g l = length l.rest
