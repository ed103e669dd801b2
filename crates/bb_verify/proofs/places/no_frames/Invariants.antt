use Rattle.std.proofs.Common.{◌≡◌, None, replicate}
use Rattle.bb_verify.proofs.places.no_frames.Given as goal

abbrev pub invariant-loop-place : goal.invariant-loop-place
invariant-loop-place l = l.all.items ≡ replicate l.place None
