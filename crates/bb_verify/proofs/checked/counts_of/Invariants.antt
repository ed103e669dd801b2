use Rattle.std.proofs.Common.{◌≡◌, take}
use Rattle.bb_verify.specs.proving.Depths.{counts_of}
use Rattle.bb_verify.proofs.checked.counts_of.Given as goal

abbrev pub invariant-loop-depth : goal.invariant-loop-depth
invariant-loop-depth l = l.counts ≡ counts_of (take l.depth-index l.depths)
