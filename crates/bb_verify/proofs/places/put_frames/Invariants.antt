use Rattle.std.proofs.Common.{◌≡◌, drop}
use Rattle.bb_verify.specs.Places.{with_frames}
use Rattle.bb_verify.specs.proving.Numbered.{numbered_frames}
use Rattle.bb_verify.proofs.places.put_frames.Given as goal

abbrev pub invariant-loop-number : goal.invariant-loop-number
invariant-loop-number l = with_frames (numbered_frames l.frames l.all.items) (drop l.number l.frames) ≡ with_frames (numbered_frames l.frames l.fn.all.items) l.frames
