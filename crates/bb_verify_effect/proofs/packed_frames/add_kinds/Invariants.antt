use Rattle.std.proofs.Common.{◌≡◌, ◌+◌, ◌-◌, ◌++◌, drop, length}
use Rattle.std.specs.Vec.{vec_capacity, vec_len}
use Rattle.bb_verify_effect.proofs.packed_frames.add_kinds.Given as goal

abbrev pub invariant-loop-kind : goal.invariant-loop-kind
invariant-loop-kind l =
    (l.kinds.items ++ drop l.kind-index l.more ≡ l.fn.kinds.items ++ l.fn.more)
    × (vec_len l.kinds + (length l.more - l.kind-index) ≡ vec_len l.fn.kinds + length l.fn.more)
    × (vec_capacity l.kinds ≡ vec_capacity l.fn.kinds)
