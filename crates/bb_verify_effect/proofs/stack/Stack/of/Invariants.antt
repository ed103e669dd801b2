use Rattle.std.proofs.Common.{◌≡◌, reverse, take}
use Rattle.bb_verify_effect.proofs.stack.Stack.of.Given as goal

abbrev pub invariant-loop-kind : goal.invariant-loop-kind
invariant-loop-kind l = l.stack ≡ reverse (take l.kind-index l.entries)
