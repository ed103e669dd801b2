use Rattle.std.proofs.Common.{◌≡◌, ◌-◌, ◌≤◌, drop, length}
use Rattle.bb_verify.specs.nesting.proving.OpenLoops.{sorted_below}
use Rattle.bb_verify.proofs.nesting.loop_list.sorted_below.Given as goal

abbrev pub invariant-loop-next : goal.invariant-loop-next
invariant-loop-next l = record { some : 1 ≤ l.next; so_far : sorted_below l.sorted (drop (l.next - 1) l.loops) ≡ sorted_below l.count l.loops }

abbrev pub decreases-loop-next : goal.decreases-loop-next
decreases-loop-next l = length l.loops - l.next
