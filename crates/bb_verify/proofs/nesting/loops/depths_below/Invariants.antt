use Rattle.std.proofs.Common.{◌≡◌, ◌-◌, ◌≤◌, filter, map, take}
use Rattle.std.specs.List.{range_with_len}
use Rattle.bb_code.specs.Each.{each}
use Rattle.bb_verify.specs.nesting.Loops.{depth, loop_at}
use Rattle.bb_verify.specs.nesting.proving.OpenLoops.{stays, IsPassed}
use Rattle.bb_verify.proofs.nesting.loops.depths_below.Given as goal

abbrev pub invariant-loop-place : goal.invariant-loop-place
invariant-loop-place l = record {
  few : l.next ≤ l.place;
  met : IsPassed l.place l.next l.code.loops;
  around : l.around.items ≡ filter (stays l.place) (take l.next l.code.loops);
  depths : l.depths.items ≡ map (depth l.code) (range_with_len 0 l.place);
  so_far : each (loop_at l.code) (range_with_len l.place (l.sorted - l.place)) ≡ each (loop_at l.code) (range_with_len 0 l.sorted);
}
