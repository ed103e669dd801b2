use Rattle.std.proofs.Common.{◌≡◌, true, false, length, take, ◌-◌, ◌<◌, ◌≤◌}
use Rattle.bb_diag.specs.Early.{is_early}
use Rattle.bb_diag.proofs.bundle_notes.fault_byte.Given as goal

abbrev pub invariant-loop-high : goal.invariant-loop-high
invariant-loop-high l = record {
  apart : l.low < l.high;
  within : l.high ≤ length l.bytes;
  early : is_early (take l.low l.bytes) ≡ true;
  late : is_early (take l.high l.bytes) ≡ false;
}

abbrev pub decreases-loop-high : goal.decreases-loop-high
decreases-loop-high l = l.high - l.low
