use Rattle.std.proofs.Common.{◌≡◌, ◌≤◌, ◌-◌, false, length}
use Rattle.std.specs.Io.KnownBytes.{Consumes}
use Rattle.bb_main_input.specs.declared.read.TheConstants.{INPUT_LIMIT}
use Rattle.bb_main_input.proofs.read.read_input.Given as goal

abbrev pub invariant-loop-input : goal.invariant-loop-input
invariant-loop-input g l = record {
  within : length l.input.items ≤ INPUT_LIMIT;
  taken : Consumes (g.R.In.remaining l.initial.reader) (g.R.In.remaining l.reader) l.input.items;
  open_still : g.R.In.has_failed l.reader ≡ false;
}

abbrev pub decreases-loop-input : goal.decreases-loop-input
decreases-loop-input g l = INPUT_LIMIT - length l.input.items
