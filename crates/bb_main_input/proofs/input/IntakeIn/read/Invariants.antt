use Rattle.std.proofs.Common.{◌≡◌, false}
use Rattle.std.specs.Io.KnownBytes.{Keeps}
use Rattle.bb_main_input.proofs.input.IntakeIn.read.Given as goal

abbrev pub invariant-loop : goal.invariant-loop
invariant-loop g l = record {
  kept : Keeps (g.R.Read.remaining l.initial.self.reader) (g.R.Read.remaining l.self.reader);
  open_still : l.self.failed ≡ false;
}
