use Rattle.std.proofs.Common.{◌≡◌, length}
use Rattle.bb_agenda.specs.focusing.proving.Weights.{AreWeights}
use Rattle.bb_agenda.proofs.focusing.steering.reach.Given as goal

abbrev pub invariant-loop-place : goal.invariant-loop-place
invariant-loop-place l = record {
  weights : AreWeights l.setting l.foci l.weights.items;
  at : l.place ≡ length l.weights.items;
}
