use Rattle.std.proofs.Common.{◌≡◌, length}
use Rattle.std.specs.Prelude.{option_map}
use Rattle.bb_agenda.specs.focusing.proving.Weights.{AreShifted}
use Rattle.bb_agenda.proofs.focusing.steering.shift.Given as goal

abbrev pub invariant-loop-place : goal.invariant-loop-place
invariant-loop-place l = record {
  shifted : AreShifted l.setting (option_map (λ f. f.now) l.fn.gone) (option_map (λ f. f.now) l.fn.new) l.place l.fn.weights.items l.weights.items;
  same : length l.weights.items ≡ length l.fn.weights.items;
}
