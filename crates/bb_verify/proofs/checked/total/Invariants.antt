use Rattle.std.proofs.Common.{◌≡◌, ◌*◌, ◌≤◌, get_or}
use Rattle.std.specs.List.{range_with_len, sum_by}
use Rattle.bb_verify.specs.Budget.{turns}
use Rattle.bb_verify.proofs.checked.total.Given as goal

abbrev pub invariant-loop-loops : goal.invariant-loop-loops
invariant-loop-loops l = (l.sum ≡ sum_by (λ k. get_or l.places_in k 0 * turns l.found k) (range_with_len 0 l.loops)) × (l.sum ≤ l.loops * 1208981160409791666651135)
