use Rattle.std.proofs.Common.{◌≡◌, ◌≤◌, ℕ, length}
use Rattle.bb_agenda.specs.declared.rank.Rank.{Rank}
use Rattle.bb_agenda.specs.proving.Ranks.{is_ranked}
use Rattle.bb_agenda.proofs.order.reach.Given as goal

abbrev pub invariant-loop-order : goal.invariant-loop-order
invariant-loop-order l = record {
  long : l._order ≤ length l.orders.items;
  same : (s : ℕ) (r : Rank) → is_ranked l.orders.items s r ≡ is_ranked l.fn.orders.items s r;
}
