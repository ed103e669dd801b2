use Rattle.std.proofs.Common.{◌≡◌, ◌+◌, length}
use Rattle.std.specs.Vec.Iter.{into_iter_items}
use Rattle.bb_run.specs.Run.{each_applied}
use Rattle.bb_run.specs.Seen.{seen}
use Rattle.bb_run.proofs.responding.ResponseLemmas.{HasNoted}
use Rattle.bb_run.proofs.calling.apply_each.Given as goal

abbrev pub invariant-loop-ask : goal.invariant-loop-ask
invariant-loop-ask g l = record {
  noted : HasNoted l.fn.notes.items l.notes.items (each_applied 1 l.fn.asks.items (seen g.N.NativeSource.meaning l.fn.state)) (each_applied (l.number + 1) (into_iter_items l.ask-iterator) (seen g.N.NativeSource.meaning l.state));
  counted : l.number + length (into_iter_items l.ask-iterator) ≡ length l.fn.asks.items;
}
