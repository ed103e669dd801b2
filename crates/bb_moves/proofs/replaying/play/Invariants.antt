use Rattle.std.proofs.Common.{◌≡◌, None, false, map}
use Rattle.std.specs.Vec.Iter.{into_iter_items}
use Rattle.bb_run_held.specs.Making.{stands}
use Rattle.bb_run_held.specs.Moves.{played}
use Rattle.bb_shell.specs.Seen.{seen}
use Rattle.bb_moves.specs.Meant.{meant}
use Rattle.bb_moves.proofs.PlayLemmas.{IsPlayed}
use Rattle.bb_moves.proofs.replaying.play.Given as goal

abbrev pub invariant-loop-each : goal.invariant-loop-each
invariant-loop-each g l = record {
  whole : l.running.cut ≡ None;
  same_plan : l.running.plan ≡ l.fn.running.plan;
  takes : g.O.Out.has_failed l.out ≡ false;
  so_far : IsPlayed l.fn.running.plan
      (played l.fn.running.plan (map meant l.fn.moves.items) (stands (seen g.N.NativeSource.meaning l.fn.running.state) l.fn.running.made l.fn.running.pause))
      (map meant (into_iter_items l.each-iterator))
      (stands (seen g.N.NativeSource.meaning l.running.state) l.running.made l.running.pause)
      (g.O.Out.taken l.fn.out) (g.O.Out.taken l.out);
}
