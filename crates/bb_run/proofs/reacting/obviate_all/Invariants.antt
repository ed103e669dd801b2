use Rattle.std.proofs.Common.{◌≡◌}
use Rattle.std.specs.Vec.Iter.{into_iter_items}
use Rattle.bb_agenda.specs.Agenda.{pending_for}
use Rattle.bb_run.specs.Processing.{obviated_by, reacting_to_each}
use Rattle.bb_run.specs.Seen.{seen}
use Rattle.bb_run.specs.Serving.{ReactsToAll}
use Rattle.bb_run.proofs.responding.ResponseLemmas.{HasNoted}
use Rattle.bb_run.proofs.reacting.obviate_all.Given as goal

abbrev pub invariant-loop-activation : goal.invariant-loop-activation
invariant-loop-activation g l = record {
  emitted : HasNoted l.fn.notes.items l.notes.items (reacting_to_each l.event obviated_by l.reaction (pending_for l.fn.state.agenda l.fn.place) (seen g.N.NativeSource.meaning l.fn.state))
      (reacting_to_each l.event obviated_by l.reaction (into_iter_items l.activation-iterator) (seen g.N.NativeSource.meaning l.state));
  kept : l.state.board ≡ l.fn.state.board;
  begins : ReactsToAll l.reaction l.event l.fn.state.board (into_iter_items l.activation-iterator);
}
