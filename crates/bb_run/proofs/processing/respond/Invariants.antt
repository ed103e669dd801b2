use Rattle.std.proofs.Common.{drop}
use Rattle.bb_run.specs.Processing.{response}
use Rattle.bb_run.specs.proving.Responding.{responses_at}
use Rattle.bb_run.specs.Seen.{seen}
use Rattle.bb_run.specs.Serving.{ServesAt}
use Rattle.bb_run.proofs.responding.ResponseLemmas.{HasNoted}
use Rattle.bb_run.proofs.processing.respond.Given as goal

abbrev pub invariant-loop-place : goal.invariant-loop-place
invariant-loop-place g l = record {
  emitted : HasNoted l.fn.notes.items l.notes.items (response l.plan l.event (seen g.N.NativeSource.meaning l.fn.state))
      (responses_at l.plan.schema l.event l.plan.sources (drop l.place-index l.place-items) (seen g.N.NativeSource.meaning l.state));
  serves : ServesAt l.plan l.event (seen g.N.NativeSource.meaning l.state);
}
