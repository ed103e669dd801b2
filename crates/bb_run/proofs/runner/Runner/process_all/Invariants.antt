use Rattle.std.proofs.Common.{◌≡◌, drop, false}
use Rattle.bb_run.specs.Processing.{events_in, processing_all}
use Rattle.std.specs.Prelude.{All}
use Rattle.bb_run.specs.Unstuck.{IsEventOf}
use Rattle.bb_run.specs.Seen.{seen}
use Rattle.bb_run.specs.Serving.{Serves}
use Rattle.bb_run.specs.Emitting.{Same, at}
use Rattle.bb_run.proofs.emitting.EmitLemmas.{HasEmitted}
use Rattle.bb_run.proofs.runner.Runner.process_all.Given as goal

abbrev pub invariant-loop-note : goal.invariant-loop-note
invariant-loop-note g l = record {
  emitted : HasEmitted l.plan (at g.O.Out.taken l.fn.self) (at g.O.Out.taken l.self) (processing_all l.plan (events_in l.notes) (seen g.N.NativeSource.meaning l.fn.state)) (processing_all l.plan (events_in (drop l.note-index l.notes)) (seen g.N.NativeSource.meaning l.state));
  same : Same l.fn.self l.self;
  serves : Serves l.plan (seen g.N.NativeSource.meaning l.state);
  events : All (IsEventOf l.plan.schema l.state.board) (events_in (drop l.note-index l.notes));
  still_open : g.O.Out.has_failed l.self.out.now ≡ false;
}
