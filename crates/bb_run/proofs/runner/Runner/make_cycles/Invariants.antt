use Rattle.std.proofs.Common.{◌≡◌, ◌+◌, ◌-◌, false}
use Rattle.bb_run.specs.Run.{cycles}
use Rattle.bb_run.specs.Knowing.{Knows}
use Rattle.bb_run.specs.Seen.{seen}
use Rattle.bb_run.specs.Serving.{Serves}
use Rattle.bb_run.specs.Emitting.{Same, at}
use Rattle.bb_run.specs.Turns.{choices_of}
use Rattle.bb_run.proofs.emitting.EmitLemmas.{HasEmitted}
use Rattle.bb_run.proofs.runner.Runner.make_cycles.Given as goal

abbrev pub invariant-loop-done : goal.invariant-loop-done
invariant-loop-done g l = record {
  emitted : HasEmitted l.plan (at g.O.Out.taken l.fn.self) (at g.O.Out.taken l.self) (cycles l.plan l.fn.made (l.last - l.fn.made) (seen g.N.NativeSource.meaning l.fn.state)) (cycles l.plan l.done (l.last - l.done) (seen g.N.NativeSource.meaning l.state));
  made_is : l.made ≡ l.done;
  counts : l.fn.made + choices_of (cycles l.plan l.fn.made (l.last - l.fn.made) (seen g.N.NativeSource.meaning l.fn.state)) ≡ l.made + choices_of (cycles l.plan l.done (l.last - l.done) (seen g.N.NativeSource.meaning l.state));
  still_open : g.O.Out.has_failed l.self.out.now ≡ false;
  same : Same l.fn.self l.self;
  knows : Knows l.plan (seen g.N.NativeSource.meaning l.state);
  serves : Serves l.plan (seen g.N.NativeSource.meaning l.state);
}
