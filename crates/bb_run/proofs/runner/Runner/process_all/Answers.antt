use Rattle.std.proofs.Common.{◌+◌, None, drop, refl, subst, sym}
use Rattle.std.specs.Prelude.{All}
use Rattle.bb_trace.specs.Board.{Board as Blackboard}
use Rattle.bb_run.specs.Unstuck.{IsEventOf}
use Rattle.std.proofs.lemmas.Result.{err_from_is_err_and}
use Rattle.bb_run.specs.Processing.{events_in, processing_all}
use Rattle.bb_run.specs.Seen.{seen}
use Rattle.bb_run.specs.Emitting.{at}
use Rattle.bb_run.proofs.serving.ServeCycles.{event_there, events_left, events_passed, serves_next, serves_one}
use Rattle.bb_run.proofs.emitting.EmitLemmas.{at_note, event_cut, event_ends, event_made, events_end, nothing_emitted, same_then}
use Rattle.bb_run.proofs.runner.Runner.process_all.Goals as goal

pub loop-note-init : goal.loop-note-init
loop-note-init g c = record {
  emitted = nothing_emitted c.args.plan.now (at g.O.Out.taken c.args.self.now) (processing_all c.args.plan.now (events_in c.args.notes.now) (seen g.N.NativeSource.meaning c.args.state.now));
  same = (refl, refl);
  serves = c.requires.serves;
  events = c.requires.events;
  still_open = c.requires.open;
}

pub returns-in_err-end-clause-made : goal.returns-in_err-end-clause-made
returns-in_err-end-clause-made g c =
    let p = err_from_is_err_and c.from_residual.result c.from_residual.ensures.1 in
    rw (p.1, p.2) (event_cut c.args.plan.now (at g.O.Out.taken c.args.self.now) (at g.O.Out.taken c.loop-note.self) (at g.O.Out.taken c.process.new.self) (processing_all c.args.plan.now (events_in c.args.notes.now) (seen g.N.NativeSource.meaning c.args.state.now)) c.args.notes.now c.loop-note.note-index c.note-item.result
    c.in-Some.event (seen g.N.NativeSource.meaning c.loop-note.state) c.in_err-end.field-0.0 c.loop-note-test.true c.note-item.is c.in-Some.ensures c.loop-note.invariant.emitted c.in_err-end.ensures.made)

pub returns-in-Some-2-clause-made : goal.returns-in-Some-2-clause-made
returns-in-Some-2-clause-made g c =
    event_ends c.args.plan.now (at g.O.Out.taken c.args.self.now) (at g.O.Out.taken c.loop-note.self) (at g.O.Out.taken c.process.new.self) (processing_all c.args.plan.now (events_in c.args.notes.now) (seen g.N.NativeSource.meaning c.args.state.now)) c.args.notes.now c.loop-note.note-index c.note-item.result
    c.in-Some.event (seen g.N.NativeSource.meaning c.loop-note.state) (seen g.N.NativeSource.meaning c.process.new.state) c.in_ok-end.field-0 c.in-Some-2.end c.loop-note-test.true c.note-item.is c.in-Some.ensures c.loop-note.invariant.emitted c.in_ok-end.ensures.made c.in-Some-2.is

pub loop-note-preserved : goal.loop-note-preserved
loop-note-preserved g c = record {
  emitted =
      event_made c.args.plan.now (at g.O.Out.taken c.args.self.now) (at g.O.Out.taken c.loop-note.self) (at g.O.Out.taken c.process.new.self) (processing_all c.args.plan.now (events_in c.args.notes.now) (seen g.N.NativeSource.meaning c.args.state.now)) c.args.notes.now c.loop-note.note-index c.note-item.result
      c.in-Some.event (seen g.N.NativeSource.meaning c.loop-note.state) (seen g.N.NativeSource.meaning c.process.new.state) c.in_ok-end.field-0 c.loop-note-test.true c.note-item.is c.in-Some.ensures c.loop-note.invariant.emitted c.in_ok-end.ensures.made c.in_default-2.is;
  same = same_then c.args.self.now c.loop-note.self c.process.new.self c.loop-note.invariant.same c.in_ok-end.ensures.same;
  serves =
      (serves_next c.args.plan.now (seen g.N.NativeSource.meaning c.loop-note.state) c.loop-note.invariant.serves (at g.O.Out.taken c.loop-note.self) (at g.O.Out.taken c.process.new.self) c.in-Some.event (seen g.N.NativeSource.meaning c.process.new.state) c.in_ok-end.field-0
      (event_there (IsEventOf c.args.plan.now.schema c.loop-note.state.board) c.args.notes.now c.loop-note.note-index c.note-item.result c.in-Some.event c.loop-note-test.true c.note-item.is c.in-Some.ensures c.loop-note.invariant.events) c.in_ok-end.ensures.made).0;
  events =
      subst (λ (b : Blackboard). All (IsEventOf c.args.plan.now.schema b) (events_in (drop (c.loop-note.note-index + 1) c.args.notes.now)))
      (sym (serves_next c.args.plan.now (seen g.N.NativeSource.meaning c.loop-note.state) c.loop-note.invariant.serves (at g.O.Out.taken c.loop-note.self) (at g.O.Out.taken c.process.new.self) c.in-Some.event (seen g.N.NativeSource.meaning c.process.new.state) c.in_ok-end.field-0
      (event_there (IsEventOf c.args.plan.now.schema c.loop-note.state.board) c.args.notes.now c.loop-note.note-index c.note-item.result c.in-Some.event c.loop-note-test.true c.note-item.is c.in-Some.ensures c.loop-note.invariant.events) c.in_ok-end.ensures.made).1)
      (events_left (IsEventOf c.args.plan.now.schema c.loop-note.state.board) c.args.notes.now c.loop-note.note-index c.note-item.result c.in-Some.event c.loop-note-test.true c.note-item.is c.in-Some.ensures c.loop-note.invariant.events);
  still_open = c.in_ok-end.ensures.failed;
}

pub returns-clause-made : goal.returns-clause-made
returns-clause-made g c =
    events_end c.args.plan.now (at g.O.Out.taken c.args.self.now) (at g.O.Out.taken c.loop-note.self) (processing_all c.args.plan.now (events_in c.args.notes.now) (seen g.N.NativeSource.meaning c.args.state.now)) c.args.notes.now c.loop-note.note-index
    (seen g.N.NativeSource.meaning c.loop-note.state) c.loop-note-test.false c.loop-note.invariant.emitted

pub process-requires-clause-serves : goal.process-requires-clause-serves
process-requires-clause-serves g c =
    serves_one c.args.plan.now (seen g.N.NativeSource.meaning c.loop-note.state) c.loop-note.invariant.serves c.in-Some.event
    (event_there (IsEventOf c.args.plan.now.schema c.loop-note.state.board) c.args.notes.now c.loop-note.note-index c.note-item.result c.in-Some.event c.loop-note-test.true c.note-item.is c.in-Some.ensures c.loop-note.invariant.events)

pub loop-note-preserved-in_default : goal.loop-note-preserved-in_default
loop-note-preserved-in_default g c = record {
  emitted =
      at_note c.args.plan.now (at g.O.Out.taken c.args.self.now) (at g.O.Out.taken c.loop-note.self) (at g.O.Out.taken c.loop-note.self) (processing_all c.args.plan.now (events_in c.args.notes.now) (seen g.N.NativeSource.meaning c.args.state.now)) c.args.notes.now c.loop-note.note-index c.note-item.result
      None (seen g.N.NativeSource.meaning c.loop-note.state) c.loop-note-test.true c.note-item.is c.in_default.ensures c.loop-note.invariant.emitted;
  same = c.loop-note.invariant.same;
  serves = c.loop-note.invariant.serves;
  events = events_passed (IsEventOf c.args.plan.now.schema c.loop-note.state.board) c.args.notes.now c.loop-note.note-index c.note-item.result c.loop-note-test.true c.note-item.is c.in_default.ensures c.loop-note.invariant.events;
  still_open = c.loop-note.invariant.still_open;
}
