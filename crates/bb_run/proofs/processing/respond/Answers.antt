use Rattle.std.proofs.Common.{subst, sym}
use Rattle.bb_run.specs.Processing.{response}
use Rattle.bb_run.specs.Seen.{seen}
use Rattle.bb_run.specs.Serving.{ServesAt}
use Rattle.bb_run.proofs.serving.ServeLemmas.{serves_at}
use Rattle.bb_run.proofs.responding.ResponseLemmas.{begun_at, place_made, place_over, places_done}
use Rattle.bb_run.proofs.processing.respond.Goals as goal

pub loop-place-init : goal.loop-place-init
loop-place-init g c = record {
  emitted = begun_at c.args.notes.now.items c.args.plan.now c.args.event c.concerned-place-items.result.now (seen g.N.NativeSource.meaning c.args.state.now) c.concerned-place-items.ensures;
  serves = c.requires.serves;
}

pub returns-in-Some : goal.returns-in-Some
returns-in-Some g c =
    place_over c.args.notes.now.items c.loop-place.notes.items (response c.args.plan.now c.args.event (seen g.N.NativeSource.meaning c.args.state.now)) c.args.plan.now.schema c.args.event c.args.plan.now.sources c.concerned-place-items.result.now c.loop-place.place-index (seen g.N.NativeSource.meaning c.loop-place.state)
    c.place_responds.new.notes.items (seen g.N.NativeSource.meaning c.place_responds.new.state) c.in_ok-end.field-0 c.loop-place-test.true c.loop-place.invariant.emitted c.in_ok-end.ensures
    c.in-Some.end c.in-Some.is

pub loop-place-preserved : goal.loop-place-preserved
loop-place-preserved g c =
    record {
      emitted =
          place_made c.args.notes.now.items c.loop-place.notes.items (response c.args.plan.now c.args.event (seen g.N.NativeSource.meaning c.args.state.now)) c.args.plan.now.schema c.args.event c.args.plan.now.sources c.concerned-place-items.result.now c.loop-place.place-index (seen g.N.NativeSource.meaning c.loop-place.state)
          c.place_responds.new.notes.items (seen g.N.NativeSource.meaning c.place_responds.new.state) c.in_ok-end.field-0 c.loop-place-test.true c.loop-place.invariant.emitted c.in_ok-end.ensures
          c.in_default.is;
      serves = subst (ServesAt c.args.plan.now c.args.event) (sym c.in_ok-end.ensures.state) (serves_at c.args.plan.now c.args.event (seen g.N.NativeSource.meaning c.loop-place.state) c.loop-place.invariant.serves _);
    }

pub returns : goal.returns
returns g c =
    places_done c.args.notes.now.items c.loop-place.notes.items (response c.args.plan.now c.args.event (seen g.N.NativeSource.meaning c.args.state.now)) c.args.plan.now.schema c.args.event c.args.plan.now.sources c.concerned-place-items.result.now c.loop-place.place-index (seen g.N.NativeSource.meaning c.loop-place.state)
    c.loop-place-test.false c.loop-place.invariant.emitted
