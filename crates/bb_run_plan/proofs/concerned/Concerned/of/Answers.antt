use Rattle.bb_run_plan.specs.Concerned.{concerned_from}
use Rattle.bb_run_plan.specs.proving.Concerned.{places_for}
use Rattle.bb_run_plan.proofs.ConcernedLemmas.{source_added, sources_added}
use Rattle.bb_run_plan.proofs.concerned.Concerned.of.Goals as goal

pub loop-place-init : goal.loop-place-init
unfolding concerned_from
loop-place-init c event = c.new-concerned.ensures event

pub loop-place-preserved : goal.loop-place-preserved
loop-place-preserved c event =
    source_added event c.args.sources.now c.loop-place.place c.index-sources-place.result (places_for c.loop-place.concerned event) (places_for c.add_source.new.self event)
    c.loop-place-test.true c.index-sources-place.is (c.loop-place.invariant event) (c.in_ok-add_source.ensures event)

pub returns : goal.returns
returns c event = sources_added event c.args.sources.now c.loop-place.place (places_for c.loop-place.concerned event) c.loop-place-test.false (c.loop-place.invariant event)
