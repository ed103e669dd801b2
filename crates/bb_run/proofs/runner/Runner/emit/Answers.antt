use Rattle.bb_run.proofs.emitting.SegmentLemmas.{segment_emitted}
use Rattle.bb_run.proofs.runner.Runner.emit.Goals as goal

pub returns-clause-emitted : goal.returns-clause-emitted
returns-clause-emitted g c =
    segment_emitted c.args.plan.now (g.O.Out.taken c.args.self.now.out.now) (g.O.Out.taken c.spill.new.out) c.args.self.now.page.now c.add_segment.new.self c.spill.new.self c.args.notes.now c.spill.result c.in_ok-add_segment.ensures.added c.spill.ensures.written
