use Rattle.bb_run.specs.Seen.{seen}
use Rattle.bb_run.proofs.responding.ResponseLemmas.{none_responds, one_responds}
use Rattle.bb_run.proofs.processing.place_responds.Goals as goal

pub returns-in-None : goal.returns-in-None
returns-in-None g c =
    none_responds c.args.plan.now.schema c.args.event c.args.plan.now.sources c.sources.result.now c.args.place (seen g.N.NativeSource.meaning c.args.state.now) c.args.notes.now.items
    c.in-None.ensures c.sources.ensures.sources

pub returns-in-Some : goal.returns-in-Some
returns-in-Some g c =
    one_responds c.source_responds.result c.args.notes.now.items c.source_responds.new.notes.items (seen g.N.NativeSource.meaning c.source_responds.new.state) c.args.plan.now.schema c.args.event
    c.args.plan.now.sources c.sources.result.now c.args.place c.in-Some.source.now (seen g.N.NativeSource.meaning c.args.state.now) c.in-Some.ensures c.sources.ensures.sources c.source_responds.ensures
