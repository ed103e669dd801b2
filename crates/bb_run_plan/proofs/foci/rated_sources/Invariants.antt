use Rattle.std.proofs.Common.{◌≡◌, map, take}
use Rattle.bb_run_plan.specs.Foci.{rated_source}
use Rattle.bb_run_plan.proofs.foci.rated_sources.Given as goal

abbrev pub invariant-loop-source : goal.invariant-loop-source
invariant-loop-source l = l.rated.items ≡ map rated_source (take l.source-index l.sources)
