use Rattle.std.proofs.Common.{take}
use Rattle.std.specs.Prelude.{All}
use Rattle.bb_rules.specs.Law.{HasSoundCodes}
use Rattle.bb_run_plan.proofs.plan.all_fit.Given as goal

-- the sources so far
abbrev pub invariant-loop-source : goal.invariant-loop-source
invariant-loop-source l = All HasSoundCodes (take l.source-index l.sources)
