use Rattle.std.proofs.Common.{subst}
use Rattle.std.specs.Prelude.{All}
use Rattle.std.proofs.lemmas.List.{take_all}
use Rattle.std.proofs.lemmas.List.Elements.{All-more}
use Rattle.bb_rules.specs.Law.{HasSoundCodes}
use Rattle.bb_run_plan.proofs.plan.all_fit.Goals as goal

pub loop-source-preserved : goal.loop-source-preserved
loop-source-preserved c = All-more HasSoundCodes c.args.sources.now c.loop-source.source-index c.source-item.result c.loop-source-test.true c.loop-source.invariant (subst HasSoundCodes c.source-item.is c.fits.ensures)

pub returns : goal.returns
returns c = subst (All HasSoundCodes) (take_all c.loop-source.source-index c.args.sources.now c.loop-source-test.false) c.loop-source.invariant
