use Rattle.bb_verify_effect.specs.Kinds.{struck}
use Rattle.bb_verify_effect.proofs.StackLemmas.{change_next}
use Rattle.bb_verify_effect.proofs.kind.mark_stale.Goals as goal

pub loop-i-preserved : goal.loop-i-preserved
loop-i-preserved c = change_next (struck c.args.schema.now c.args.deleted) c.args.kinds.now c.loop-i.kinds c.loop-i.i _ c.struck.result c.loop-i-test.true c.loop-i.invariant c.struck.ensures
