use Rattle.std.proofs.Common.{◌∙◌}
use Rattle.bb_verify.proofs.nesting_lemmas.OpenLemmas.{keeps_held}
use Rattle.bb_verify.proofs.nesting.loop_ops.keeps_around.Goals as goal

pub returns : goal.returns
returns c = c.keeps_locals.ensures ∙ keeps_held c.args.code.now c.args.place c.args.local c.args.around.now c.requires.holding
