use Rattle.std.proofs.Common.{◌∙◌}
use Rattle.bb_verify.proofs.nesting_lemmas.OpenLemmas.{nests_held}
use Rattle.bb_verify.proofs.nesting.loop_nesting.nests_around.Goals as goal

pub returns : goal.returns
returns c = c.nests_with_all.ensures ∙ nests_held c.args.code.now c.args.l c.args.around.now c.requires
