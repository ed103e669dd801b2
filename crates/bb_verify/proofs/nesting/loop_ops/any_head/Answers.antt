use Rattle.std.proofs.Common.{◌∙◌, ap}
use Rattle.std.specs.Option.{option_to_list}
use Rattle.bb_verify.proofs.nesting_lemmas.OpenLemmas.{none_headed, one_headed}
use Rattle.bb_verify.proofs.nesting.loop_ops.any_head.Goals as goal

pub returns-in-None : goal.returns-in-None
returns-in-None c = none_headed c.args.place c.args.code.now.loops (c.requires.loops_at ∙ ap option_to_list c.in-None.is)

pub returns-in-Some : goal.returns-in-Some
returns-in-Some c = one_headed c.args.place c.args.code.now.loops _ (c.requires.loops_at ∙ ap option_to_list c.in-Some.is)
