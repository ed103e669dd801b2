use Rattle.std.proofs.Common.{◌∙◌, ap, sym, filter}
use Rattle.std.specs.Option.{option_to_list}
use Rattle.bb_verify.specs.nesting.Loops.{holds}
use Rattle.bb_verify.proofs.nesting_lemmas.OpenLemmas.{head_place, no_head_due, one_head_due}
use Rattle.bb_verify.proofs.nesting.loop_nesting.heads_due.Goals as goal

pub loop_due-requires : goal.loop_due-requires
loop_due-requires c =
    c.requires.holding
    ∙ ap (λ p. filter (holds p) c.args.code.now.loops) (sym (head_place c.args.place c.args.code.now.loops c.in-Some.l (c.requires.loops_at ∙ ap option_to_list c.in-Some.is)))

pub returns-in-None : goal.returns-in-None
returns-in-None c = no_head_due c.args.code.now c.args.place (c.requires.loops_at ∙ ap option_to_list c.in-None.is)

pub returns-in-Some : goal.returns-in-Some
returns-in-Some c = c.loop_due.ensures ∙ one_head_due c.args.code.now c.args.place c.in-Some.l (c.requires.loops_at ∙ ap option_to_list c.in-Some.is)
