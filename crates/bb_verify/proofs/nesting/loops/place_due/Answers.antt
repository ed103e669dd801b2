use Rattle.std.proofs.Common.{◌∙◌, ap, sym}
use Rattle.bb_verify.specs.nesting.Loops.{place_due}
use Rattle.bb_verify.proofs.nesting_lemmas.OpenLemmas.{right_here, due_rest}
use Rattle.bb_verify.proofs.nesting.loops.place_due.Goals as goal

pub rest_due-requires-clause-right : goal.rest_due-requires-clause-right
rest_due-requires-clause-right c = right_here c.args.code.now c.args.place c.in-Some.op c.requires.right (sym c.requires.there ∙ c.in-Some.is)

pub returns-in-None : goal.returns-in-None
unfolding place_due
returns-in-None c = sym (ap (place_due c.args.code.now c.args.place) c.in-None.is)

pub returns-in-Some : goal.returns-in-Some
returns-in-Some c =
    c.rest_due.ensures ∙ (due_rest c.args.code.now c.args.place c.in-Some.op c.requires.at.rises
    ∙ sym (ap (place_due c.args.code.now c.args.place) c.in-Some.is))
