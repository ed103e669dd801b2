use Rattle.std.proofs.Common.{◌∙◌, sym}
use Rattle.std.proofs.lemmas.Result.{IfOk-weaker}
use Rattle.bb_query.proofs.FitLemmas.{fitting_space}
use Rattle.bb_query.proofs.answer.walked.Goals as goal

pub member_count-requires : goal.member_count-requires
member_count-requires c =
    let asked = c.args.search.now in
    fitting_space asked.schema.now asked.spaces.now asked.query.now c.requires.knows.spaces c.requires.fits

pub members-requires : goal.members-requires
members-requires c =
    let asked = c.args.search.now in
    fitting_space asked.schema.now asked.spaces.now asked.query.now c.requires.knows.spaces c.requires.fits

pub returns-then-answers_all : goal.returns-then-answers_all
returns-then-answers_all c =
    IfOk-weaker c.members.result _ _ (λ list is. is ∙ sym (c.answers_all.ensures c.if-answers_all.true)) c.members.ensures
